-- A world in which a call settles a value still follows the record, where the call settles it too.
use Rattle.std.proofs.Common.{◌≡◌, ℕ, suc, true, false, List, map, Option, Some, None, IsSome, arith}
use Rattle.std.proofs.Common.{refl, sym, subst, ap, ◌∙◌, slice_get}
use Rattle.std.proofs.lemmas.Option.{same_Some, slice_get-map}
use Rattle.bank.specs.declared.kind.Kind.{Kind}
use Rattle.mail.specs.declared.phase.Taken.{Taken}
use Rattle.mail.specs.Phase.{Phase, lacks_pieces}
use Rattle.record.specs.declared.stage.Want.TheVariants as want
use Rattle.record.specs.Fragments.{Code, HasPieces}
use Rattle.record.specs.Legal.{first_stage, due_of}
use Rattle.record.specs.PhaseOrder.{begun_at, stage_after}
use Rattle.record.specs.Records.{Call, Object, layout_at}
use Rattle.record.specs.Steps.{Step, on_call, settled_object}
use Rattle.record.specs.Wants.{is_fetch, value_len, want_after}
use Rattle.soundness.proofs.ListLemmas.{all_weaker, set_here}
use Rattle.soundness.proofs.Sound.ChangedCallLemmas.{moves_set}
use Rattle.network.specs.Unstamped.{unstamped_phase, unstamped_taken}
use Rattle.network.specs.Worlds.{World, known_layouts, parts_of}
use Rattle.open_calls.specs.OpenCalls.{NodeCall, open_call}
use Rattle.network.specs.Events.{Event, on_open}
use Rattle.network.specs.Following.{LeadsOn, IsOpenIn, last_step_after}
use Rattle.network.specs.Followed.{IsFollowed}
use Rattle.network.proofs.ChangedCallLemmas.{changed_follow, own_entry, with_new, with_one}
use Rattle.network.proofs.CurrentPhaseLemmas.{current_is, ended_is, fetch_is, kind_is, lacks_is, want_is}
use Rattle.network.proofs.OneFileLemmas.{layouts_known}
use Rattle.open_calls.proofs.OpenCallLemmas.{found}
use Rattle.network.proofs.StepLemmas.{one_step}

taken_there : (xs : List Taken) (place : ℕ) (taken : Taken) → slice_get (map unstamped_taken xs) place ≡ Some taken →
    (original : Taken) × (slice_get xs place ≡ Some original) × (unstamped_taken original ≡ taken)
taken_there xs place taken at = grind (arith, same_Some, slice_get-map)

-- pieces that a phase without stamps took, the phase took
has_pieces : (fragment : Code) (world : World) (node : ℕ) (object : Object) (phase : Phase) (value : List ℕ) →
    object.layouts ≡ known_layouts world node → HasPieces fragment (parts_of world node) (unstamped_phase phase) value →
    HasPieces fragment object phase value
has_pieces fragment world node object phase value layouts has = grind (arith, all_weaker, taken_there)

entry_settled : (call : Call) (settled : Option (List ℕ)) → call.answered ≡ None →
    own_entry (record call { settled = settled }) ≡ own_entry call
entry_settled call settled none = grind arith

want_settle : (object : Object) (next : Option (Kind × ℕ)) (settled : Option (List ℕ)) (last : Phase) → IsSome last.end →
    is_fetch last.kind ≡ true → settled ≡ None → lacks_pieces last ≡ false →
    want_after object next settled (Some last) ≡ want.Settle (layout_at object last.position).k (value_len last.replies)
want_settle object next settled last ended fetch none enough = rw (ended, fetch, none, enough) refl

settled_open : (object : Object) (value : List ℕ) (old : NodeCall) (is : IsOpenIn object old) →
    IsOpenIn (with_new object object.mail is.index (record is.call { settled = Some value })) (record old { settled = Some value })
settled_open object value old is =
    let call : Call = record is.call { settled = Some value } in record {
      index = is.index;
      call = call;
      at = set_here object.calls is.index is.call call is.at;
      id = is.id;
      kind = is.kind;
      settled = refl;
      unanswered = is.unanswered;
      earlier = is.earlier;
      last = is.last;
      phases = is.phases;
      phase = is.phase;
      stage = is.stage
          ∙ ap (λ moves. begun_at (stage_after is.call.kind is.call.id (first_stage is.call.kind moves) is.earlier) is.last.position)
          (sym (moves_set object.calls is.index is.index is.call call is.at refl));
    }

pub settle_followed : (id : ℕ) (value : List ℕ) → IsFollowed (Event.Settle id value)
settle_followed id value fragment world object code sound follows may premised =
    let old = may.0 in
    let fetched = may.2 in
    let held = found (IsOpenIn object) world.calls id old follows.calls may.1 in
    let is = held.0 in
    let call : Call = record is.call { settled = Some value } in
    let new : NodeCall = record old { settled = Some value } in
    let kind = kind_is object old is in
    let unsettled : is.call.settled ≡ None = sym is.settled ∙ fetched.unsettled in
    let enough : lacks_pieces is.last ≡ false = sym (lacks_is object old is) ∙ fetched.enough in
    let wants = want_is object old is
    ∙ want_settle object (due_of object is.index is.call) is.call.settled is.last (ended_is object old is fetched.complete)
    (fetch_is is.last.kind (fetched.fetch.0, sym kind ∙ fetched.fetch.1)) unsettled enough in
    let pieces = has_pieces fragment world old.node object is.last value (follows.layouts ∙ layouts_known world follows.one old.node)
    (subst (λ p. HasPieces fragment (parts_of world old.node) p value) is.phase fetched.pieces) in
    let led : LeadsOn fragment object (last_step_after world.now) (with_one world new world.sent) =
    one_step fragment object world.now (Step.Settle is.index value) (with_new object object.mail is.index call)
    (with_one world new world.sent) code refl sound
    (record {
      call = is.call;
      k = (layout_at object is.last.position).k;
      len = value_len is.last.replies;
      wants = (is.at, wants);
      phase = is.last;
      current = current_is object old is;
      pieces = pieces;
      is_value = fetched.is_value;
    })
    (ap (λ o. on_call object o (λ c. settled_object object is.index c value)) is.at)
    (changed_follow world object old new is call object.mail world.sent follows (ap (open_call world.calls) held.1 ∙ may.1)
    refl refl refl refl (entry_settled is.call (Some value) is.unanswered) follows.sent (settled_open object value old is)) in
    subst (λ o. LeadsOn fragment object (last_step_after world.now) (on_open (record world { now = suc world.now }) o
    (λ c. with_one world (record c { settled = Some value }) world.sent))) (sym may.1) led
