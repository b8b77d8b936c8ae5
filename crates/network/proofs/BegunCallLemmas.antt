-- A world in which a node begins a call still follows the record, which begins the call too.
use Rattle.std.proofs.Common.{◌≡◌, ℕ, zero, suc, ◌⊎◌, false, cond, eqb, eqb-true, List, [], ◌∷◌, ◌++◌, length, map, arith}
use Rattle.std.proofs.Common.{Some, None, take, get_or, refl, sym, ap, ◌∙◌, inl, inr, slice_get}
use Rattle.std.proofs.lemmas.List.{map-append}
use Rattle.std.proofs.lemmas.Option.{same_Some}
use Rattle.std.proofs.Math.Seq.{set-append_seam}
use Rattle.layout.specs.Layout.{Layout}
use Rattle.bank.specs.Bank.{empty_piece}
use Rattle.bank.specs.declared.kind.Kind.{Kind}
use Rattle.bank.specs.declared.kind.Kind.TheVariants.{Next}
use Rattle.record.specs.declared.call.CallKind.{CallKind}
use Rattle.record.specs.declared.call.CallKind.TheVariants.{Read, Write, Move}
use Rattle.record.specs.declared.call.Entry.{Entry}
use Rattle.record.specs.declared.stage.Stage.{Stage}
use Rattle.record.specs.Fragments.{Code, IsCode}
use Rattle.record.specs.Journals.{entry_value, operation_of}
use Rattle.record.specs.Legal.{first_stage, is_move, moves_in}
use Rattle.record.specs.PhaseOrder.{begun_at, stage_after}
use Rattle.record.specs.Preconditions.{MayStep}
use Rattle.record.specs.Records.{Call, Object, base_of, layout_at, no_layout}
use Rattle.record.specs.Sending.{requests}
use Rattle.record.specs.Steps.{Step, stepped, called_object, new_call, new_phase}
use Rattle.soundness.proofs.ListLemmas.{all_push, all_weaker, get_push}
use Rattle.soundness.specs.Sound.{IsSound}
use Rattle.network.specs.Unstamped.{unstamped_message}
use Rattle.network.specs.Worlds.{World, known_layout}
use Rattle.open_calls.specs.OpenCalls.{NodeCall, open_call}
use Rattle.network.specs.Events.{Event, begun_world, called_world}
use Rattle.network.specs.Following.{Follows, LeadsOn, IsOpenIn, IsOpenMove, entry_in_steps, last_step_after}
use Rattle.network.specs.Followed.{IsFollowed}
use Rattle.network.specs.Premises.{IsUnused}
use Rattle.network.proofs.AnsweredCallLemmas.{is_false}
use Rattle.network.proofs.BegunPhaseLemmas.{requests-bare}
use Rattle.network.proofs.ChangedCallLemmas.{own_entry}
use Rattle.network.proofs.CurrentPhaseLemmas.{base_zero}
use Rattle.network.proofs.EntryOfCallLemmas.{new_id}
use Rattle.network.proofs.OneFileLemmas.{layouts_known}
use Rattle.open_calls.proofs.OpenCallLemmas.{found_last, found_push}
use Rattle.network.proofs.StepLemmas.{get_end, one_step}

-- One more call

moves_push : (calls : List Call) (new call : Call) (index : ℕ) → slice_get calls index ≡ Some call →
    moves_in (take index (calls ++ new ∷ [])) ≡ moves_in (take index calls)
moves_push [] new call index at = absurd (cc)
moves_push (first ∷ calls) new call zero at = refl
moves_push (first ∷ calls) new call (suc index) at =
    ap (λ n. cond (is_move first.kind) (suc n) n) (moves_push calls new call index at)

pub moves_before : (calls : List Call) (new : Call) → moves_in (take (length calls) (calls ++ new ∷ [])) ≡ moves_in calls
moves_before [] new = refl
moves_before (first ∷ calls) new = ap (λ n. cond (is_move first.kind) (suc n) n) (moves_before calls new)

pushed : {A : Type 0} (xs : List A) (y x : A) (i : ℕ) → slice_get (xs ++ y ∷ []) i ≡ Some x →
    (slice_get xs i ≡ Some x) ⊎ ((i ≡ length xs) × (y ≡ x))
pushed [] y x zero e = inr (refl, same_Some y x e)
pushed [] y x (suc i) e = absurd (cc)
pushed (z ∷ zs) y x zero e = inl e
pushed (z ∷ zs) y x (suc i) e = go (pushed zs y x i e)
  where
    go : (slice_get zs i ≡ Some x) ⊎ ((i ≡ length zs) × (y ≡ x)) →
        (slice_get zs i ≡ Some x) ⊎ ((suc i ≡ suc (length zs)) × (y ≡ x))
    go (inl before) = inl before
    go (inr last) = inr (ap suc last.0, last.1)

-- the record with a call more, whose first phase has begun, and its requests in the mail
abbrev pub with_begun : Object → (id : ℕ) → CallKind → Kind → (position now : ℕ) → Object
with_begun object id kind phase_kind position now =
    record object {
      calls = object.calls ++ record (new_call id kind now) {
        phases = new_phase id 1 phase_kind position (layout_at object position) now ∷ [];
      } ∷ [];
      mail = object.mail ++ requests id 1 phase_kind position (layout_at object position).members 0 empty_piece;
    }

pub added_follow : (world : World) (object : Object) → Follows world object → (node id : ℕ) (kind : CallKind) (stage : Stage)
    (phase_kind : Kind) (position : ℕ) → IsUnused world id →
    stage ≡ begun_at (first_stage kind (moves_in object.calls)) position → (kind ≡ Move → node ≡ (world.files 0).mover) →
    Follows (begun_world (record world { now = suc world.now }) node id kind stage phase_kind position)
    (with_begun object id kind phase_kind position (last_step_after (suc world.now)))
added_follow world object follows node id kind stage phase_kind position unused begun by_mover = record {
  one = follows.one;
  delta = follows.delta;
  layouts = follows.layouts;
  banks = follows.banks;
  sent = map-append unstamped_message object.mail
      (requests id 1 phase_kind position (layout_at object position).members 0 empty_piece)
      ∙ ap (λ l. l ++ map unstamped_message
      (requests id 1 phase_kind position (layout_at object position).members 0 empty_piece)) follows.sent
      ∙ ap (λ l. world.sent ++ l)
      (requests-bare id 1 phase_kind position (layout_at object position).members 0 empty_piece
      ∙ ap (λ (l : Layout). requests id 1 phase_kind position l.members 0 empty_piece) same_layout);
  history = map-append own_entry object.calls (record_call tt ∷ [])
      ∙ ap (λ l. l ++ own_entry (record_call tt) ∷ []) follows.history
      ∙ sym (map-append entry_in_steps world.history (new_entry tt ∷ []));
  calls = all_push (IsOpenIn (new tt)) world.calls (carried tt)
      (all_weaker (IsOpenIn object) (IsOpenIn (new tt)) (λ other is. grown other is) world.calls follows.calls) carried_is;
  moves = λ index call at move none. was_move index call move none (pushed object.calls (record_call tt) call index at);
  kept = follows.kept;
}
  where
    record_call : Unit {0} → Call
    record_call u = record (new_call id kind (last_step_after (suc world.now))) {
      phases = new_phase id 1 phase_kind position (layout_at object position) (last_step_after (suc world.now)) ∷ [];
    }

    new : Unit {0} → Object
    new u = with_begun object id kind phase_kind position (last_step_after (suc world.now))

    carried : Unit {0} → NodeCall
    carried u = record {
      node = node;
      id = id;
      kind = kind;
      settled = None;
      stage = stage;
      phase = new_phase id 1 phase_kind position (known_layout world node position) 0;
    }

    new_entry : Unit {0} → Entry
    new_entry u = record {
      call = id;
      kind = operation_of kind;
      called = suc world.now;
      answered = None;
      value = entry_value kind None None;
    }

    same_layout : layout_at object position ≡ known_layout world node position
    same_layout = ap (λ layouts. get_or layouts position no_layout) (follows.layouts ∙ layouts_known world follows.one node)

    grown : (other : NodeCall) → IsOpenIn object other → IsOpenIn (new tt) other
    grown other is = record {
      index = is.index;
      call = is.call;
      at = get_push object.calls (record_call tt) is.call is.index is.at;
      id = is.id;
      kind = is.kind;
      settled = is.settled;
      unanswered = is.unanswered;
      earlier = is.earlier;
      last = is.last;
      phases = is.phases;
      phase = is.phase;
      stage = is.stage
          ∙ ap (λ moves. begun_at (stage_after is.call.kind is.call.id (first_stage is.call.kind moves) is.earlier) is.last.position)
          (sym (moves_push object.calls (record_call tt) is.call is.index is.at));
    }

    carried_is : IsOpenIn (new tt) (carried tt)
    carried_is = record {
      index = length object.calls;
      call = record_call tt;
      at = get_end object.calls (record_call tt);
      id = refl;
      kind = refl;
      settled = refl;
      unanswered = refl;
      earlier = [];
      last = new_phase id 1 phase_kind position (layout_at object position) (last_step_after (suc world.now));
      phases = refl;
      phase = ap (λ l. new_phase id 1 phase_kind position l 0) (sym same_layout);
      stage = begun ∙ ap (λ moves. begun_at (first_stage kind moves) position) (sym (moves_before object.calls (record_call tt)));
    }

    other_id : (other : NodeCall) → IsOpenIn object other → eqb other.id id ≡ false
    other_id other is =
        is_false (eqb other.id id)
        (λ same. new_id world object follows id unused is.index is.call is.at (sym is.id ∙ eqb-true other.id id same))

    was_move : (index : ℕ) (call : Call) → call.kind ≡ Move → call.answered ≡ None →
        (slice_get object.calls index ≡ Some call) ⊎ ((index ≡ length object.calls) × (record_call tt ≡ call)) →
        IsOpenMove (begun_world (record world { now = suc world.now }) node id kind stage phase_kind position) call.id
    was_move index call move none (inl there) =
        let before = follows.moves index call there move none in record {
          carried = before.carried;
          found = found_push world.calls (carried tt) before.carried call.id before.found;
          kind = before.kind;
          node = before.node;
        }
    was_move index call move none (inr last) =
        let is_move : kind ≡ Move = ap (λ (c : Call). c.kind) last.1 ∙ move in record {
          carried = carried tt;
          found = ap (open_call (world.calls ++ carried tt ∷ [])) (sym (ap (λ (c : Call). c.id) last.1))
              ∙ found_last world.calls (carried tt)
              (all_weaker (IsOpenIn object) (λ other. eqb other.id id ≡ false) (λ other is. other_id other is) world.calls follows.calls);
          kind = is_move;
          node = by_mover is_move;
        }

-- Reads and writes

called_is : (object : Object) (id : ℕ) (kind : CallKind) (now : ℕ) → base_of object ≡ 0 →
    called_object object id kind now ≡ with_begun object id kind Next 0 now
called_is object id kind now base = grind (arith, set-append_seam)

call_followed : (step : Step) (kind : CallKind) (fragment : Code) (world : World) (object : Object) (node id : ℕ) → IsCode fragment →
    IsSound fragment object (last_step_after world.now) → Follows world object → IsUnused world id →
    MayStep fragment object step →
    stepped fragment step (last_step_after (suc world.now)) object ≡ called_object object id kind (last_step_after (suc world.now)) →
    begun_at (first_stage kind 0) 0 ≡ begun_at (first_stage kind (moves_in object.calls)) 0 → (kind ≡ Move → ⊥) →
    LeadsOn fragment object (last_step_after world.now) (called_world (record world { now = suc world.now }) node id kind)
call_followed step kind fragment world object node id code sound follows unused may is begun no_move =
    one_step fragment object world.now step (with_begun object id kind Next 0 (last_step_after (suc world.now)))
    (called_world (record world { now = suc world.now }) node id kind) code refl sound may
    (is ∙ called_is object id kind (last_step_after (suc world.now)) (base_zero object follows.kept))
    (added_follow world object follows node id kind (begun_at (first_stage kind 0) 0) Next 0 unused begun
    (λ move. absurd (no_move move)))

pub read_followed : (node id : ℕ) → IsFollowed (Event.BeginRead node id)
read_followed node id fragment world object code sound follows may premised =
    call_followed (Step.CallRead id) Read fragment world object node id code sound follows premised.ids
    (new_id world object follows id premised.ids) refl refl (λ e. absurd (cc))

pub write_followed : (node id : ℕ) (value : List ℕ) → IsFollowed (Event.BeginWrite node id value)
write_followed node id value fragment world object code sound follows may premised =
    call_followed (Step.CallWrite id value) (Write value) fragment world object node id code sound follows premised.ids
    (new_id world object follows id premised.ids, may) refl refl
    (λ e. absurd (cc))
