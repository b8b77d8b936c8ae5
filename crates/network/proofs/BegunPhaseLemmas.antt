-- A world in which a call begins a phase still follows the record, where the call begins it too.
use Rattle.std.proofs.Common.{◌≡◌, ℕ, suc, ◌+◌, ◌⊎◌, true, cond, is_some, List, [], ◌∷◌, ◌++◌, length, map, get_or}
use Rattle.std.proofs.Common.{Option, Some, None, IsSome, refl, sym, subst, ap, ◌∙◌, inl, inr, slice_get, arith}
use Rattle.std.proofs.lemmas.List.{map-append}
use Rattle.layout.specs.Layout.{Layout}
use Rattle.piece.specs.declared.piece.Piece.{Piece}
use Rattle.bank.specs.declared.kind.Kind.{Kind}
use Rattle.bank.specs.declared.kind.Kind.TheVariants.{PreWrite}
use Rattle.mail.specs.declared.message.Message.{Message}
use Rattle.mail.specs.Phase.{Phase, lacks_pieces}
use Rattle.record.specs.declared.stage.Want.TheVariants as want
use Rattle.record.specs.Fragments.{Code}
use Rattle.record.specs.Legal.{AreNumbered, due_of, first_stage}
use Rattle.record.specs.PhaseOrder.{begun_at, stage_after}
use Rattle.record.specs.Preconditions.{MayStep}
use Rattle.record.specs.Records.{Call, Object, layout_at, no_layout}
use Rattle.mail.specs.declared.message.Body.TheVariants as body
use Rattle.record.specs.Sending.{request_to, requests, sent_pieces}
use Rattle.record.specs.Steps.{Step, stepped, on_call, asked_again, advanced_object, begun_object, new_phase, with_phase}
use Rattle.record.specs.Steps.{supplied_by, supplied_object}
use Rattle.record.specs.Wants.{current_phase, is_fetch, want_after, want_for, want_of, want_to_begin}
use Rattle.soundness.proofs.ListLemmas.{set_here}
use Rattle.soundness.proofs.Sound.ChangedCallLemmas.{moves_set}
use Rattle.network.specs.Unstamped.{unstamped_message}
use Rattle.network.specs.Worlds.{World, known_layout}
use Rattle.open_calls.specs.OpenCalls.{NodeCall, due_phase, open_call, stage_reached, IsLacking, IsReady}
use Rattle.network.specs.Events.{Event, advanced_world, call_pieces, on_open, phase_requests}
use Rattle.network.specs.Following.{Follows, LeadsOn, IsOpenIn, last_step_after}
use Rattle.network.specs.Followed.{IsFollowed}
use Rattle.network.proofs.AnsweredCallLemmas.{want_ready}
use Rattle.network.proofs.ChangedCallLemmas.{changed_follow, with_new, with_one}
use Rattle.network.proofs.CurrentPhaseLemmas.{current_is, ended_is, fetch_is, kind_is, lacks_is, next_is, reached_is, want_is}
use Rattle.network.proofs.OneFileLemmas.{layouts_known}
use Rattle.open_calls.proofs.OpenCallLemmas.{found}
use Rattle.network.proofs.StepLemmas.{no_step, one_step, ticked_follow}

-- the call with one more phase, of this kind, at a position with this layout
abbrev begun_call : Call → Kind → (position : ℕ) → Layout → (now : ℕ) → Call
begun_call call kind position layout now =
    record call { phases = call.phases ++ new_phase call.id (suc (length call.phases)) kind position layout now ∷ [] }

-- requests have no stamps
pub requests-bare : (call number : ℕ) (kind : Kind) (position : ℕ) (servers : List ℕ) (member : ℕ) (piece : ℕ → Piece) →
    map unstamped_message (requests call number kind position servers member piece)
    ≡ requests call number kind position servers member piece
requests-bare call number kind position [] member piece = refl
requests-bare call number kind position (server ∷ servers) member piece =
    ap (λ (l : List Message). record {
      call = call;
      phase = number;
      position = position;
      member = member;
      body = body.Request (request_to kind (piece member));
    } ∷ l) (requests-bare call number kind position servers (suc member) piece)

-- the number of the last phase
number_last : (call n : ℕ) (earlier : List Phase) (last : Phase) → AreNumbered call n (earlier ++ last ∷ []) →
    last.number + 1 ≡ n + length (earlier ++ last ∷ [])
number_last call n [] last numbered = (let h = numbered.1 in omega arith)
number_last call n (p ∷ earlier) last numbered = (let h = number_last call (suc n) earlier last numbered.2 in omega arith)

module _ (fragment : Code) (world : World) (object : Object) (old : NodeCall) (is : IsOpenIn object old) (follows : Follows world object)
    (kind : Kind) (position now : ℕ) where
  same_layout : layout_at object position ≡ known_layout world old.node position
  same_layout = ap (λ layouts. get_or layouts position no_layout) (follows.layouts ∙ layouts_known world follows.one old.node)

  same_pieces : sent_pieces fragment object is.call position ≡ call_pieces fragment world old position
  same_pieces = grind (arith, same_layout)

  -- the phase that begins, as the node has it
  abbrev pub begun_open : NodeCall
  begun_open = record old {
    stage = begun_at (stage_reached old) position;
    phase = new_phase old.id (suc old.phase.number) kind position (known_layout world old.node position) 0;
  }

  abbrev pub begun_mail : List Message
  begun_mail = object.mail ++ requests is.call.id (suc (length is.call.phases)) kind position (layout_at object position).members 0
      (sent_pieces fragment object is.call position)

  abbrev pub begun_sent : List Message
  begun_sent = world.sent
      ++ phase_requests world old.node old.id (suc old.phase.number) kind position (call_pieces fragment world old position)

  module _ (numbered : old.phase.number ≡ length is.call.phases) where
    same_sent : map unstamped_message begun_mail ≡ begun_sent
    same_sent =
        map-append unstamped_message object.mail (requests is.call.id (suc (length is.call.phases)) kind position
        (layout_at object position).members 0 (sent_pieces fragment object is.call position))
        ∙ ap (λ l. l ++ map unstamped_message (requests is.call.id (suc (length is.call.phases)) kind position
        (layout_at object position).members 0 (sent_pieces fragment object is.call position))) follows.sent
        ∙ ap (λ l. world.sent ++ l)
        (requests-bare is.call.id (suc (length is.call.phases)) kind position (layout_at object position).members 0
        (sent_pieces fragment object is.call position)
        ∙ ap (λ n. requests n (suc (length is.call.phases)) kind position (layout_at object position).members 0
        (sent_pieces fragment object is.call position)) (sym is.id)
        ∙ ap (λ n. requests old.id (suc n) kind position (layout_at object position).members 0
        (sent_pieces fragment object is.call position)) (sym numbered)
        ∙ ap (λ (l : Layout). requests old.id (suc old.phase.number) kind position l.members 0
        (sent_pieces fragment object is.call position)) same_layout
        ∙ ap (λ p. requests old.id (suc old.phase.number) kind position (known_layout world old.node position).members 0 p) same_pieces)

    begun_is : IsOpenIn (with_new object begun_mail is.index (begun_call is.call kind position (layout_at object position) now))
        begun_open
    begun_is =
        let call = begun_call is.call kind position (layout_at object position) now in record {
          index = is.index;
          call = call;
          at = set_here object.calls is.index is.call call is.at;
          id = is.id;
          kind = is.kind;
          settled = is.settled;
          unanswered = is.unanswered;
          earlier = is.call.phases;
          last = new_phase is.call.id (suc (length is.call.phases)) kind position (layout_at object position) now;
          phases = refl;
          phase = ap (λ n. new_phase n (suc old.phase.number) kind position (known_layout world old.node position) 0) is.id
              ∙ ap (λ n. new_phase is.call.id (suc n) kind position (known_layout world old.node position) 0) numbered
              ∙ ap (λ l. new_phase is.call.id (suc (length is.call.phases)) kind position l 0) (sym same_layout);
          stage = ap (λ s. begun_at s position) (reached_is object old is)
              ∙ ap (λ moves. begun_at (stage_after is.call.kind is.call.id (first_stage is.call.kind moves) is.call.phases) position)
              (sym (moves_set object.calls is.index is.index is.call call is.at refl));
        }

    pub begun_follow : open_call world.calls old.id ≡ Some old → Follows (with_one world begun_open begun_sent)
        (with_new object begun_mail is.index (begun_call is.call kind position (layout_at object position) now))
    begun_follow at =
        changed_follow world object old begun_open is (begun_call is.call kind position (layout_at object position) now)
        begun_mail begun_sent follows at refl refl refl refl refl same_sent begun_is

-- The step of the record

-- a step of the record that begins the phase that is due
pub record Begins (fragment : Code) (object : Object) (index : ℕ) (call : Call) (now : ℕ) : Type 0 where
  pub step : Step
  pub may : MayStep fragment object step
  pub is : stepped fragment step now object ≡ advanced_object fragment object index call now

begins_ready : (fragment : Code) (object : Object) (index : ℕ) (call : Call) (now : ℕ) (next : Kind × ℕ) (last : Phase) →
    slice_get object.calls index ≡ Some call → want_of object index call ≡ want_for object (Some next) →
    current_phase call.phases ≡ Some last → IsSome last.end → Begins fragment object index call now
begins_ready fragment object index call now next last at wants current ended = go next.0 wants
  where
    advances : want_of object index call ≡ want.Advance → Begins fragment object index call now
    advances e = record {
      step = Step.Advance index;
      may = (call, (at, e));
      is = ap (λ o. on_call object o (λ c. advanced_object fragment object index c now)) at;
    }

    go : (kind : Kind) → want_of object index call ≡ want_to_begin kind (layout_at object next.1) → Begins fragment object index call now
    go (PreWrite tag) e = record {
      step = Step.Supply index;
      may = record { call = call; takes = inl ((layout_at object next.1).k, length (layout_at object next.1).members, (at, e)) };
      is = ap (λ o. on_call object o (λ c. supplied_object fragment object index c now)) at
          ∙ ap (supplied_by fragment object index call now) current
          ∙ ap (λ b. cond b (advanced_object fragment object index call now) (asked_again fragment object call (Some last))) ended;
    }
    go _ e = advances e

want_lacking : (object : Object) (next : Option (Kind × ℕ)) (settled : Option (List ℕ)) (last : Phase) → IsSome last.end →
    is_fetch last.kind ≡ true → settled ≡ None → lacks_pieces last ≡ true → want_after object next settled (Some last) ≡ want.Again
want_lacking object next settled last ended fetch none lacks = rw (ended, fetch, none, lacks) refl

begins : (fragment : Code) (object : Object) (old : NodeCall) (is : IsOpenIn object old) (now : ℕ) (next : Kind × ℕ) →
    due_of object is.index is.call ≡ Some next → (IsReady old × IsSome (due_phase old)) ⊎ IsLacking old →
    Begins fragment object is.index is.call now
begins fragment object old is now next due (inl ready) =
    begins_ready fragment object is.index is.call now next is.last is.at
    (want_is object old is
    ∙ want_ready object (due_of object is.index is.call) is.call.settled is.last (ended_is object old is ready.0.complete)
    (λ fetch. ap is_some (sym is.settled) ∙ ready.0.fetched (fetch.0, kind_is object old is ∙ fetch.1))
    ∙ ap (want_for object) due) (current_is object old is) (ended_is object old is ready.0.complete)
begins fragment object old is now next due (inr lacking) = record {
  step = Step.Again is.index;
  may = (
    is.call,
    (
      is.at,
      want_is object old is
          ∙ want_lacking object (due_of object is.index is.call) is.call.settled is.last (ended_is object old is lacking.complete)
          (fetch_is is.last.kind (lacking.fetch.0, sym (kind_is object old is) ∙ lacking.fetch.1)) (sym is.settled ∙ lacking.unsettled)
          (sym (lacks_is object old is) ∙ lacking.lacks),
    ),
  );
  is = ap (λ o. on_call object o (λ c. advanced_object fragment object is.index c now)) is.at;
}

pub advance_followed : (id : ℕ) → IsFollowed (Event.Advance id)
advance_followed id fragment world object code sound follows may premised =
    subst (λ o. LeadsOn fragment object (last_step_after world.now) (on_open (record world { now = suc world.now }) o
    (λ c. advanced_world fragment (record world { now = suc world.now }) c (due_phase c)))) (sym may.1) (go (due_phase may.0) refl)
  where
    go : (o : Option (Kind × ℕ)) → due_phase may.0 ≡ o →
        LeadsOn fragment object (last_step_after world.now) (advanced_world fragment (record world { now = suc world.now }) may.0 o)
    go None e = no_step fragment object world.now (record world { now = suc world.now }) refl sound (ticked_follow world object follows)
    go (Some next) e =
        let old = may.0 in
        let held = found (IsOpenIn object) world.calls id old follows.calls may.1 in
        let is = held.0 in
        let now = last_step_after (suc world.now) in
        let due = sym (next_is object old is follows.kept) ∙ e in
        let begun = begins fragment object old is now next due may.2 in
        let numbered = (sound.legal.calls is.index is.call is.at).numbered in
        let counted = number_last is.call.id 1 is.earlier is.last (subst (AreNumbered is.call.id 1) is.phases numbered) in
        let long : length is.call.phases ≡ length (is.earlier ++ is.last ∷ []) = ap length is.phases in
        let same : old.phase.number ≡ is.last.number = ap (λ (p : Phase). p.number) is.phase in
        let number_is : old.phase.number ≡ length is.call.phases = omega arith in
        one_step fragment object world.now begun.step
        (with_phase object is.index is.call next.0 next.1 now (sent_pieces fragment object is.call next.1))
        (advanced_world fragment (record world { now = suc world.now }) old (Some next)) code refl sound begun.may
        (begun.is ∙ ap (λ o. begun_object fragment object is.index is.call o now) due)
        (begun_follow fragment world object old is follows next.0 next.1 now number_is (ap (open_call world.calls) held.1 ∙ may.1))
