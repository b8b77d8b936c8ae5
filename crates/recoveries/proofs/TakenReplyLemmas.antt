-- An open move takes a reply and goes on: a node and its copy do it alike.
use Rattle.std.proofs.Common.{◌≡◌, ℕ, ◌+◌, ◌^◌, inl, inr, Bool, true, false, ◌&&◌, cond, is_some, nat_lt, List, [], ◌∷◌, ◌++◌}
use Rattle.std.proofs.Common.{Option, Some, None, refl, sym, subst, ap, ◌∙◌}
use Rattle.bank.specs.declared.kind.Kind.{Kind}
use Rattle.encoder.specs.Fragment.{fragment}
use Rattle.call.specs.Call.{reached}
use Rattle.call.specs.declared.next.Next.{Next}
use Rattle.call.specs.declared.next.Next.TheVariants as next
use Rattle.open_calls.specs.OpenCalls.{NodeCall, open_call, taking_open}
use Rattle.letter.specs.declared.letter.Letter.{Letter}
use Rattle.local_object.specs.declared.progress.Ended.{Ended}
use Rattle.local_object.specs.Doing.{is_move_call, has_move_open, is_taken}
use Rattle.mail.specs.Message.{is_request}
use Rattle.local_object.specs.Events.{LocalEvent, all_done, done_here}
use Rattle.local_object.specs.Outcomes.{learnt_from}
use Rattle.local_object.specs.Going.{next_if}
use Rattle.local_object.specs.Local.{LocalObject}
use Rattle.local_object.specs.Querying.{query_events}
use Rattle.local_object.specs.Replies.{GoesOn, IsReplyOutcome}
use Rattle.local_object.specs.Taking.{AreSettling, begin_anew_events, begin_events, call_events, can_begin}
use Rattle.local_object.specs.Taking.{going_events, grow_events, is_read_begin, is_repeated, lead_events, machine_of, repeats}
use Rattle.local_object.specs.Taking.{restart_events, step_events}
use Rattle.local_object.proofs.HeardLayoutLemmas.{calls_heard}
use Rattle.recoveries.proofs.KeptPlaceLemmas.{layouts_kept}
use Rattle.recoveries.proofs.KeptCallLemmas.{IsObjectCopy, found_copy, found_id, found_moves, moves_call}
use Rattle.recoveries.proofs.EarlyMoveLemmas.{no_early_move}
use Rattle.recoveries.proofs.QueriedLemmas.{after_reply, no_move_query, queried_by}
use Rattle.recoveries.proofs.GrownStartLemmas.{both_grow, grown, grown_found}
use Rattle.recoveries.proofs.SettlingLemmas.{same_settling}
use Rattle.recoveries.proofs.SameStepLemmas.{no_move_anew, same_lead}
use Rattle.recoveries.proofs.TwinLemmas.{both_advance, both_answer, both_settle, both_take, found_new, settled_is, taken_is}

pub all_done_both : (local : LocalObject) (first second : List LocalEvent) → (all_done fragment local (first ++ second)).local
    ≡ (all_done fragment (all_done fragment local first).local second).local
all_done_both local [] second = refl
all_done_both local (event ∷ first) second = all_done_both (done_here fragment local event).local first second

-- How a call goes on

module _ (moves : Type 0) (here : moves) (local copy : LocalObject) (is : IsObjectCopy moves local copy) (id : ℕ) (call : NodeCall)
    (found : open_call local.calls id ≡ Some call) (move : moves_call call ≡ true) where
  again : open_call copy.calls id ≡ Some call
  again = found_copy moves local copy is id call found move

  own_id : (calls : List NodeCall) → open_call calls id ≡ Some call → open_call calls call.id ≡ Some call
  own_id calls at = ap (open_call calls) (found_id calls id call at) ∙ at

  begin_both : (asked : Kind) (position : ℕ) → IsObjectCopy moves
      (all_done fragment local (begin_events local.places (machine_of call) asked position)).local
      (all_done fragment copy (begin_events local.places (machine_of call) asked position)).local
  begin_both asked position = go (can_begin local.places (machine_of call) asked position)
    where
      go : (b : Bool) → IsObjectCopy moves
          (all_done fragment local (cond b (LocalEvent.Advance call.id ∷ []) [])).local
          (all_done fragment copy (cond b (LocalEvent.Advance call.id ∷ []) [])).local
      go true =
          both_advance fragment moves here local copy is call.id call (own_id local.calls found) move (own_id copy.calls again)
      go false = is

  -- a move does not begin anew at the start
  restart_both : (asked : Kind) (position : ℕ) → IsObjectCopy moves
      (all_done fragment local (restart_events local (machine_of call) asked position)).local
      (all_done fragment copy (restart_events local (machine_of call) asked position)).local
  restart_both asked position = go (is_read_begin (reached (machine_of call)))
    where
      go : (r : Bool) → IsObjectCopy moves
          (all_done fragment local (cond r (begin_anew_events local (machine_of call))
          (begin_events local.places (machine_of call) asked position))).local
          (all_done fragment copy (cond r (begin_anew_events local (machine_of call))
          (begin_events local.places (machine_of call) asked position))).local
      go true =
          subst (λ es. IsObjectCopy moves (all_done fragment local es).local (all_done fragment copy es).local)
          (sym (no_move_anew local (machine_of call) move)) is
      go false = begin_both asked position

  step_both : (n : Next) → IsObjectCopy moves
      (all_done fragment local (step_events local (machine_of call) n)).local
      (all_done fragment copy (step_events local (machine_of call) n)).local
  step_both next.Wait = is
  step_both next.Settle = is
  step_both (next.Restart asked position) = restart_both asked position
  step_both (next.Begin asked position) = begin_both asked position
  step_both next.Answer = both_answer fragment moves here local copy is call.id

  lead_both : (anew : Bool) → IsObjectCopy moves
      (all_done fragment local (lead_events anew local id)).local (all_done fragment copy (lead_events anew copy id)).local
  lead_both anew =
      subst (λ es. IsObjectCopy moves (all_done fragment local (lead_events anew local id)).local (all_done fragment copy es).local)
      (sym (same_lead local copy (layouts_kept moves local copy is.kept here) anew id call move found again))
      (subst (λ o. IsObjectCopy moves (all_done fragment local (call_events anew local o)).local
      (all_done fragment copy (call_events anew local o)).local) (sym found) (step_both (next_if anew (machine_of call))))

-- the start grows by the call, if it can, and the call goes on

-- what the node keeps then, if the call begins anew only where `anew` is true
abbrev pub gone : (anew : Bool) → LocalObject → (id : ℕ) → LocalObject
gone anew local id = (all_done fragment (grown local id) (lead_events anew (grown local id) id)).local

pub going_is : (anew : Bool) (local : LocalObject) (id : ℕ) →
    (all_done fragment local (going_events anew local id)).local ≡ gone anew local id
going_is anew local id = all_done_both local (grow_events local id) (lead_events anew (grown local id) id)

going_both : (anew : Bool) (moves : Type 0) → moves → (local copy : LocalObject) → IsObjectCopy moves local copy →
    (id : ℕ) (call : NodeCall) → open_call local.calls id ≡ Some call → moves_call call ≡ true → IsObjectCopy moves
    (all_done fragment local (going_events anew local id)).local (all_done fragment copy (going_events anew copy id)).local
going_both anew moves here local copy is id call found move =
    subst (λ l. IsObjectCopy moves l (all_done fragment copy (going_events anew copy id)).local) (sym (going_is anew local id))
    (subst (IsObjectCopy moves (gone anew local id)) (sym (going_is anew copy id))
    (lead_both moves here (grown local id) (grown copy id)
    (both_grow moves here local copy is id call found (found_copy moves local copy is id call found move))
    id call (grown_found local id call found) move anew))

-- the call settles what it fetched, if it can, and goes on

-- what the node keeps after these events and those that are then due, if the call begins anew only where `anew` is true
abbrev pub gone_on : (anew : Bool) → LocalObject → (id : ℕ) → List LocalEvent → LocalObject
gone_on anew local id es =
    let settled = (all_done fragment local es).local in (all_done fragment settled (going_events anew settled id)).local

settle_both : (anew : Bool) (moves : Type 0) → moves → (local copy : LocalObject) → IsObjectCopy moves local copy →
    (id : ℕ) (call : NodeCall) → open_call local.calls id ≡ Some call → moves_call call ≡ true → (es : List LocalEvent) →
    AreSettling local id es → IsObjectCopy moves (gone_on anew local id es) (gone_on anew copy id es)
settle_both anew moves here local copy is id call found move es (inl none) =
    subst (λ es. IsObjectCopy moves (gone_on anew local id es) (gone_on anew copy id es)) (sym none.0)
    (going_both anew moves here local copy is id call found move)
settle_both anew moves here local copy is id call found move es (inr some) =
    let new : NodeCall = record call { settled = Some some.0 } in
    subst (λ es. IsObjectCopy moves (gone_on anew local id es) (gone_on anew copy id es)) (sym some.2)
    (going_both anew moves here
    (done_here fragment local (LocalEvent.Settle id some.0)).local (done_here fragment copy (LocalEvent.Settle id some.0)).local
    (both_settle fragment moves here local copy is id call found move (found_copy moves local copy is id call found move) some.0)
    id new
    (ap (λ (l : LocalObject). open_call l.calls id) (settled_is fragment local id some.0 call found)
    ∙ found_new local.calls id call new found refl)
    move)

-- what it keeps after a reply was taken, and the call went on
pub taken_to : (old : LocalObject) (letter : Letter) (new : LocalObject) (sent : List Letter) (ended : List Ended) →
    (taken : GoesOn old letter new sent ended) →
    new ≡ gone_on (repeats old letter) (after_reply old letter) letter.message.call taken.settling
taken_to old letter new sent ended taken =
    let id = letter.message.call in
    let first = (done_here fragment old (LocalEvent.Take letter)).local in
    let asked = query_events first id in
    let settled = (all_done fragment first (asked ++ taken.settling)).local in
    taken.leads.done.local
    ∙ all_done_both first (asked ++ taken.settling) (going_events (repeats old letter) settled id)
    ∙ ap (λ (l : LocalObject). (all_done fragment l (going_events (repeats old letter) l id)).local)
    (all_done_both first asked taken.settling)

module _ (moves : Type 0) (here : moves) (local copy : LocalObject) (is : IsObjectCopy moves local copy)
    (letter : Letter) (call : NodeCall) (found : open_call local.calls letter.message.call ≡ Some call)
    (move : moves_call call ≡ true) where
  there : open_call copy.calls letter.message.call ≡ Some call
  there = found_copy moves local copy is letter.message.call call found move

  abbrev first : LocalObject
  first = (done_here fragment local (LocalEvent.Take letter)).local

  abbrev second : LocalObject
  second = (done_here fragment copy (LocalEvent.Take letter)).local

  took : IsObjectCopy moves first second
  took = both_take fragment moves here local copy is letter call found move there

  found_first : open_call first.calls letter.message.call ≡ Some (taking_open letter.message call)
  found_first =
      ap (λ (l : LocalObject). open_call l.calls letter.message.call) (taken_is fragment local letter call found)
      ∙ found_new (learnt_from local letter).calls letter.message.call call (taking_open letter.message call)
      (ap (λ calls. open_call calls letter.message.call) (calls_heard local letter) ∙ found) refl

  found_second : open_call second.calls letter.message.call ≡ Some (taking_open letter.message call)
  found_second =
      found_copy moves first second took letter.message.call (taking_open letter.message call) found_first move

  -- a move makes no query of its reading
  first_alone : queried_by first letter.message.call ≡ first
  first_alone = no_move_query first letter.message.call (taking_open letter.message call) found_first move

  second_alone : queried_by second letter.message.call ≡ second
  second_alone = no_move_query second letter.message.call (taking_open letter.message call) found_second move

  same_repeats : repeats copy letter ≡ repeats local letter
  same_repeats = ap (λ o. is_repeated o letter.message) (there ∙ sym found)

  goes_on_both : (new copied : LocalObject) (sent more : List Letter) (ended told : List Ended) →
      GoesOn local letter new sent ended → GoesOn copy letter copied more told → IsObjectCopy moves new copied
  goes_on_both new copied sent more ended told taken retaken =
      let id = letter.message.call in
      let anew = repeats local letter in
      let settles = subst (λ l. AreSettling l id taken.settling) first_alone taken.settles in
      let one = same_settling first second id (found_second ∙ sym found_first) (layouts_kept moves first second took.kept here)
      taken.settling retaken.settling settles
      (subst (λ l. AreSettling l id retaken.settling) second_alone retaken.settles) in
      subst (λ l. IsObjectCopy moves l copied)
      (sym (taken_to local letter new sent ended taken ∙ ap (λ l. gone_on anew l id taken.settling) first_alone))
      (subst (IsObjectCopy moves (gone_on anew first id taken.settling))
      (ap (gone_on anew second id) one
      ∙ ap (λ b. gone_on b second id retaken.settling) (sym same_repeats)
      ∙ ap (λ l. gone_on (repeats copy letter) l id retaken.settling) (sym second_alone)
      ∙ sym (taken_to copy letter copied more told retaken))
      (settle_both anew moves here first second took id (taking_open letter.message call) found_first move
      taken.settling settles))

  taken_by : (b : Bool) (new copied : LocalObject) (sent more : List Letter) (ended told : List Ended) →
      IsReplyOutcome b local letter new sent ended → IsReplyOutcome b copy letter copied more told → IsObjectCopy moves new copied
  taken_by false new copied sent more ended told taken retaken =
      subst (λ l. IsObjectCopy moves l copied) (sym taken.done.local)
      (subst (IsObjectCopy moves local) (sym retaken.done.local) is)
  taken_by true new copied sent more ended told (inl early) retaken =
      absurd (no_early_move first letter.message.call (taking_open letter.message call) found_first move early.returned early.can)
  taken_by true new copied sent more ended told (inr taken) (inl early) =
      absurd (no_early_move second letter.message.call (taking_open letter.message call) found_second move early.returned early.can)
  taken_by true new copied sent more ended told (inr taken) (inr retaken) =
      goes_on_both new copied sent more ended told taken retaken

  same_taken : is_taken copy letter ≡ is_taken local letter
  same_taken =
      ap (λ o. cond (is_request letter.message.body) false (nat_lt (letter.message.position + 1) (2 ^ 32) && is_some o))
      (there ∙ sym found)

  taken_both : (new copied : LocalObject) (sent more : List Letter) (ended told : List Ended) →
      IsReplyOutcome (is_taken local letter) local letter new sent ended →
      IsReplyOutcome (is_taken copy letter) copy letter copied more told → IsObjectCopy moves new copied
  taken_both new copied sent more ended told taken retaken =
      taken_by (is_taken local letter) new copied sent more ended told taken
      (subst (λ b. IsReplyOutcome b copy letter copied more told) same_taken retaken)

-- a reply to an open move is taken by a node and by its copy
pub move_takes : (moves : Type 0) (local copy : LocalObject) → IsObjectCopy moves local copy → (letter : Letter) →
    has_move_open local letter.message.call ≡ true → (new copied : LocalObject) (sent more : List Letter) (ended told : List Ended) →
    IsReplyOutcome (is_taken local letter) local letter new sent ended →
    IsReplyOutcome (is_taken copy letter) copy letter copied more told → IsObjectCopy moves new copied
move_takes moves local copy is letter open_move new copied sent more ended told taken retaken =
    go (open_call local.calls letter.message.call) refl open_move
  where
    go : (o : Option NodeCall) → open_call local.calls letter.message.call ≡ o → is_move_call o ≡ true → IsObjectCopy moves new copied
    go None e move = absurd (cc)
    go (Some call) e move =
        taken_both moves (is.mover (found_moves local.calls letter.message.call call e move)) local copy is letter call e move
        new copied sent more ended told taken retaken
