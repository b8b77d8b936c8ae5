-- What a node does alone, and its copy does not: a read or a write takes a reply and goes on.
use Rattle.std.proofs.Common.{◌≡◌, ℕ, ◌+◌, ◌^◌, inl, inr, Bool, true, false, ◌&&◌, not, cond, is_some, nat_lt, List, [], ◌∷◌}
use Rattle.std.proofs.Common.{Option, Some, None, refl, sym, subst, ap, ◌∙◌}
use Rattle.bank.specs.declared.kind.Kind.{Kind}
use Rattle.encoder.specs.Fragment.{fragment}
use Rattle.layout.specs.Layout.{Layout}
use Rattle.call.specs.Call.{reached}
use Rattle.call.specs.declared.next.Next.{Next}
use Rattle.call.specs.declared.next.Next.TheVariants as next
use Rattle.std.specs.List.{list_any}
use Rattle.open_calls.specs.OpenCalls.{NodeCall, due_phase, open_call, taking_open, NodeCallsDiffer}
use Rattle.letter.specs.declared.letter.Letter.{Letter}
use Rattle.local_object.specs.declared.progress.Ended.{Ended}
use Rattle.local_object.specs.Agreement.{knows_all_of}
use Rattle.local_object.specs.Doing.{is_move_call, has_move_open, is_taken}
use Rattle.mail.specs.Message.{is_request}
use Rattle.local_object.specs.Events.{LocalEvent, advanced_at, advanced_here, all_done, done_here}
use Rattle.local_object.specs.Outcomes.{learnt_from, on_open_call}
use Rattle.local_object.specs.Going.{next_if}
use Rattle.local_object.specs.Local.{LocalObject, layout_here}
use Rattle.local_object.specs.ReadingOn.{read_on_events, reads_on}
use Rattle.local_object.specs.Starting.{anew_number, number_at, reads_at, reads_here}
use Rattle.local_object.specs.Replies.{EndsEarly, GoesOn, IsReplyOutcome}
use Rattle.local_object.specs.Taking.{AreSettling, begin_anew_events, begin_events, call_events, can_begin}
use Rattle.local_object.specs.Taking.{can_begin_anew, going_events, is_read_begin, lead_events, machine_of, repeats, restart_events}
use Rattle.local_object.specs.Taking.{step_events}
use Rattle.local_object.proofs.HeardLayoutLemmas.{calls_heard}
use Rattle.recoveries.proofs.HeardLetterLemmas.{letter_alone}
use Rattle.recoveries.proofs.KeptCallLemmas.{IsObjectCopy, found_id, moves_call, with_client, without_client}
use Rattle.recoveries.proofs.QueriedLemmas.{after_reply, client_queries}
use Rattle.recoveries.proofs.TwinLemmas.{advanced_is, found_new, settled_is, taken_is}
use Rattle.recoveries.proofs.GrownStartLemmas.{grow_alone, grown, grown_found}
use Rattle.recoveries.proofs.TakenReplyLemmas.{going_is, gone_on, taken_to}

module _ (moves : Type 0) (local copy : LocalObject) (is : IsObjectCopy moves local copy) (id : ℕ) (call : NodeCall)
    (found : open_call local.calls id ≡ Some call) (client : moves_call call ≡ false) where
  client_settles : (value : List ℕ) → IsObjectCopy moves (done_here fragment local (LocalEvent.Settle id value)).local copy
  client_settles value =
      subst (λ l. IsObjectCopy moves l copy) (sym (settled_is fragment local id value call found))
      (with_client moves local copy is id call (record call { settled = Some value }) local.reports found client refl client)

  advanced_alone : (o : Option (Kind × ℕ)) → IsObjectCopy moves (advanced_here fragment local call o).local copy
  advanced_alone None = is
  advanced_alone (Some next) = at (layout_here local next.1)
    where
      at : (o : Option Layout) → IsObjectCopy moves (advanced_at fragment local call next o).local copy
      at None = is
      at (Some layout) = with_client moves local copy is id call _ local.reports found client refl client

  client_advances : IsObjectCopy moves (done_here fragment local (LocalEvent.Advance id)).local copy
  client_advances =
      subst (λ l. IsObjectCopy moves l copy) (sym (advanced_is fragment local id call found)) (advanced_alone (due_phase call))

  read_alone : (number : ℕ) (o : Option Layout) → IsObjectCopy moves (reads_at local call number local.start o).local copy
  read_alone number None = is
  read_alone number (Some layout) = with_client moves local copy is id call _ local.reports found client refl client

  client_anew : IsObjectCopy moves (done_here fragment local (LocalEvent.BeginAnew id)).local copy
  client_anew =
      subst (λ o. IsObjectCopy moves
      (on_open_call local o (λ call. reads_here local call (anew_number call local.start))).local copy) (sym found)
      (read_alone (anew_number call local.start) (layout_here local local.start))

  client_reads_on : IsObjectCopy moves (done_here fragment local (LocalEvent.ReadOn id)).local copy
  client_reads_on =
      subst (λ o. IsObjectCopy moves
      (on_open_call local o (λ call. reads_here local call (number_at call local.start))).local copy) (sym found)
      (read_alone (number_at call local.start) (layout_here local local.start))

  client_ends : IsObjectCopy moves (done_here fragment local (LocalEvent.Answer id)).local copy
  client_ends = without_client moves local copy is id call found client

module _ (moves : Type 0) (local copy : LocalObject) (is : IsObjectCopy moves local copy) (id : ℕ) (call : NodeCall)
    (found : open_call local.calls id ≡ Some call) (client : moves_call call ≡ false) where
  own : open_call local.calls call.id ≡ Some call
  own = ap (open_call local.calls) (found_id local.calls id call found) ∙ found

  client_begins : (asked : Kind) (position : ℕ) →
      IsObjectCopy moves (all_done fragment local (begin_events local.places (machine_of call) asked position)).local copy
  client_begins asked position = go (can_begin local.places (machine_of call) asked position)
    where
      go : (b : Bool) → IsObjectCopy moves (all_done fragment local (cond b (LocalEvent.Advance call.id ∷ []) [])).local copy
      go true = client_advances moves local copy is call.id call own client
      go false = is

  client_begins_anew : IsObjectCopy moves (all_done fragment local (begin_anew_events local (machine_of call))).local copy
  client_begins_anew = go (can_begin_anew local (machine_of call))
    where
      go : (b : Bool) → IsObjectCopy moves (all_done fragment local (cond b (LocalEvent.BeginAnew call.id ∷ []) [])).local copy
      go true = client_anew moves local copy is call.id call own client
      go false = is

  client_restarts : (asked : Kind) (position : ℕ) →
      IsObjectCopy moves (all_done fragment local (restart_events local (machine_of call) asked position)).local copy
  client_restarts asked position = go (is_read_begin (reached (machine_of call)))
    where
      go : (r : Bool) → IsObjectCopy moves (all_done fragment local (cond r (begin_anew_events local (machine_of call))
          (begin_events local.places (machine_of call) asked position))).local copy
      go true = client_begins_anew
      go false = client_begins asked position

  client_steps : (n : Next) → IsObjectCopy moves (all_done fragment local (step_events local (machine_of call) n)).local copy
  client_steps next.Wait = is
  client_steps next.Settle = is
  client_steps (next.Restart asked position) = client_restarts asked position
  client_steps (next.Begin asked position) = client_begins asked position
  client_steps next.Answer = client_ends moves local copy is call.id call own client

  client_leads : (anew : Bool) → IsObjectCopy moves (all_done fragment local (lead_events anew local id)).local copy
  client_leads anew =
      subst (λ o. IsObjectCopy moves (all_done fragment local (call_events anew local o)).local copy) (sym found)
      (client_steps (next_if anew (machine_of call)))

-- the start grows by the call, if it can, and the call goes on
client_going : (anew : Bool) (moves : Type 0) (local copy : LocalObject) → IsObjectCopy moves local copy → (id : ℕ) (call : NodeCall) →
    open_call local.calls id ≡ Some call → moves_call call ≡ false →
    IsObjectCopy moves (all_done fragment local (going_events anew local id)).local copy
client_going anew moves local copy is id call found client =
    subst (λ l. IsObjectCopy moves l copy) (sym (going_is anew local id))
    (client_leads moves (grown local id) copy (grow_alone moves local copy is id) id call (grown_found local id call found) client anew)

client_goes_on : (anew : Bool) (moves : Type 0) (local copy : LocalObject) → IsObjectCopy moves local copy → (id : ℕ) (call : NodeCall) →
    open_call local.calls id ≡ Some call → moves_call call ≡ false → (es : List LocalEvent) → AreSettling local id es →
    IsObjectCopy moves (gone_on anew local id es) copy
client_goes_on anew moves local copy is id call found client es (inl none) =
    subst (λ es. IsObjectCopy moves (gone_on anew local id es) copy) (sym none.0)
    (client_going anew moves local copy is id call found client)
client_goes_on anew moves local copy is id call found client es (inr some) =
    let new : NodeCall = record call { settled = Some some.0 } in
    subst (λ es. IsObjectCopy moves (gone_on anew local id es) copy) (sym some.2)
    (client_going anew moves (done_here fragment local (LocalEvent.Settle id some.0)).local copy
    (client_settles moves local copy is id call found client some.0) id new
    (ap (λ (l : LocalObject). open_call l.calls id) (settled_is fragment local id some.0 call found)
    ∙ found_new local.calls id call new found refl)
    client)

module _ (moves : Type 0) (local copy : LocalObject) (is : IsObjectCopy moves local copy) (letter : Letter)
    (knows : moves → knows_all_of local letter ≡ true) where
  -- the node alone hears of the layouts in a letter
  pub learnt_alone : IsObjectCopy moves (learnt_from local letter) copy
  learnt_alone = record {
    kept = letter_alone moves local copy is.kept letter knows;
    distinct = subst NodeCallsDiffer (sym (calls_heard local letter)) is.distinct;
    mover = λ moving. is.mover (ap (list_any moves_call) (sym (calls_heard local letter)) ∙ moving);
  }

  module _ (call : NodeCall) (found : open_call local.calls letter.message.call ≡ Some call)
      (client : moves_call call ≡ false) where
    learnt_found : open_call (learnt_from local letter).calls letter.message.call ≡ Some call
    learnt_found = ap (λ calls. open_call calls letter.message.call) (calls_heard local letter) ∙ found

    client_took : IsObjectCopy moves (done_here fragment local (LocalEvent.Take letter)).local copy
    client_took =
        subst (λ l. IsObjectCopy moves l copy) (sym (taken_is fragment local letter call found))
        (with_client moves (learnt_from local letter) copy learnt_alone letter.message.call call
        (taking_open letter.message call) _ learnt_found client refl client)

    abbrev taken : LocalObject
    taken = (done_here fragment local (LocalEvent.Take letter)).local

    taken_found : open_call taken.calls letter.message.call ≡ Some (taking_open letter.message call)
    taken_found =
        ap (λ (l : LocalObject). open_call l.calls letter.message.call) (taken_is fragment local letter call found)
        ∙ found_new (learnt_from local letter).calls letter.message.call call (taking_open letter.message call) learnt_found refl

    client_ended : (new : LocalObject) (sent : List Letter) (ended : List Ended) → EndsEarly local letter new sent ended →
        IsObjectCopy moves new copy
    client_ended new sent ended early =
        subst (λ l. IsObjectCopy moves l copy) (sym early.done.done.local)
        (without_client moves taken copy client_took letter.message.call (taking_open letter.message call) taken_found client)

    client_went_on : (new : LocalObject) (sent : List Letter) (ended : List Ended) → GoesOn local letter new sent ended →
        IsObjectCopy moves new copy
    client_went_on new sent ended goes =
        let id = letter.message.call in
        let asked = client_queries moves taken copy client_took id (taking_open letter.message call) taken_found client in
        subst (λ l. IsObjectCopy moves l copy) (sym (taken_to local letter new sent ended goes))
        (client_goes_on (repeats local letter) moves (after_reply local letter) copy asked.is id asked.call asked.found asked.client
        goes.settling goes.settles)

    client_taken : (new : LocalObject) (sent : List Letter) (ended : List Ended) → IsReplyOutcome true local letter new sent ended →
        IsObjectCopy moves new copy
    client_taken new sent ended (inl early) = client_ended new sent ended early
    client_taken new sent ended (inr goes) = client_went_on new sent ended goes

  -- a reply that is to no open move changes nothing that the copy has
  pub client_takes : has_move_open local letter.message.call ≡ false → (new : LocalObject) (sent : List Letter)
      (ended : List Ended) → IsReplyOutcome (is_taken local letter) local letter new sent ended → IsObjectCopy moves new copy
  client_takes no_move new sent ended taken =
      go (is_taken local letter) refl taken (open_call local.calls letter.message.call) refl no_move
    where
      untaken : (o : Option NodeCall) → o ≡ None → (r n : Bool) → cond r false (n && is_some o) ≡ true → ⊥
      untaken None e true n is = absurd (cc)
      untaken None e false true is = absurd (cc)
      untaken None e false false is = absurd (cc)
      untaken (Some call) e r n is = absurd (cc)

      go : (b : Bool) → is_taken local letter ≡ b → IsReplyOutcome b local letter new sent ended →
          (o : Option NodeCall) → open_call local.calls letter.message.call ≡ o → is_move_call o ≡ false → IsObjectCopy moves new copy
      go false e taken o f client = subst (λ l. IsObjectCopy moves l copy) (sym taken.done.local) is
      go true e taken None f client =
          absurd (untaken (open_call local.calls letter.message.call) f (is_request letter.message.body)
          (nat_lt (letter.message.position + 1) (2 ^ 32)) e)
      go true e taken (Some call) f client = client_taken call f client new sent ended taken

-- A read or a write goes on at the start

-- a call that goes on there is no move
not_move : (move more rest : Bool) → ((not move && more) && rest) ≡ true → move ≡ false
not_move true more rest e = absurd (cc)
not_move false more rest e = refl

pub reads_on_alone : (moves : Type 0) (local copy : LocalObject) → IsObjectCopy moves local copy → (id : ℕ) →
    IsObjectCopy moves (all_done fragment local (read_on_events local id)).local copy
reads_on_alone moves local copy is id = go (open_call local.calls id) refl
  where
    by : (call : NodeCall) → open_call local.calls id ≡ Some call → (b : Bool) → reads_on local (Some call) ≡ b →
        IsObjectCopy moves (all_done fragment local (cond b (LocalEvent.ReadOn id ∷ []) [])).local copy
    by call found true e = client_reads_on moves local copy is id call found (not_move (moves_call call) _ _ e)
    by call found false e = is

    go : (o : Option NodeCall) → open_call local.calls id ≡ o →
        IsObjectCopy moves (all_done fragment local (cond (reads_on local o) (LocalEvent.ReadOn id ∷ []) [])).local copy
    go None none = is
    go (Some call) found = by call found (reads_on local (Some call)) refl
