-- What a node and its copy do alike: an open move takes a reply, settles a value, begins a phase, or is answered.
use Rattle.std.proofs.Common.{◌≡◌, ℕ, Bool, true, cond, eq-eqb, List, [], Option, Some, None}
use Rattle.std.proofs.Common.{refl, sym, subst, ap, ◌∙◌}
use Rattle.layout.specs.Layout.{Layout}
use Rattle.bank.specs.declared.kind.Kind.{Kind}
use Rattle.record.specs.Fragments.{Code}
use Rattle.open_calls.specs.OpenCalls.{NodeCall, due_phase, open_call, with_open, taking_open, NodeCallsDiffer}
use Rattle.open_calls.proofs.OpenCallLemmas.{found_with}
use Rattle.letter.specs.declared.letter.Letter.{Letter}
use Rattle.local_object.specs.declared.report.Report.{Report}
use Rattle.local_object.specs.Local.{LocalObject, layout_here}
use Rattle.local_object.specs.Events.{LocalEvent, advanced_at, advanced_here, done_here, taking_here}
use Rattle.local_object.specs.Outcomes.{learnt_from, on_open_call, silent}
use Rattle.local_object.specs.Reports.{reports_after, told_to}
use Rattle.local_object.proofs.HeardLayoutLemmas.{calls_heard}
use Rattle.recoveries.proofs.HeardLetterLemmas.{letter_moving}
use Rattle.recoveries.proofs.KeptPlaceLemmas.{layouts_kept}
use Rattle.recoveries.proofs.KeptCallLemmas.{IsObjectCopy, found_id, moves_call, with_move, without_move}

-- the call that is found after it changed
pub found_new : (calls : List NodeCall) (id : ℕ) (call new : NodeCall) → open_call calls id ≡ Some call → new.id ≡ call.id →
    open_call (with_open new calls) id ≡ Some new
found_new calls id call new found same =
    found_with new calls id call found
    ∙ ap (λ b. Some (cond b new call)) (eq-eqb id new.id (sym (same ∙ found_id calls id call found)))

-- what each event is where the call is open

pub taken_is : (fragment : Code) (local : LocalObject) (letter : Letter) (call : NodeCall) →
    open_call local.calls letter.message.call ≡ Some call →
    (done_here fragment local (LocalEvent.Take letter)).local
    ≡ taking_here (learnt_from local letter) call letter.message letter.told
taken_is fragment local letter call found =
    let next = learnt_from local letter in
    ap (λ o. (on_open_call next o (λ call. silent (taking_here next call letter.message letter.told))).local)
    (ap (λ calls. open_call calls letter.message.call) (calls_heard local letter) ∙ found)

pub settled_is : (fragment : Code) (local : LocalObject) (id : ℕ) (value : List ℕ) (call : NodeCall) →
    open_call local.calls id ≡ Some call → (done_here fragment local (LocalEvent.Settle id value)).local
    ≡ record local { calls = with_open (record call { settled = Some value }) local.calls }
settled_is fragment local id value call found =
    ap (λ o. (on_open_call local o
    (λ call. silent (record local { calls = with_open (record call { settled = Some value }) local.calls }))).local) found

pub advanced_is : (fragment : Code) (local : LocalObject) (id : ℕ) (call : NodeCall) → open_call local.calls id ≡ Some call →
    (done_here fragment local (LocalEvent.Advance id)).local ≡ (advanced_here fragment local call (due_phase call)).local
advanced_is fragment local id call found =
    ap (λ o. (on_open_call local o (λ call. advanced_here fragment local call (due_phase call))).local) found

-- Both do the same

module _ (fragment : Code) (moves : Type 0) (here : moves) (local copy : LocalObject) (is : IsObjectCopy moves local copy)
    (id : ℕ) (call : NodeCall) (found : open_call local.calls id ≡ Some call) (move : moves_call call ≡ true)
    (again : open_call copy.calls id ≡ Some call) where
  pub both_settle : (value : List ℕ) → IsObjectCopy moves
      (done_here fragment local (LocalEvent.Settle id value)).local (done_here fragment copy (LocalEvent.Settle id value)).local
  both_settle value =
      let new : NodeCall = record call { settled = Some value } in
      subst (λ l. IsObjectCopy moves l (done_here fragment copy (LocalEvent.Settle id value)).local)
      (sym (settled_is fragment local id value call found))
      (subst (IsObjectCopy moves (record local { calls = with_open new local.calls }))
      (sym (settled_is fragment copy id value call again))
      (with_move moves local copy is here id call new local.reports copy.reports found move refl move is.kept.reports))

  advanced_both : (o : Option (Kind × ℕ)) → IsObjectCopy moves
      (advanced_here fragment local call o).local (advanced_here fragment copy call o).local
  advanced_both None = is
  advanced_both (Some next) =
      subst (λ o. IsObjectCopy moves (advanced_at fragment local call next (layout_here local next.1)).local
      (advanced_at fragment copy call next o).local) (sym (layouts_kept moves local copy is.kept here next.1))
      (at (layout_here local next.1))
    where
      at : (o : Option Layout) → IsObjectCopy moves
          (advanced_at fragment local call next o).local (advanced_at fragment copy call next o).local
      at None = is
      at (Some layout) =
          with_move moves local copy is here id call _ local.reports copy.reports found move refl move is.kept.reports

  pub both_advance : IsObjectCopy moves
      (done_here fragment local (LocalEvent.Advance id)).local (done_here fragment copy (LocalEvent.Advance id)).local
  both_advance =
      subst (λ l. IsObjectCopy moves l (done_here fragment copy (LocalEvent.Advance id)).local)
      (sym (advanced_is fragment local id call found))
      (subst (IsObjectCopy moves (advanced_here fragment local call (due_phase call)).local)
      (sym (advanced_is fragment copy id call again)) (advanced_both (due_phase call)))

pub both_answer : (fragment : Code) (moves : Type 0) → moves → (local copy : LocalObject) → IsObjectCopy moves local copy → (id : ℕ) →
    IsObjectCopy moves
    (done_here fragment local (LocalEvent.Answer id)).local (done_here fragment copy (LocalEvent.Answer id)).local
both_answer fragment moves here local copy is id = without_move moves local copy is here id

module _ (fragment : Code) (moves : Type 0) (here : moves) (local copy : LocalObject) (is : IsObjectCopy moves local copy)
    (letter : Letter) (call : NodeCall) (found : open_call local.calls letter.message.call ≡ Some call)
    (move : moves_call call ≡ true) (again : open_call copy.calls letter.message.call ≡ Some call) where
  learnt_copy : IsObjectCopy moves (learnt_from local letter) (learnt_from copy letter)
  learnt_copy = record {
    kept = letter_moving moves local copy is.kept letter here;
    distinct = subst NodeCallsDiffer (sym (calls_heard local letter)) is.distinct;
    mover = λ moving. here;
  }

  -- what one of them is told after it took the letter
  abbrev told_after : LocalObject → List Report
  told_after it = reports_after call.phase.number letter.message (told_to call.kind letter.told) it.reports

  -- a move is told nothing
  none_told : told_after (learnt_from copy letter) ≡ []
  none_told =
      ap (λ (b : Bool). reports_after call.phase.number letter.message (cond b None letter.told) (learnt_from copy letter).reports) move
      ∙ learnt_copy.kept.reports

  pub both_take : IsObjectCopy moves
      (done_here fragment local (LocalEvent.Take letter)).local (done_here fragment copy (LocalEvent.Take letter)).local
  both_take =
      let new = taking_open letter.message call in
      let first = learnt_from local letter in
      let second = learnt_from copy letter in
      subst (λ l. IsObjectCopy moves l (done_here fragment copy (LocalEvent.Take letter)).local)
      (sym (taken_is fragment local letter call found))
      (subst (IsObjectCopy moves (taking_here first call letter.message letter.told))
      (sym (taken_is fragment copy letter call again))
      (with_move moves first second learnt_copy here letter.message.call call new (told_after first) (told_after second)
      (ap (λ calls. open_call calls letter.message.call) (calls_heard local letter) ∙ found) move refl move none_told))
