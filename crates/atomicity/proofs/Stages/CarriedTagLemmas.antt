-- What a move carried from one position to the next.
use Rattle.std.proofs.Common.{◌≡◌, ℕ, zero, suc, ◌<◌, ◌≤◌, ◌⊎◌, Bool, true, false}
use Rattle.std.proofs.Common.{cond, List, [], ◌∷◌, take, Some, None, refl, sym, subst₂}
use Rattle.std.proofs.Common.{ap, ◌∙◌, inl, inr, arith, le_of_lt, slice_get, take-take}
use Rattle.tag.specs.declared.tag.Tag.{Tag}
use Rattle.record.specs.declared.call.CallKind.{CallKind}
use Rattle.record.specs.Records.{Call, Object, bank_at}
use Rattle.bank.specs.Bank.{Bank}
use Rattle.bank.specs.declared.status.Status.TheVariants.{Final}
use Rattle.bank.specs.declared.kind.Kind.TheVariants.{Spread}
use Rattle.record.specs.declared.call.CallKind.TheVariants.{Move}
use Rattle.bank.specs.Knowledge.{final_since, pointer_at}
use Rattle.record.specs.declared.stage.Stage.{Stage}
use Rattle.record.specs.PhaseOrder.{due}
use Rattle.record.specs.Legal.{is_move, moves_in, source_of, IsLegal}
use Rattle.soundness.proofs.Quorums.QuorumMeetingLemmas.{Pointed, SeenFinal}
use Rattle.atomicity.proofs.Stages.CallFactLemmas.{call_at_phase}
use Rattle.atomicity.proofs.Stages.StageFactLemmas.{Facts, Carried, Put, IsMoveFrom}
use Rattle.atomicity.proofs.Stages.StoredTagLemmas.{Stored, stored_later}
use Rattle.record.proofs.TagOrderLemmas.{IsAtMost}

-- a move whose queries are complete, and whose tag is at a quorum of the later position by the step
pub record MovedFrom (object : Object) (position step : ℕ) : Type 0 where
  pub index : ℕ
  pub call : Call
  pub at : slice_get object.calls index ≡ Some call
  pub is_from : IsMoveFrom call.kind (source_of object index) position
  pub tag : Tag
  pub carried : Carried object call.called position tag
  pub stored : Stored object (suc position) tag step

final_from : (bank : Bank) (step : ℕ) → pointer_at bank step ≡ Final →
    (came : ℕ) × (final_since bank.pointer ≡ Some came) × (came ≤ step)
final_from bank step e = grind arith

moved_later : (object : Object) (position s u : ℕ) → s ≤ u → MovedFrom object position s → MovedFrom object position u
moved_later object position s u h moved = grind (arith, stored_later)

-- what a final pointer that is spread at a stage rests on
spread_rests : (object : Object) (index : ℕ) (call : Call) (now position : ℕ) (stage : Stage) →
    slice_get object.calls index ≡ Some call → Facts object call.kind (source_of object index) call.id call.called now stage →
    due stage ≡ Some (Spread Final, position) → SeenFinal object position now ⊎ MovedFrom object position now
spread_rests object index call now position stage at facts e = grind arith

final_step : (object : Object) → IsLegal object → (position step : ℕ) → SeenFinal object position step →
    (now : ℕ) × (now < step) × (SeenFinal object position now ⊎ MovedFrom object position now)
final_step object legal position step seen =
    let since = final_from (bank_at object position seen.0) step seen.1 in
    let begun = (legal.banks position seen.0).final since.0 since.1 in
    let there = call_at_phase object legal begun.index begun.call begun.at begun.place begun.phase begun.within in
    let is_due : due there.stage ≡ Some (Spread Final, position) =
    subst₂ (λ kind p. due there.stage ≡ Some (kind, p)) begun.same_kind begun.same_position there.is_due in
    let earlier : there.now < step = (let a = there.before in let b = begun.before in let c = since.2 in omega arith) in
    (there.now, earlier, spread_rests object begun.index begun.call there.now position there.stage begun.at there.facts is_due)

-- a final pointer stands only after a move's tag is at a quorum of the next position
pub final_rests : (object : Object) → IsLegal object → (fuel : ℕ) (position step : ℕ) → step ≤ fuel →
    SeenFinal object position step → MovedFrom object position step
final_rests object legal zero position step h seen =
    let found = final_step object legal position step seen in
    absurd (let less = found.1 in omega arith)
final_rests object legal (suc fuel) position step h seen =
    let found = final_step object legal position step seen in
    let less = found.1 in
    elim found.2 [
      | inl again ↦ moved_later object position found.0 step (le_of_lt less)
          (final_rests object legal fuel position found.0 (omega arith) again)
      | inr moved ↦ moved_later object position found.0 step (le_of_lt less) moved
    ]

-- moves are counted
kind_of_move : (kind : CallKind) → is_move kind ≡ true → kind ≡ Move
kind_of_move kind e = grind arith

earlier_move : (calls : List Call) (r : ℕ) → moves_in calls ≡ suc r →
    (i : ℕ) × (call : Call) × (slice_get calls i ≡ Some call) × (call.kind ≡ Move) × (moves_in (take i calls) ≡ r)
earlier_move [] r e = absurd (omega arith)
earlier_move (x ∷ xs) r e = go (is_move x.kind) refl (moves_in xs) refl (λ n h. earlier_move xs n h) e
  where
    go : (b : Bool) → is_move x.kind ≡ b → (n : ℕ) → moves_in xs ≡ n → ((n : ℕ) → moves_in xs ≡ suc n →
        (i : ℕ) × (call : Call) × (slice_get xs i ≡ Some call) × (call.kind ≡ Move) × (moves_in (take i xs) ≡ n)) →
        cond (is_move x.kind) (suc (moves_in xs)) (moves_in xs) ≡ suc r →
        (i : ℕ) × (call : Call) × (slice_get (x ∷ xs) i ≡ Some call) × (call.kind ≡ Move) × (moves_in (take i (x ∷ xs)) ≡ r)
    go true b zero n rest h = (0, x, refl, kind_of_move x.kind b, let k = rw (b, n) at h in omega arith)
    go false b zero n rest h = absurd (let k = rw (b, n) at h in omega arith)
    go true b (suc m) n rest h =
        let found = rest m n in
        let k = rw (b, n) at h in
        (suc found.0, found.1, found.2, found.3, rw (b, found.4) (omega arith))
    go false b (suc m) n rest h =
        let found = rest m n in
        let k = rw (b, n) at h in
        (suc found.0, found.1, found.2, found.3, rw (b, found.4) (omega arith))

taken_get : {A : Type 0} (xs : List A) (n i : ℕ) (x : A) → slice_get (take n xs) i ≡ Some x → (i < n) × (slice_get xs i ≡ Some x)
taken_get [] zero i x e = absurd (cc)
taken_get [] (suc n) i x e = absurd (cc)
taken_get (y ∷ ys) zero i x e = absurd (cc)
taken_get (y ∷ ys) (suc n) zero x e = (omega arith, e)
taken_get (y ∷ ys) (suc n) (suc i) x e = let rest = taken_get ys n i x e in (let less = rest.0 in omega arith, rest.1)

-- the move before a move that leads from a later position
pub record Prior (object : Object) (position step : ℕ) : Type 0 where
  pub index : ℕ
  pub call : Call
  pub at : slice_get object.calls index ≡ Some call
  pub is_from : IsMoveFrom call.kind (source_of object index) position
  pub answered : ℕ
  pub was : call.answered ≡ Some answered
  pub before : answered < step

pub prior_move : (object : Object) → IsLegal object → (index : ℕ) (call : Call) → slice_get object.calls index ≡ Some call →
    (r : ℕ) → IsMoveFrom call.kind (source_of object index) (suc r) → Prior object r call.called
prior_move object legal index call at r is_from =
    let found = earlier_move (take index object.calls) r (sym is_from.1) in
    let there = taken_get object.calls index found.0 found.1 found.2 in
    let order = legal.moves found.0 index found.1 call there.1 at there.0 found.3 is_from.0 in
    record {
      index = found.0;
      call = found.1;
      at = there.1;
      is_from = (found.3, sym (ap moves_in (sym (take-take found.0 index object.calls (le_of_lt there.0))) ∙ found.4));
      answered = order.0;
      was = order.1;
      before = order.2;
    }

-- a move that may be answered
pub finished_move : (object : Object) (kind : CallKind) (from number called now : ℕ) (stage : Stage) →
    kind ≡ Move → due stage ≡ None → Facts object kind from number called now stage →
    (tag : Tag) × Carried object called from tag × Stored object (suc from) tag now × Pointed object from now
finished_move object kind from number called now stage k e facts = grind arith

-- the first move after a call's last position carries at least the call's tag
pub carried_here : (object : Object) (now called position : ℕ) (tag moved : Tag) → Put object now position tag →
    Carried object called position moved → IsAtMost tag moved
carried_here object now called position tag moved put carried = carried.answers tag (put.pointed carried.asked carried.pointed)
