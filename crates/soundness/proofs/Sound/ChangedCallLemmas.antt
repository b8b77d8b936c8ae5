-- A call is changed, and what is so of the others stays.
use Rattle.std.proofs.Common.{◌≡◌, ℕ, zero, suc, cond, List, [], ◌∷◌, arith}
use Rattle.std.proofs.Common.{take, set, Some, refl, sym, ap, ◌∙◌, slice_get}
use Rattle.std.proofs.lemmas.Option.{same_Some}
use Rattle.mail.specs.declared.message.Message.{Message}
use Rattle.mail.specs.Phase.{Phase}
use Rattle.record.specs.Records.{Call, Object}
use Rattle.record.specs.Legal.{is_move, moves_in}
use Rattle.soundness.proofs.ListLemmas.{get_set}

pub moves_set : (calls : List Call) (index n : ℕ) (old new : Call) → slice_get calls index ≡ Some old → new.kind ≡ old.kind →
    moves_in (take n (set calls index new)) ≡ moves_in (take n calls)
moves_set [] index n old new at e = absurd (cc)
moves_set (call ∷ calls) index zero old new at e = zero_taken (set (call ∷ calls) index new)
  where
    zero_taken : (xs : List Call) → moves_in (take zero xs) ≡ 0
    zero_taken xs = refl
moves_set (call ∷ calls) zero (suc n) old new at e =
    let kind_is : new.kind ≡ call.kind = e ∙ sym (ap (λ (c : Call). c.kind) (same_Some call old at)) in
    ap (λ k. cond (is_move k) (suc (moves_in (take n calls))) (moves_in (take n calls))) kind_is
moves_set (call ∷ calls) (suc index) (suc n) old new at e =
    ap (λ m. cond (is_move call.kind) (suc m) m) (moves_set calls index n old new at e)

-- a change of mail and calls alone
abbrev pub Others : Object → List Message → List Call → Object
Others object mail calls = record object { mail = mail; calls = calls }

-- a call that is changed: it stays what it is, keeps its answer, and each of its phases keeps its kind, position and start
pub record Changed (old new : Call) : Type 0 where
  pub same_id : new.id ≡ old.id
  pub same_kind : new.kind ≡ old.kind
  pub same_called : new.called ≡ old.called
  pub same_answer : (step : ℕ) → old.answered ≡ Some step → new.answered ≡ Some step
  pub same_phases : (place : ℕ) (phase : Phase) → slice_get old.phases place ≡ Some phase →
      (other : Phase) × (slice_get new.phases place ≡ Some other) × (other.kind ≡ phase.kind) × (other.position ≡ phase.position)
      × (other.start ≡ phase.start)

pub same_call : (call : Call) → Changed call call
same_call call = grind arith

-- what each call was before one was changed
pub record Was (object : Object) (index : ℕ) (new : Call) : Type 0 where
  pub old : Call
  pub at : slice_get object.calls index ≡ Some old
  pub changed : Changed old new

pub was : (object : Object) (index : ℕ) (old new : Call) → slice_get object.calls index ≡ Some old → Changed old new →
    (i : ℕ) (c : Call) → slice_get (set object.calls index new) i ≡ Some c → Was object i c
was object index old new at changed i c e = grind (arith, get_set, same_call)
