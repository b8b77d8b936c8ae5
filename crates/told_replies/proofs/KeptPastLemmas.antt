-- What later steps of a record leave as it was: the layouts of the positions, what the banks knew at each step up to then,
-- and the calls with their phases.
use Rattle.std.proofs.Common.{◌≡◌, ℕ, zero, suc, ◌<◌, ◌≤◌, List, [], ◌∷◌, length, set}
use Rattle.std.proofs.Common.{Some, slice_get, refl, sym, subst, ap, ◌∙◌, arith, le_refl}
use Rattle.std.proofs.lemmas.Option.{same_Some}
use Rattle.bank.specs.Bank.{Bank}
use Rattle.bank.specs.Facts.{SameBefore}
use Rattle.record.specs.Records.{Call, Object, bank_at, layout_at}
use Rattle.told_replies.proofs.GrownPhaseLemmas.{PhasesGrow, phases_same, phases_twice}

-- the call at this index among these: it has the same id and kind, and its phases grew
pub record IsStillAt (calls : List Call) (index : ℕ) (call : Call) : Type 0 where
  pub other : Call
  pub at : slice_get calls index ≡ Some other
  pub same_id : other.id ≡ call.id
  pub same_kind : other.kind ≡ call.kind
  pub grown : PhasesGrow call.phases other.phases

-- the new record keeps what the old one has up to this step
pub record KeepsPast (last : ℕ) (old new : Object) : Type 0 where
  pub positions : length old.layouts ≤ length new.layouts
  pub layouts : (p : ℕ) → p < length old.layouts → layout_at new p ≡ layout_at old p
  pub places : length old.banks ≤ length new.banks
  pub banks : (p i : ℕ) → p < length old.banks → SameBefore (bank_at old p i) (bank_at new p i) (suc last)
  pub calls : (index : ℕ) (call : Call) → slice_get old.calls index ≡ Some call → IsStillAt new.calls index call

-- Banks

pub bank_same : (bank : Bank) (now : ℕ) → SameBefore bank bank now
bank_same bank now = record {
  finalized = λ tag step past. refl;
  arrived = λ tag step past. refl;
  pointer = λ step past. refl;
  dropped = λ tag step past. refl;
}

bank_twice : (a b c : Bank) (now later : ℕ) → now ≤ later → SameBefore a b now → SameBefore b c later → SameBefore a c now
bank_twice a b c now later le first second = record {
  finalized = λ tag step past. second.finalized tag step (omega arith) ∙ first.finalized tag step past;
  arrived = λ tag step past. second.arrived tag step (omega arith) ∙ first.arrived tag step past;
  pointer = λ step past. second.pointer step (omega arith) ∙ first.pointer step past;
  dropped = λ tag step past. second.dropped tag step (omega arith) ∙ first.dropped tag step past;
}

pub bank_before : (a b : Bank) (now later : ℕ) → now ≤ later → SameBefore a b later → SameBefore a b now
bank_before a b now later le same = bank_twice a a b now later le (bank_same a now) same

-- Calls

pub same_call : (calls : List Call) (index : ℕ) (call : Call) → slice_get calls index ≡ Some call → IsStillAt calls index call
same_call calls index call at = record {
  other = call;
  at = at;
  same_id = refl;
  same_kind = refl;
  grown = phases_same call.phases;
}

call_twice : (middle calls : List Call) (index : ℕ) (call : Call) → IsStillAt middle index call →
    ((other : Call) → slice_get middle index ≡ Some other → IsStillAt calls index other) → IsStillAt calls index call
call_twice middle calls index call first second =
    let next = second first.other first.at in record {
      other = next.other;
      at = next.at;
      same_id = next.same_id ∙ first.same_id;
      same_kind = next.same_kind ∙ first.same_kind;
      grown = phases_twice call.phases first.other.phases next.other.phases first.grown next.grown;
    }

-- one call changes
pub changed_call : (calls : List Call) (index : ℕ) (old new : Call) → slice_get calls index ≡ Some old → new.id ≡ old.id →
    new.kind ≡ old.kind → PhasesGrow old.phases new.phases → (i : ℕ) (call : Call) → slice_get calls i ≡ Some call →
    IsStillAt (set calls index new) i call
changed_call [] index old new at id kind grown i call there = absurd (cc)
changed_call (first ∷ calls) zero old new at id kind grown zero call there =
    let same : old ≡ call = same_Some old call (sym at ∙ there) in record {
      other = new;
      at = refl;
      same_id = id ∙ ap (λ (c : Call). c.id) same;
      same_kind = kind ∙ ap (λ (c : Call). c.kind) same;
      grown = subst (λ (c : Call). PhasesGrow c.phases new.phases) same grown;
    }
changed_call (first ∷ calls) zero old new at id kind grown (suc i) call there = same_call (new ∷ calls) (suc i) call there
changed_call (first ∷ calls) (suc index) old new at id kind grown zero call there =
    same_call (first ∷ set calls index new) zero call there
changed_call (first ∷ calls) (suc index) old new at id kind grown (suc i) call there =
    let rest = changed_call calls index old new at id kind grown i call there in record {
      other = rest.other;
      at = rest.at;
      same_id = rest.same_id;
      same_kind = rest.same_kind;
      grown = rest.grown;
    }

-- Records

pub past_same : (last : ℕ) (object : Object) → KeepsPast last object object
past_same last object = record {
  positions = le_refl (length object.layouts);
  layouts = λ p h. refl;
  places = le_refl (length object.banks);
  banks = λ p i h. bank_same (bank_at object p i) (suc last);
  calls = λ index call at. same_call object.calls index call at;
}

pub past_twice : (last later : ℕ) (a b c : Object) → last ≤ later → KeepsPast last a b → KeepsPast later b c → KeepsPast last a c
past_twice last later a b c le first second = record {
  positions = (let x = first.positions in let y = second.positions in omega arith);
  layouts = λ p h. second.layouts p (let x = first.positions in omega arith) ∙ first.layouts p h;
  places = (let x = first.places in let y = second.places in omega arith);
  banks = λ p i h.
      bank_twice (bank_at a p i) (bank_at b p i) (bank_at c p i) (suc last) (suc later) (omega arith) (first.banks p i h)
      (second.banks p i (let x = first.places in omega arith));
  calls = λ index call at.
      call_twice b.calls c.calls index call (first.calls index call at) (λ other there. second.calls index other there);
}
