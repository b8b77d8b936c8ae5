-- One call more of a register's pass.
use Rattle.std.proofs.Common.{◌≡◌, ℕ, ◌+◌, ◌<◌, ◌↔◌, ◌≢◌, List, [], ◌∷◌}
use Rattle.std.proofs.Common.{length, drop, Option, Some, refl, ap, sym, ◌∙◌, subst, add-one, drop-cons}
use Rattle.record.specs.declared.call.Entry.{Entry}
use Rattle.record.specs.declared.call.Operation.{Operation}
use Rattle.record.specs.declared.call.Operation.TheVariants as operation
use Rattle.atomicity.specs.Atomic.{Leaves, IsRegister}
use Rattle.history.specs.Check.{entries_listed}
use Rattle.history.proofs.PairwiseByPlaceLemmas.{at}

pub named-drop : (entries : List Entry) (order : List ℕ) (index : ℕ) → index < length order →
    entries_listed entries (drop index order) ≡ at entries order index ∷ entries_listed entries (drop (index + 1) order)
named-drop entries order index h = rw (add-one, drop-cons order index 0 h) refl

abbrev pub Steps : Operation → Option (List ℕ) → (current : List ℕ) → List Entry → Type 0
Steps op value current rest = (next : List ℕ) × Leaves op value current next × IsRegister next rest

pub after_write : (op : Operation) (value : Option (List ℕ)) (current bytes : List ℕ) (rest : List Entry) →
    op ≡ operation.Write → value ≡ Some bytes →
    Steps op value current rest ↔ IsRegister bytes rest
after_write op value current bytes rest eo ev =
    rw (eo, ev) (
      (λ (s : Steps operation.Write (Some bytes) current rest). let e : s.0 ≡ bytes = cc (s.1) in
          subst (λ (v : List ℕ). IsRegister v rest) e s.2),
      (λ (r : IsRegister bytes rest). (bytes, refl, r)),
    )

pub after_read : (op : Operation) (value : Option (List ℕ)) (current bytes : List ℕ) (rest : List Entry) →
    op ≡ operation.Read → value ≡ Some bytes → bytes ≡ current →
    Steps op value current rest ↔ IsRegister current rest
after_read op value current bytes rest eo ev same =
    rw (eo, ev) (
      (λ (s : Steps operation.Read (Some bytes) current rest). subst (λ (v : List ℕ). IsRegister v rest) s.1.1 s.2),
      (λ (r : IsRegister current rest). (current, (ap (λ (v : List ℕ). Some v) same, refl), r)),
    )

pub wrong_read : (op : Operation) (value : Option (List ℕ)) (current bytes : List ℕ) (rest : List Entry) →
    op ≡ operation.Read → value ≡ Some bytes → bytes ≢ current →
    Steps op value current rest → ⊥
wrong_read op value current bytes rest eo ev ne s =
    let t : Steps operation.Read (Some bytes) current rest = rw (eo, ev) at s in
    let e : bytes ≡ current = cc (t.1.0) in ne e

-- if a call is a step of the register, the whole list follows the register exactly if the calls after this one do
pub passes_on : (entries : List Entry) (order : List ℕ) (index : ℕ) (entry : Entry) (current next : List ℕ) →
    index < length order → entry ≡ at entries order index →
    IsRegister [] (entries_listed entries order) ↔ IsRegister current (entries_listed entries (drop index order)) →
    Steps entry.kind entry.value current (entries_listed entries (drop (index + 1) order))
    ↔ IsRegister next (entries_listed entries (drop (index + 1) order)) →
    IsRegister [] (entries_listed entries order) ↔ IsRegister next (entries_listed entries (drop (index + 1) order))
passes_on entries order index entry current next h is whole step =
    let cut : entries_listed entries (drop index order) ≡ entry ∷ entries_listed entries (drop (index + 1) order) =
    named-drop entries order index h ∙ ap (λ (e : Entry). e ∷ entries_listed entries (drop (index + 1) order)) (sym is) in (
      (λ (r : IsRegister [] (entries_listed entries order)). step.0 (subst (λ (es : List Entry). IsRegister current es) cut (whole.0 r))),
      (λ (r : IsRegister next (entries_listed entries (drop (index + 1) order))).
          whole.1 (subst (λ (es : List Entry). IsRegister current es) (sym cut) (step.1 r))),
    )

-- if a call is no step of the register, the whole list does not follow the register
pub stops : (entries : List Entry) (order : List ℕ) (index : ℕ) (entry : Entry) (current : List ℕ) → index < length order →
    entry ≡ at entries order index →
    IsRegister [] (entries_listed entries order) ↔ IsRegister current (entries_listed entries (drop index order)) →
    (Steps entry.kind entry.value current (entries_listed entries (drop (index + 1) order)) → ⊥) →
    IsRegister [] (entries_listed entries order) → ⊥
stops entries order index entry current h is whole none r =
    let cut : entries_listed entries (drop index order) ≡ entry ∷ entries_listed entries (drop (index + 1) order) =
    named-drop entries order index h ∙ ap (λ (e : Entry). e ∷ entries_listed entries (drop (index + 1) order)) (sym is) in
    none (subst (λ (es : List Entry). IsRegister current es) cut (whole.0 r))

pub no_move : (op : Operation) (value : Option (List ℕ)) (current : List ℕ) (rest : List Entry) → op ≡ operation.Move →
    Steps op value current rest → ⊥
no_move op value current rest eo s =
    let t : Steps operation.Move value current rest = rw eo at s in t.1
