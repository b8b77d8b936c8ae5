-- A sound object has no bank of a member whose number is MOST_MEMBERS or greater.
use Rattle.std.proofs.Common.{◌≡◌, ◌⊎◌, ℕ, ◌<◌, ◌≤◌, zero, suc, List, [], ◌∷◌, get_or, length}
use Rattle.std.proofs.Common.{Some, None, refl, ap, inl, inr, arith}
use Rattle.std.specs.Prelude.{slice_get}
use Rattle.std.specs.List.{AllByRecursion}
use Rattle.std.proofs.lemmas.Option.{slice_get_cases, slice_get_past}
use Rattle.tag.specs.declared.limits.TheConstants.{MOST_MEMBERS}
use Rattle.layout.specs.Layout.{Layout, IsLawful}
use Rattle.bank.specs.Bank.{Bank}
use Rattle.encoder.specs.Fragment.{fragment}
use Rattle.record.specs.Records.{Object, no_layout}
use Rattle.soundness.specs.Sound.{IsSound}
use Rattle.register.specs.View.{bank_there}

few_members : (layouts : List Layout) (position : ℕ) → AllByRecursion IsLawful layouts →
    length (get_or layouts position no_layout).members ≤ MOST_MEMBERS
few_members [] position all = omega arith
few_members (layout ∷ layouts) zero all = all.0.few
few_members (layout ∷ layouts) (suc position) all = few_members layouts position all.1

past_end : {A : Type 0} (xs : List A) (i : ℕ) (d : A) → length xs ≤ i → get_or xs i d ≡ d
past_end [] i d over = refl
past_end (x ∷ xs) zero d over = absurd (omega (arith, over))
past_end (x ∷ xs) (suc i) d over = past_end xs i d (omega (arith, over))

pub no_member : (object : Object) (step position member : ℕ) → IsSound fragment object step → MOST_MEMBERS ≤ member →
    bank_there object position member ≡ None
no_member object step position member sound over =
    slice_get_past (get_or object.banks position []) member (few (slice_get_cases object.banks position).1)
  where
    few : ((x : List Bank) × (position < length object.banks)
        × (slice_get object.banks position ≡ Some x) × (get_or object.banks position x ≡ x))
        ⊎ ((length object.banks ≤ position) × (slice_get object.banks position ≡ None)) →
        length (get_or object.banks position []) ≤ member
    few (inl w) =
        let same = sound.shape.banks in
        let within = w.1 in
        let members = sound.shape.members position (omega (arith, same, within)) in
        let most = few_members object.layouts position sound.legal.layouts in
        omega (arith, members, most, over)
    few (inr w) = omega (arith, ap length (past_end object.banks position [] w.0))
