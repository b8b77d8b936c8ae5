use Rattle.std.proofs.Common.{◌≡◌, ℕ, ◌<◌, ◌∷◌, [], true, refl, subst, ap₂, ◌∙◌, arith}
use Rattle.gf256.specs.Field.{field_sum}
use Rattle.gf256.specs.Field as field
use Rattle.kernels.specs.Dot.{row}
use Rattle.kernels.specs.Level.{level}
use Rattle.coding_tests.proofs.dots.sums_differences_by_hand.Goals as goal

first_row : field_sum 2 (row (3 ∷ 2 ∷ []) 1 0) ≡ level true 0
unfolding field.field_sum
first_row = refl

row_sums : (a b r : ℕ) → a ≡ 3 → b ≡ 2 → r < 1 → field_sum 2 (row (a ∷ b ∷ []) 1 r) ≡ level true r
row_sums a b r is_three is_two hr =
    let e : 0 ≡ r = omega arith in
    subst (λ (n : ℕ). field_sum 2 (row (a ∷ b ∷ []) 1 n) ≡ level true n) e
    (ap₂ (λ (x y : ℕ). field_sum 2 (row (x ∷ y ∷ []) 1 0)) is_three is_two ∙ first_row)

pub differences_of-requires-clause-levels : goal.differences_of-requires-clause-levels
differences_of-requires-clause-levels c d r hr = row_sums d.new.result d.new-2.result r d.new.ensures d.new-2.ensures hr
