-- Sums that grow by one more number, up to a cap.
use Rattle.std.proofs.Common.{◌≡◌, ℕ, ◌+◌, ◌-◌, ◌^◌, min, sym, ap, ap₂, ◌∙◌, arith}

abbrev pub capped : ℕ → ℕ
capped n = min n (2 ^ 64 - 1)

capped_sum : (a b : ℕ) → capped (capped a + capped b) ≡ capped (a + b)
capped_sum a b = grind arith

-- a capped total grows by a capped number
pub capped_more : (total s x y sum more : ℕ) → total ≡ capped s → x ≡ capped y → sum ≡ capped (total + x) → more ≡ s + y
    → sum ≡ capped more
capped_more total s x y sum more is part added grown =
    added ∙ (ap₂ (λ a b. capped (a + b)) is part ∙ (capped_sum s y ∙ ap capped (sym grown)))
