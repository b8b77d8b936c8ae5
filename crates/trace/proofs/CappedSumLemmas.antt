-- Sums that grow by one more number, up to a cap.
use Rattle.std.proofs.Common.{◌≡◌, ℕ, zero, suc, ◌+◌, ◌<◌, List, ◌∷◌, length, take, get_or, Some, sym, ap, ap₂, ◌∙◌, arith}
use Rattle.std.specs.Prelude.{sum_by, slice_get}
use Rattle.std.proofs.lemmas.Option.{get_or_from_slice_get, slice_get_within}
use Rattle.std.proofs.lemmas.List.Sums.{sum_by-cons, sum_by_more}
use Rattle.record.specs.Accounts.{member_sum}
use Rattle.std.specs.Io.Iter.{u64_saturate}

capped_sum : (a b : ℕ) → u64_saturate (u64_saturate a + u64_saturate b) ≡ u64_saturate (a + b)
capped_sum a b = grind arith

-- a capped total grows by a capped number
pub capped_more : (total s x y sum more : ℕ) → total ≡ u64_saturate s → x ≡ u64_saturate y → sum ≡ u64_saturate (total + x)
    → more ≡ s + y → sum ≡ u64_saturate more
capped_more total s x y sum more is part added grown =
    added ∙ (ap₂ (λ a b. u64_saturate (a + b)) is part ∙ (capped_sum s y ∙ ap u64_saturate (sym grown)))

-- a capped total grows by the first of the numbers that are left
pub capped_rest : {X : Type 0} (f : X → ℕ) (x : X) (rest left : List X) (total y new : ℕ) → left ≡ x ∷ rest → y ≡ u64_saturate (f x)
    → new ≡ u64_saturate (total + y) → u64_saturate (new + sum_by f rest) ≡ u64_saturate (total + sum_by f left)
capped_rest f x rest left total y new is part grown =
    let sum = sum_by-cons f x rest in let same = ap (sum_by f) is in
    grind (arith, sum, same, part, grown)

-- one element more of a sum
pub sum_at : {X : Type 0} (f : X → ℕ) (xs : List X) (i : ℕ) (x : X) → slice_get xs i ≡ Some x
    → sum_by f (take (i + 1) xs) ≡ sum_by f (take i xs) + f x
sum_at f xs i x at =
    let below : i < length xs = slice_get_within xs i x at in
    let is : get_or xs i x ≡ x = get_or_from_slice_get xs i x x at in
    let more = sum_by_more f xs i x below in
    let same = ap f is in
    omega (arith, more, same)

sum_last : (f : ℕ → ℕ) (member count : ℕ) → member_sum f member (suc count) ≡ member_sum f member count + f (member + count)
sum_last f member zero =
    let none : member + 0 ≡ member = omega arith in
    let same = ap f none in
    omega (arith, same)
sum_last f member (suc count) =
    let rest = sum_last f (suc member) count in
    let moved : suc member + count ≡ member + suc count = omega arith in
    let same = ap f moved in
    omega (arith, rest, same)

-- one more at the end of a sum from 0
pub sum_more : (f : ℕ → ℕ) (count : ℕ) → member_sum f 0 (count + 1) ≡ member_sum f 0 count + f count
sum_more f count =
    let e : count + 1 ≡ suc count = omega arith in
    let same = ap (member_sum f 0) e in
    let last = sum_last f 0 count in
    let from_none = ap f (let z : 0 + count ≡ count = omega arith in z) in
    omega (arith, same, last, from_none)
