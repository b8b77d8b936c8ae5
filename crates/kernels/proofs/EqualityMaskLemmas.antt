-- The mask of the lanes in which two vectors are equal.
use Rattle.std.proofs.Common.{◌≡◌, ℕ, suc, ◌+◌, ◌*◌, ◌%◌, ◌^◌, length, map, List, [], ◌∷◌, Bool, true, false}
use Rattle.std.proofs.Common.{cond, eqb, eqb-true, eq-eqb, refl, sym, ap, ap₂, subst, ◌∙◌, arith, pow-suc}
use Rattle.std.proofs.lemmas.List.{length-map}
use Rattle.std.proofs.lemmas.Simd.{length-zip2, mask_l-mod}
use lib.Lanes.{zip2, top, mask_l}

-- all bits are set where two lanes are equal, and else none
abbrev lane_mask : ℕ → ℕ → ℕ
lane_mask x y = cond (eqb x y) 255 0

-- whether the lanes are equal, by the highest bit of each lane's mask
abbrev equal_lanes : List ℕ → List ℕ → List Bool
equal_lanes xs ys = map (top 7) (zip2 lane_mask xs ys)

-- the first bit of a full mask, and the rest of it
first_set : (b : Bool) (m n : ℕ) → cond (top 7 (cond b 255 0)) 1 0 + 2 * m + 1 ≡ 2 ^ suc n → (b ≡ true) × (m + 1 ≡ 2 ^ n)
first_set true m n full = (refl, omega (arith, pow-suc 2 n))
first_set false m n full = absurd (omega (arith, pow-suc 2 n))

same_from_mask : (xs ys : List ℕ) → length xs ≡ length ys → mask_l (equal_lanes xs ys) + 1 ≡ 2 ^ length xs → xs ≡ ys
same_from_mask [] [] e full = refl
same_from_mask [] (y ∷ ys) e full = absurd (omega arith)
same_from_mask (x ∷ xs) [] e full = absurd (omega arith)
same_from_mask (x ∷ xs) (y ∷ ys) e full =
    let parts = first_set (eqb x y) (mask_l (equal_lanes xs ys)) (length xs) full in
    ap₂ (λ z zs. z ∷ zs) (eqb-true x y parts.0) (same_from_mask xs ys (omega arith) parts.1)

mask_from_same : (xs : List ℕ) → mask_l (equal_lanes xs xs) + 1 ≡ 2 ^ length xs
mask_from_same [] = refl
mask_from_same (x ∷ xs) =
    let here : eqb x x ≡ true = eq-eqb x x refl in
    ap (λ b. cond (top 7 (cond b 255 0)) 1 0 + 2 * mask_l (equal_lanes xs xs) + 1) here
    ∙ omega (arith, pow-suc 2 (length xs), mask_from_same xs)

-- of 32 lanes, none is cut off where the mask is made a number of 64 bits
mask_fits : (xs ys : List ℕ) → length xs ≡ 32 → length ys ≡ 32 → mask_l (equal_lanes xs ys) % 2 ^ 64 ≡ mask_l (equal_lanes xs ys)
mask_fits xs ys hx hy =
    mask_l-mod (equal_lanes xs ys) 64
    (omega (arith, length-map (zip2 lane_mask xs ys) (top 7), length-zip2 lane_mask xs ys (hx ∙ sym hy)))

pub same_from_full : (xs ys : List ℕ) → length xs ≡ 32 → length ys ≡ 32 →
    eqb (mask_l (equal_lanes xs ys) % 2 ^ 64) 4294967295 ≡ true → xs ≡ ys
same_from_full xs ys hx hy full =
    same_from_mask xs ys (hx ∙ sym hy)
    (ap (λ m. m + 1) (sym (mask_fits xs ys hx hy) ∙ eqb-true _ _ full) ∙ ap (λ n. 2 ^ n) (sym hx))

pub full_from_same : (xs ys : List ℕ) → length xs ≡ 32 → length ys ≡ 32 → xs ≡ ys →
    eqb (mask_l (equal_lanes xs ys) % 2 ^ 64) 4294967295 ≡ true
full_from_same xs ys hx hy e =
    let whole : mask_l (equal_lanes xs xs) + 1 ≡ 4294967296 = mask_from_same xs ∙ ap (λ n. 2 ^ n) hx in
    let is : mask_l (equal_lanes xs ys) % 2 ^ 64 ≡ 4294967295 =
    mask_fits xs ys hx hy ∙ ap (λ zs. mask_l (equal_lanes xs zs)) (sym e) ∙ omega arith in
    subst (λ m. eqb m 4294967295 ≡ true) (sym is) refl
