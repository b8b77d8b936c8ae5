-- Texts of the numbers of a range that grows by one more.
use Rattle.std.proofs.Common.{◌≡◌, ℕ, zero, suc, ◌+◌, List, ◌++◌, sym, ap, ◌∙◌, append-nil, append_assoc, zero-add, arith}
use Rattle.std.specs.List.{flat_map, range_with_len}

-- the texts of n numbers from a on, and of one more
after_last : (f : ℕ → List ℕ) (a n : ℕ) → flat_map f (range_with_len a (suc n)) ≡ flat_map f (range_with_len a n) ++ f (a + n)
after_last f a zero = let e : a ≡ a + 0 = omega arith in append-nil (f a) ∙ ap f e
after_last f a (suc n) =
    let e : (a + 1) + n ≡ a + suc n = omega arith in
    ap (λ (t : List ℕ). f a ++ t) (after_last f (a + 1) n)
    ∙ (sym (append_assoc (f a) (flat_map f (range_with_len (a + 1) n)) (f ((a + 1) + n)))
    ∙ ap (λ (m : ℕ). (f a ++ flat_map f (range_with_len (a + 1) n)) ++ f m) e)

-- the texts of the numbers below n, and of one more
pub flat_map-range_more : (f : ℕ → List ℕ) (n : ℕ) → flat_map f (range_with_len 0 (n + 1)) ≡ flat_map f (range_with_len 0 n) ++ f n
flat_map-range_more f n =
    let e : n + 1 ≡ suc n = omega arith in
    ap (λ (m : ℕ). flat_map f (range_with_len 0 m)) e
    ∙ (after_last f 0 n ∙ ap (λ (m : ℕ). flat_map f (range_with_len 0 n) ++ f m) (zero-add n))
