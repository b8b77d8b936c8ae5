-- Input of which nothing was used.
use Rattle.std.proofs.Common.{◌≡◌, ℕ, ◌-◌, List, [], ◌∷◌, ◌++◌, length, sym, ap, length-append, arith}

-- the bytes behind those that were used are all, if none was
pub all_left : (used rest input : List ℕ) → input ≡ used ++ rest → length input - length rest ≡ 0 → rest ≡ input
all_left [] rest input are none = sym are
all_left (byte ∷ used) rest input are none =
    let long = ap (λ (t : List ℕ). length t) are in let apart = length-append used rest in absurd (omega arith)
