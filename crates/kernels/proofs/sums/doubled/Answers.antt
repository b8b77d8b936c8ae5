-- By computing it for each byte.
use Rattle.std.proofs.Common.{◌≡◌, ℕ, ◌+◌, ◌%◌, length, map, List, [], ◌∷◌, true, cond, eqb}
use Rattle.std.proofs.Common.{eqb-true, leb, replicate, bit_xor, refl, sym, ap, ap₂, ◌∙◌}
use Rattle.std.proofs.lemmas.List.Elements.{All-head, All-tail}
use Rattle.gf256.specs.Polynomial.{AreBytes, scaled}
use Rattle.gf256.specs.Field.{field_product, remainder, polynomial_product}
use Rattle.gf256.proofs.AdditiveFunctionLemmas.{all_below, all_below-at}
use Rattle.gf256.proofs.RootLemmas.{IsByte}
use Rattle.kernels.proofs.LaneLemmas.{AreBytes-from_lanes}
use Rattle.kernels.proofs.sums.doubled.Goals as goal
use lib.Lanes.{zip2, sel_l, top}

-- what becomes of a lane
abbrev lane : ℕ → ℕ
lane x = bit_xor ((x + x) % 256) (cond (top 7 (cond (leb 128 x) 255 0)) 29 0)

lanes_double : all_below 256 (λ x. eqb (lane x) (field_product 2 x)) ≡ true
unfolding field_product remainder polynomial_product
lanes_double = refl

-- what becomes of a vector of n lanes
abbrev doubled_lanes : ℕ → List ℕ → List ℕ
doubled_lanes n xs =
    zip2 bit_xor (zip2 (λ x y. (x + y) % 256) xs xs)
    (sel_l (map (top 7) (zip2 (λ x y. cond (leb x y) 255 0) (replicate n 128) xs)) (replicate n 29) (replicate n 0))

doubles : (xs : List ℕ) → AreBytes xs → doubled_lanes (length xs) xs ≡ scaled 2 xs
doubles [] bytes = refl
doubles (x ∷ xs) bytes =
    ap₂ (λ y ys. y ∷ ys)
    (eqb-true _ _ (all_below-at 256 (λ x. eqb (lane x) (field_product 2 x)) lanes_double x (All-head IsByte x xs bytes)))
    (doubles xs (All-tail IsByte x xs bytes))

pub returns : goal.returns
returns c = ap (λ n. doubled_lanes n c.args.lanes) (sym c.fits-lanes.0)
    ∙ doubles c.args.lanes (AreBytes-from_lanes c.args.lanes c.fits-lanes.1)
