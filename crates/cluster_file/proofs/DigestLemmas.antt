-- What is hashed determines what is fixed.
use Rattle.std.proofs.Common.{◌≡◌, ℕ, ◌<◌, ◌^◌, List, [], ◌∷◌, ◌++◌, length, Option, Some, None, refl, sym, ap, ◌∙◌, arith}
use Rattle.std.specs.Int.{w32, to_be_bytes, from_be_bytes}
use Rattle.std.proofs.lemmas.Nat.{from_be_bytes-to_be_bytes_4}
use Rattle.cluster_file.proofs.FirstNodesLemmas.{placed-IsLawful}
use Rattle.cluster_file.specs.File.{Fixed, placement_of}
use Rattle.cluster_file.specs.Digest.{delta_bytes}
use Rattle.cluster_file.specs.Written.{IsDelta}
use Rattle.cluster_file.specs.Laws.{HashedBytesDiffer, PlacedLayoutsAreLawful}

-- two fronts of one length, before what is behind them
same_front : (f g xs ys : List ℕ) → length f ≡ length g → f ++ xs ≡ g ++ ys → (f ≡ g) × (xs ≡ ys)
same_front [] [] xs ys same e = (refl, e)
same_front [] (b ∷ g) xs ys same e = absurd (omega arith)
same_front (a ∷ f) [] xs ys same e = absurd (omega arith)
same_front (a ∷ f) (b ∷ g) xs ys same e =
    let head : a ≡ b = cc in
    let tail : f ++ xs ≡ g ++ ys = cc in
    let rest = same_front f g xs ys (omega arith) tail in
    (rw (head, rest.0) refl, rest.1)

-- the bytes of a number of 32 bits
number_again : (c d : ℕ) → c < 2 ^ 32 → d < 2 ^ 32 → to_be_bytes w32 c ≡ to_be_bytes w32 d → c ≡ d
number_again c d cs ds e =
    sym (from_be_bytes-to_be_bytes_4 c cs) ∙ ap (from_be_bytes w32) e ∙ from_be_bytes-to_be_bytes_4 d ds

first_bytes : (a b : ℕ) (xs ys : List ℕ) → a ∷ xs ≡ b ∷ ys → a ≡ b
first_bytes a b xs ys e = cc

-- the bytes of a delta, before what is behind them
delta_again : (x y : Option ℕ) (xs ys : List ℕ) → IsDelta x → IsDelta y → delta_bytes x ++ xs ≡ delta_bytes y ++ ys
    → (x ≡ y) × (xs ≡ ys)
delta_again None None xs ys is_x is_y e = let tail : xs ≡ ys = cc in (refl, tail)
delta_again None (Some d) xs ys is_x is_y e = absurd (omega (arith, first_bytes 0 1 _ _ e))
delta_again (Some c) None xs ys is_x is_y e = absurd (omega (arith, first_bytes 1 0 _ _ e))
delta_again (Some c) (Some d) xs ys is_x is_y e =
    let tail : to_be_bytes w32 c ++ xs ≡ to_be_bytes w32 d ++ ys = cc in
    let parts = same_front (to_be_bytes w32 c) (to_be_bytes w32 d) xs ys refl tail in
    (ap (λ (n : ℕ). Some n) (number_again c d is_x is_y parts.0), parts.1)

-- what is fixed, by its parts
abbrev fixed_of : List ℕ → ℕ → ℕ → Option ℕ → ℕ → Fixed
fixed_of nodes n k delta mover = record { nodes = nodes; n = n; k = k; delta = delta; mover = mover }

same_fixed : (a b : Fixed) → a.nodes ≡ b.nodes → a.n ≡ b.n → a.k ≡ b.k → a.delta ≡ b.delta → a.mover ≡ b.mover → a ≡ b
same_fixed a b nodes n k delta mover =
    ap (λ (x : List ℕ). fixed_of x a.n a.k a.delta a.mover) nodes
    ∙ ap (λ (x : ℕ). fixed_of b.nodes x a.k a.delta a.mover) n
    ∙ ap (λ (x : ℕ). fixed_of b.nodes b.n x a.delta a.mover) k
    ∙ ap (λ (x : Option ℕ). fixed_of b.nodes b.n b.k x a.mover) delta
    ∙ ap (λ (x : ℕ). fixed_of b.nodes b.n b.k b.delta x) mover

pub hashed_again : HashedBytesDiffer
hashed_again a b is_a is_b e =
    let k : a.k ≡ b.k = cc in
    let n : a.n ≡ b.n = cc in
    let mover : a.mover ≡ b.mover = cc in
    let tail : delta_bytes a.delta ++ a.nodes ≡ delta_bytes b.delta ++ b.nodes = cc in
    let parts = delta_again a.delta b.delta a.nodes b.nodes is_a is_b tail in
    same_fixed a b parts.1 n k parts.0 mover

pub placed_again : PlacedLayoutsAreLawful
placed_again file name lawful = placed-IsLawful (placement_of file.fixed) name lawful.placed
