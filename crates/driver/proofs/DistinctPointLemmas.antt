-- The pieces that replies bring have points of their own.
use Rattle.std.proofs.Common.{◌≡◌, ℕ, zero, suc, ◌<◌, nat_eq, Bool, true, false, List, [], ◌∷◌, ◌++◌}
use Rattle.std.proofs.Common.{take, Option, Some, None, ap, refl}
use Rattle.std.proofs.Common.{arith}
use Rattle.std.specs.List.{AllByRecursion, IsDistinct}
use Rattle.std.proofs.lemmas.Bool.{eqb-true}
use Rattle.piece.specs.declared.piece.Piece.{Piece}
use Rattle.decoder.specs.Pieces.{points_of}
use Rattle.mail.specs.declared.phase.Taken.{Taken}
use Rattle.register.specs.Coding.{piece_by, piece_list, pieces_below}
use Rattle.driver.proofs.ReplyPieceLemmas.{Brought, IsPieceOfValueBelow, by_member, all_both, all_take, all_below}

-- no two pieces of the list have the same point
abbrev AreApart : List Piece → Type 0
AreApart [] = Unit {0}
AreApart (p ∷ ps) = AllByRecursion (λ q. nat_eq p.point q.point ≡ false) ps × AreApart ps

apart_all : (P : Piece → Type 0) (xs : List Piece) (x y : Piece) → AllByRecursion P xs → P y → AllByRecursion P (xs ++ y ∷ [])
apart_all P [] x y all here = (here, tt)
apart_all P (z ∷ xs) x y all here = (all.0, apart_all P xs x y all.1 here)

no_same : (a b : ℕ) → a < b → nat_eq a b ≡ false
no_same a b less = go (nat_eq a b) refl
  where
    go : (t : Bool) → nat_eq a b ≡ t → nat_eq a b ≡ false
    go true e = absurd (let same = eqb-true a b e in omega (arith, less, same))
    go false e = e

apart_push : (value : List ℕ) (k n : ℕ) (xs : List Piece) (y : Piece) → AllByRecursion (IsPieceOfValueBelow value k n) xs → y.point ≡ n
    → AreApart xs
    → AreApart (xs ++ y ∷ [])
apart_push value k n [] y below is apart = (tt, tt)
apart_push value k n (x ∷ xs) y below is apart = (
  apart_all (λ q. nat_eq x.point q.point ≡ false) xs x y apart.0
      (no_same x.point y.point (let less = below.0.1 in omega (arith, less, is))),
  apart_push value k n xs y below.1 is apart.1,
)

none_more : (xs : List Piece) → AreApart xs → AreApart (xs ++ [])
none_more [] apart = tt
none_more (x ∷ xs) apart = (all_both (λ q. nat_eq x.point q.point ≡ false) xs [] apart.0 tt, none_more xs apart.1)

pub apart_below : (value : List ℕ) (k : ℕ) (replies : List Taken) (n : ℕ) → AllByRecursion (Brought value k) replies
    → AreApart (pieces_below replies n)
apart_below value k replies zero all = tt
apart_below value k replies (suc n) all = go (apart_below value k replies n all) (piece_by replies n) refl
  where
    go : AreApart (pieces_below replies n) → (o : Option Piece) → piece_by replies n ≡ o → AreApart (pieces_below replies n ++ piece_list o)
    go apart None e = none_more (pieces_below replies n) apart
    go apart (Some piece) e =
        apart_push value k n (pieces_below replies n) piece (all_below value k replies n all)
        (ap (λ (p : Piece). p.point) (by_member value k replies n piece all e))
        apart

pub apart_take : (k : ℕ) (xs : List Piece) → AreApart xs → AreApart (take k xs)
apart_take (suc k) (x ∷ xs) apart = (all_take (λ q. nat_eq x.point q.point ≡ false) k xs apart.0, apart_take k xs apart.1)
apart_take _ _ apart = tt

all_points : (P : ℕ → Type 0) (xs : List Piece) → AllByRecursion (λ q. P q.point) xs → AllByRecursion P (points_of xs)
all_points P [] all = tt
all_points P (x ∷ xs) all = (all.0, all_points P xs all.1)

pub points_apart : (xs : List Piece) → AreApart xs → IsDistinct nat_eq (points_of xs)
unfolding IsDistinct
points_apart [] apart = tt
points_apart (x ∷ xs) apart = (all_points (λ m. nat_eq x.point m ≡ false) xs apart.0, points_apart xs apart.1)
