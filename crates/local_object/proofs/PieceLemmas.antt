-- The pieces that replies carry, one reply after another.
use Rattle.std.proofs.Common.{◌≡◌, ℕ, zero, suc, ◌<◌, ◌≤◌, List, [], ◌∷◌, ◌++◌, length, take, get_or, refl, sym}
use Rattle.std.proofs.Common.{ap, ◌∙◌}
use Rattle.std.proofs.Common.{append_assoc, arith}
use Rattle.std.specs.Option.{option_to_list}
use Rattle.mail.specs.declared.phase.Taken.{Taken}
use Rattle.local_object.specs.Pieces.{own_piece, own_pieces}

pub nil_right : {X : Type 0} (xs : List X) → xs ++ [] ≡ xs
nil_right [] = refl
nil_right (x ∷ xs) = ap (λ ys. x ∷ ys) (nil_right xs)

-- one more reply
pub own_more : (replies : List Taken) (i : ℕ) (taken : Taken) → i < length replies → taken ≡ get_or replies i taken
    → own_pieces (take (suc i) replies) ≡ own_pieces (take i replies) ++ option_to_list (own_piece taken)
own_more [] i taken within is = absurd (omega (arith, within))
own_more (r ∷ rs) zero taken within is =
    nil_right (option_to_list (own_piece r)) ∙ ap (λ (t : Taken). option_to_list (own_piece t)) (sym is)
own_more (r ∷ rs) (suc i) taken within is =
    ap (λ ps. option_to_list (own_piece r) ++ ps) (own_more rs i taken (omega (arith, within)) is)
    ∙ sym (append_assoc (option_to_list (own_piece r)) (own_pieces (take i rs)) (option_to_list (own_piece taken)))

take_none : {X : Type 0} (k : ℕ) → take {A = X} k [] ≡ []
take_none zero = refl
take_none (suc k) = refl

pub take_push : {X : Type 0} (k : ℕ) (xs : List X) (x : X) → length (take k xs) < k → take k (xs ++ x ∷ []) ≡ take k xs ++ x ∷ []
take_push zero xs x less = absurd (omega (arith, less))
take_push (suc k) [] x less = ap (λ ys. x ∷ ys) (take_none k)
take_push (suc k) (y ∷ ys) x less = ap (λ zs. y ∷ zs) (take_push k ys x (omega (arith, less)))

pub take_full : {X : Type 0} (k : ℕ) (xs ys : List X) → k ≤ length (take k xs) → take k (xs ++ ys) ≡ take k xs
take_full zero xs ys full = refl
take_full (suc k) [] ys full = absurd (omega (arith, full))
take_full (suc k) (x ∷ xs) ys full = ap (λ zs. x ∷ zs) (take_full k xs ys (omega (arith, full)))
