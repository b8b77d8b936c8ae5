-- The tables of shifted states, by computing each entry.
use Rattle.std.proofs.Common.{◌≡◌, ℕ, zero, suc, ◌<◌, ◌^◌, List, [], ◌∷◌, true, get_or, length, eqb, eqb-true}
use Rattle.std.proofs.Common.{refl, ap, ◌∙◌, arith}
use Rattle.gf256.proofs.AdditiveFunctionLemmas.{all_below, all_below-at}
use Rattle.node_log.specs.Crc32c.{shifted, shifted_by}
use Rattle.node_log.specs.Folding.{by_bytes}
use Rattle.node_log.specs.declared.tables.TheConstants.{BY_ONE, BY_TWO, BY_THREE, BY_FOUR, BY_FIVE, BY_SIX, BY_SEVEN, BY_EIGHT}
use Rattle.node_log.proofs.StateLemmas.{term}

-- the table has each byte, shifted by itself and n bytes more
abbrev IsTableOf : List ℕ → ℕ → Type 0
IsTableOf table n = all_below 256 (λ i. eqb (get_or table i 0) (term n i)) ≡ true

pub entry_of : (table : List ℕ) (n : ℕ) → IsTableOf table n → (i : ℕ) → i < 256 → get_or table i 0 ≡ term n i
entry_of table n all i h = eqb-true _ _ (all_below-at 256 (λ i. eqb (get_or table i 0) (term n i)) all i h)

-- the entry at a byte that is known by another name
pub looked_up : (table : List ℕ) (n : ℕ) → IsTableOf table n → (found x y : ℕ) → found ≡ get_or table x 0 → x ≡ y → y < 2 ^ 8
    → found ≡ term n y
looked_up table n all found x y is same fits = is ∙ ap (λ (t : ℕ). get_or table t 0) same ∙ entry_of table n all y fits

-- the first four bytes are bytes
pub first_four : (bytes : List ℕ) → ((i : ℕ) → get_or bytes i 0 < 256) → (i : ℕ)
    → get_or (get_or bytes 0 0 ∷ get_or bytes 1 0 ∷ get_or bytes 2 0 ∷ get_or bytes 3 0 ∷ []) i 0 < 256
first_four bytes fit zero = fit 0
first_four bytes fit (suc zero) = fit 1
first_four bytes fit (suc (suc zero)) = fit 2
first_four bytes fit (suc (suc (suc zero))) = fit 3
first_four bytes fit (suc (suc (suc (suc i)))) = omega arith

-- eight bytes, written out
pub written_out : (bytes : List ℕ) → length bytes ≡ 8 → bytes ≡ get_or bytes 0 0 ∷ get_or bytes 1 0 ∷ get_or bytes 2 0
    ∷ get_or bytes 3 0 ∷ get_or bytes 4 0 ∷ get_or bytes 5 0 ∷ get_or bytes 6 0 ∷ get_or bytes 7 0 ∷ []
written_out (a ∷ b ∷ c ∷ d ∷ e ∷ f ∷ g ∷ h ∷ []) is = refl
written_out (a ∷ b ∷ c ∷ d ∷ e ∷ f ∷ g ∷ h ∷ i ∷ more) is = absurd (omega arith)
written_out [] is = absurd (omega arith)
written_out (a ∷ []) is = absurd (omega arith)
written_out (a ∷ b ∷ []) is = absurd (omega arith)
written_out (a ∷ b ∷ c ∷ []) is = absurd (omega arith)
written_out (a ∷ b ∷ c ∷ d ∷ []) is = absurd (omega arith)
written_out (a ∷ b ∷ c ∷ d ∷ e ∷ []) is = absurd (omega arith)
written_out (a ∷ b ∷ c ∷ d ∷ e ∷ f ∷ []) is = absurd (omega arith)
written_out (a ∷ b ∷ c ∷ d ∷ e ∷ f ∷ g ∷ []) is = absurd (omega arith)

pub one : IsTableOf BY_ONE 0
unfolding by_bytes shifted_by shifted
one = refl

pub two : IsTableOf BY_TWO 1
unfolding by_bytes shifted_by shifted
two = refl

pub three : IsTableOf BY_THREE 2
unfolding by_bytes shifted_by shifted
three = refl

pub four : IsTableOf BY_FOUR 3
unfolding by_bytes shifted_by shifted
four = refl

pub five : IsTableOf BY_FIVE 4
unfolding by_bytes shifted_by shifted
five = refl

pub six : IsTableOf BY_SIX 5
unfolding by_bytes shifted_by shifted
six = refl

pub seven : IsTableOf BY_SEVEN 6
unfolding by_bytes shifted_by shifted
seven = refl

pub eight : IsTableOf BY_EIGHT 7
unfolding by_bytes shifted_by shifted
eight = refl
