-- The order of tags, as the proofs use it: at most.
use Rattle.std.proofs.Common.{◌≡◌, ℕ, ◌<◌, ◌≤◌, ◌⊎◌, true, false, arith}
use Rattle.std.proofs.lemmas.Bool.{cond_both}
use Rattle.std.proofs.lemmas.Bool.Decides.{nat_tests}
use Rattle.tag.specs.declared.tag.Tag.{Tag}
use Rattle.tag.specs.Tag.{opening_tag, next_tag, IsBelow, tag_lt, later_tag}

-- a comes before b, or is b
abbrev pub IsAtMost : Tag → Tag → Type 0
IsAtMost a b = (a.number < b.number) ⊎ ((a.number ≡ b.number) × (a.call ≤ b.call))

pub at_most_refl : (a : Tag) → IsAtMost a a
at_most_refl a = grind arith

pub at_most_trans : (a b c : Tag) → IsAtMost a b → IsAtMost b c → IsAtMost a c
at_most_trans a b c p q = grind arith

pub below-next_tag : (a b : Tag) (call : ℕ) → IsAtMost a b → IsBelow a (next_tag b call)
below-next_tag a b call p = grind arith

pub at_most_of_below : (a b : Tag) → IsBelow a b → IsAtMost a b
at_most_of_below a b p = grind arith

pub opening_at_most : (a : Tag) → IsAtMost opening_tag a
opening_at_most a = grind arith

pub not_below_at_most : (a b : Tag) → IsBelow a b → IsAtMost b a → ⊥
not_below_at_most a b p q = grind arith

-- what the tests say

pub tag_lt-true : (a b : Tag) → tag_lt a b ≡ true → IsBelow a b
tag_lt-true a b e = grind (arith, nat_tests)

pub tag_lt-false : (a b : Tag) → tag_lt a b ≡ false → IsAtMost b a
tag_lt-false a b e = grind (arith, nat_tests)

pub later_tag-left : (a b : Tag) → IsAtMost a (later_tag a b)
later_tag-left a b = cond_both (tag_lt a b) b a (λ t. IsAtMost a t) (λ e. at_most_of_below a b (tag_lt-true a b e)) (λ e. at_most_refl a)

pub later_tag-right : (a b : Tag) → IsAtMost b (later_tag a b)
later_tag-right a b = cond_both (tag_lt a b) b a (λ t. IsAtMost b t) (λ e. at_most_refl b) (λ e. tag_lt-false a b e)
