-- Calls with greater tags, and numbers that are apart.
use Rattle.std.proofs.Common.{◌≡◌, ℕ, false, List, [], ◌∷◌}
use Rattle.std.proofs.Common.{Some, refl, arith, slice_get}
use Rattle.std.proofs.lemmas.Bool.Decides.{nat_tests}
use Rattle.std.specs.List.{AllByRecursion}
use Rattle.tag.specs.declared.tag.Tag.{Tag}
use Rattle.tag.specs.Tag.{IsBelow}
use Rattle.layout.specs.Quorum.{has}
use Rattle.record.specs.Records.{Call, Object}
use Rattle.record.specs.Journals.{tag_of}

-- a number that none of these equals is not among them
pub apart_from : (xs : List ℕ) (x : ℕ) → AllByRecursion (λ y. y ≡ x → ⊥) xs → has xs x ≡ false
apart_from [] x apart = refl
apart_from (y ∷ ys) x apart = grind (arith, nat_tests, apart.0, apart_from ys x apart.1)

-- the call at this place has a tag above another
pub record HasAbove (object : Object) (tag : Tag) (index : ℕ) : Type 0 where
  pub call : Call
  pub at : slice_get object.calls index ≡ Some call
  pub greater : Tag
  pub tagged : tag_of object index call ≡ Some greater
  pub above : IsBelow tag greater

pub one_tag : (object : Object) (tag : Tag) (i j : ℕ) (call : Call) → slice_get object.calls j ≡ Some call →
    tag_of object j call ≡ Some tag → HasAbove object tag i → i ≡ j → ⊥
one_tag object tag i j call at tagged above same = grind arith
