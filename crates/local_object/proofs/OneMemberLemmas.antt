-- A server is one member of a lawful layout at most.
use Rattle.std.proofs.Common.{◌≡◌, ℕ, zero, suc, true, false, eqb, nat_eq, List, [], ◌∷◌, Some, slice_get, refl, sym, ap, ◌∙◌, eq-eqb}
use Rattle.std.proofs.lemmas.Option.{same_Some}
use Rattle.std.specs.List.{IsDistinct}
use Rattle.layout.specs.Layout.{Layout, IsLawful}
use Rattle.open_calls.proofs.ListLemmas.{all_at}

one_place : (servers : List ℕ) (i j server : ℕ) → IsDistinct nat_eq servers → slice_get servers i ≡ Some server →
    slice_get servers j ≡ Some server → i ≡ j
unfolding IsDistinct
one_place [] i j server distinct at there = absurd (cc)
one_place (first ∷ servers) zero zero server distinct at there = refl
one_place (first ∷ servers) zero (suc j) server distinct at there =
    absurd (let apart = all_at (λ y. eqb first y ≡ false) servers j server distinct.0 there in
    let wrong : false ≡ true = sym apart ∙ eq-eqb first server (same_Some first server at) in cc)
one_place (first ∷ servers) (suc i) zero server distinct at there =
    absurd (let apart = all_at (λ y. eqb first y ≡ false) servers i server distinct.0 at in
    let wrong : false ≡ true = sym apart ∙ eq-eqb first server (same_Some first server there) in cc)
one_place (first ∷ servers) (suc i) (suc j) server distinct at there =
    ap suc (one_place servers i j server distinct.1 at there)

pub one_member : (layout : Layout) (i j server : ℕ) → IsLawful layout → slice_get layout.members i ≡ Some server →
    slice_get layout.members j ≡ Some server → i ≡ j
one_member layout i j server lawful at there = one_place layout.members i j server lawful.distinct at there
