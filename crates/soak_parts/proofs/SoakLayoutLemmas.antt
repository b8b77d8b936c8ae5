-- The layouts of a soak are lawful.
use Rattle.std.proofs.Common.{[], ◌∷◌, arith, refl}
use Rattle.std.specs.List.{IsDistinct}
use Rattle.layout.specs.Layout.{IsLawful}

pub four_lawful : IsLawful (record { k = 2; members = 0 ∷ 1 ∷ 2 ∷ 3 ∷ [] })
unfolding IsDistinct
four_lawful = record {
  some = omega arith;
  enough = omega arith;
  few = omega arith;
  distinct = ((refl, (refl, (refl, tt))), ((refl, (refl, tt)), ((refl, tt), (tt, tt))));
}

pub five_lawful : IsLawful (record { k = 3; members = 0 ∷ 1 ∷ 2 ∷ 3 ∷ 4 ∷ [] })
unfolding IsDistinct
five_lawful = record {
  some = omega arith;
  enough = omega arith;
  few = omega arith;
  distinct = ((refl, (refl, (refl, (refl, tt)))), ((refl, (refl, (refl, tt))), ((refl, (refl, tt)), ((refl, tt), (tt, tt)))));
}

pub three_lawful : IsLawful (record { k = 1; members = 2 ∷ 3 ∷ 4 ∷ [] })
unfolding IsDistinct
three_lawful = record {
  some = omega arith;
  enough = omega arith;
  few = omega arith;
  distinct = ((refl, (refl, tt)), ((refl, tt), (tt, tt)));
}
