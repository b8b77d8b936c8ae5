-- The last position that a node has heard of.
use Rattle.std.proofs.Common.{◌≡◌, ℕ, ◌≤◌, ◌⊎◌, inl, inr, Bool, true, false, cond, eqb, nat_lt, List, [], ◌∷◌}
use Rattle.std.proofs.Common.{Option, Some, None, IsSome, is_some, refl, sym, ap, ◌∙◌, eqb-true, eq-eqb, arith}
use Rattle.layout.specs.Layout.{Layout}
use Rattle.local_object.specs.Local.{LocalObject, Place, greatest_position}
use Rattle.local_object.specs.Local.{last_position, layout_here, layout_in, heard_place}

abbrev later_place : Place → ℕ → ℕ
later_place place g = cond (nat_lt g place.position) place.position g

later_above : (place : Place) (g : ℕ) → (g ≤ later_place place g) × (place.position ≤ later_place place g)
later_above place g = go (nat_lt g place.position) refl
  where
    go : (b : Bool) → nat_lt g place.position ≡ b →
        (g ≤ cond b place.position g) × (place.position ≤ cond b place.position g)
    go true t = (grind arith, omega arith)
    go false t = (omega arith, grind arith)

above_first : (places : List Place) (g : ℕ) → g ≤ greatest_position places g
above_first [] g = omega arith
above_first (place ∷ places) g =
    let rest = above_first places (later_place place g) in
    let here = later_above place g in omega (arith, rest, here.0)

above_each : (places : List Place) (g q : ℕ) → IsSome (heard_place places q) → q ≤ greatest_position places g
above_each [] g q some = absurd (cc)
above_each (place ∷ places) g q some =
    go (eqb place.position q) refl some (λ there. above_each places (later_place place g) q there)
  where
    go : (b : Bool) → eqb place.position q ≡ b → IsSome (cond b (Some place) (heard_place places q)) →
        (IsSome (heard_place places q) → q ≤ greatest_position places (later_place place g)) →
        q ≤ greatest_position places (later_place place g)
    go true t is there =
        let same = eqb-true place.position q t in
        let here = later_above place g in
        let rest = above_first places (later_place place g) in omega (arith, same, here.1, rest)
    go false t is there = there is

greatest_known : (places : List Place) (g : ℕ) →
    (greatest_position places g ≡ g) ⊎ IsSome (heard_place places (greatest_position places g))
greatest_known [] g = inl refl
greatest_known (place ∷ places) g = go (greatest_known places (later_place place g))
  where
    greatest : ℕ
    greatest = greatest_position places (later_place place g)

    or_first : (b : Bool) → IsSome (heard_place places greatest) → IsSome (cond b (Some place) (heard_place places greatest))
    or_first true some = refl
    or_first false some = some

    pick : (b : Bool) → greatest ≡ cond b place.position g →
        (greatest ≡ g) ⊎ IsSome (cond (eqb place.position greatest) (Some place) (heard_place places greatest))
    pick true e = inr (ap (λ u. is_some (cond u (Some place) (heard_place places greatest))) (eq-eqb place.position greatest (sym e)))
    pick false e = inl e

    go : (greatest ≡ later_place place g) ⊎ IsSome (heard_place places greatest) →
        (greatest ≡ g) ⊎ IsSome (cond (eqb place.position greatest) (Some place) (heard_place places greatest))
    go (inl same) = pick (nat_lt g place.position) same
    go (inr some) = inr (or_first (eqb place.position greatest) some)

known_place : (o : Option Place) (layout : Layout) → layout_in o ≡ Some layout → IsSome o
known_place None layout e = absurd (cc)
known_place (Some place) layout e = refl

known_layout : (o : Option Place) → IsSome o → (layout : Layout) × (layout_in o ≡ Some layout)
known_layout None some = absurd (cc)
known_layout (Some place) some = (place.layout, refl)

pub some_layout : (o : Option Layout) → IsSome o → (layout : Layout) × (o ≡ Some layout)
some_layout None some = absurd (cc)
some_layout (Some layout) some = (layout, refl)

-- no position that is known is above the last
pub below_last : (local : LocalObject) (p : ℕ) (layout : Layout) → layout_here local p ≡ Some layout → p ≤ last_position local
below_last local p layout e = above_each local.places 0 p (known_place (heard_place local.places p) layout e)

-- the last position is known, where position 0 is
pub last_known : (local : LocalObject) → IsSome (layout_here local 0) →
    (layout : Layout) × (layout_here local (last_position local) ≡ Some layout)
last_known local first = go (greatest_known local.places 0)
  where
    go : (last_position local ≡ 0) ⊎ IsSome (heard_place local.places (last_position local)) →
        (layout : Layout) × (layout_here local (last_position local) ≡ Some layout)
    go (inl zero_is) =
        let known = some_layout (layout_here local 0) first in (known.0, ap (layout_here local) zero_is ∙ known.1)
    go (inr some) = known_layout (heard_place local.places (last_position local)) some
