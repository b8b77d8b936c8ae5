-- How many finalized tags there are above a tag, among entries in order.
use Rattle.std.proofs.Common.{◌≡◌, ℕ, suc, ◌+◌, ◌<◌, ◌≤◌, Bool, true, false, cond, ◌&&◌, [], ◌∷◌, length, get_or, Some}
use Rattle.std.proofs.Common.{is_some, sym, ap, ◌∙◌, refl, arith}
use Rattle.std.specs.FinMap as map
use Rattle.std.specs.FinMap.Entries.{below_all}
use Rattle.std.specs.Ordering.{eq_by_cmp, is_lt}
use Rattle.std.proofs.lemmas.Bool.{and_parts}
use Rattle.std.proofs.lemmas.Bool.Decides.{nat_tests}
use Rattle.tag.specs.declared.tag.Tag.{Tag}
use Rattle.tag.specs.Tag.{tag_cmp, tag_lt}
use Rattle.tag.proofs.TagOrderLemmas.{same_tag, eq_by_cmp-tag, tag_eq-true}
use Rattle.bank.specs.declared.row.Row.{Row}
use Rattle.bank.specs.Knowledge.{is_finalized, row_finalized, count_above}
use Rattle.bank.specs.Window.{found_in}
use Rattle.bank.proofs.EntryCountLemmas.{one_if}
use Rattle.bank.proofs.EntryOrderLemmas.{Rows, Rise, find_sorted, lookup-find, is_sorted-rise, below_not, is_lt-tag}

-- Tags

pub lt-same : (t : Tag) → tag_lt t t ≡ false
lt-same t = grind (arith, nat_tests)

pub lt-not : (s t : Tag) → tag_lt s t ≡ true → tag_lt t s ≡ false
lt-not s t less = grind (arith, nat_tests)

le-lt : (s t u : Tag) → tag_lt t s ≡ false → tag_lt t u ≡ true → tag_lt s u ≡ true
le-lt s t u least less = grind (arith, nat_tests)

-- Entries in order

-- whether a tag is found among entries, and final
abbrev pub is_final_in : Rows → Tag → Bool
is_final_in es t = is_some (row_finalized (found_in es t))

pub found_at : (es : Rows) → Rise es → (k : ℕ) → k < length es → (d : Tag × Row) → found_in es (get_or es k d).0 ≡ Some (get_or es k d).1
found_at es rise k within d = lookup-find (get_or es k d).0 es ∙ find_sorted es k d (is_sorted-rise es rise) within

-- how many finalized tags there are above a tag
abbrev pub above : Tag → Rows → ℕ
above t es = count_above is_finalized t es

weaker : (a b f : Bool) → (a ≡ true → b ≡ true) → one_if (a && f) ≤ one_if (b && f)
weaker a b f more = grind arith

-- above a lesser tag there are no fewer
pub above_less : (x y : Tag) → tag_lt y x ≡ false → (es : Rows) → above y es ≤ above x es
above_less x y least [] = omega arith
above_less x y least (e ∷ es) =
    let rest = above_less x y least es in
    let here = weaker (tag_lt y e.0) (tag_lt x e.0) (is_finalized e.1.label) (le-lt x y e.0 least) in
    omega (arith, rest, here)

-- and one more where the greater one is finalized
pub above_final : (x y : Tag) → tag_lt x y ≡ true → (es : Rows) → is_final_in es y ≡ true → above y es + 1 ≤ above x es
above_final x y less [] final = absurd (cc)
above_final x y less (e ∷ es) final =
    elim (eq_by_cmp tag_cmp y e.0) as (λ c. eq_by_cmp tag_cmp y e.0 ≡ c
    → is_some (row_finalized (cond c (Some e.1) (found_in es y))) ≡ true → above y (e ∷ es) + 1 ≤ above x (e ∷ es)) [
      | true ↦ λ same is.
          let at : y ≡ e.0 = tag_eq-true y e.0 (sym (eq_by_cmp-tag y e.0) ∙ same) in
          let none : one_if (tag_lt y e.0 && is_finalized e.1.label) ≡ 0 =
          ap (λ t. one_if (tag_lt y t && is_finalized e.1.label)) (sym at) ∙ ap (λ c. one_if (c && is_finalized e.1.label)) (lt-same y) in
          let one : one_if (tag_lt x e.0 && is_finalized e.1.label) ≡ 1 =
          ap (λ c. one_if (c && is_finalized e.1.label)) (ap (tag_lt x) (sym at) ∙ less) ∙ ap (λ c. one_if c) is in
          let rest = above_less x y (lt-not x y less) es in
          omega (arith, none, one, rest)
      | false ↦ λ _ is.
          let rest = above_final x y less es is in
          let here = weaker (tag_lt y e.0) (tag_lt x e.0) (is_finalized e.1.label) (λ more. (below_not x y e.0 less more).1) in
          omega (arith, rest, here)
    ] refl final

-- above a tag that is below all entries there are no fewer than above any other
pub above_all : (x y : Tag) (es : Rows) → below_all tag_cmp x es ≡ true → above y es ≤ above x es
above_all x y [] below = omega arith
above_all x y (e ∷ es) below =
    let parts = and_parts (is_lt (tag_cmp x e.0)) (below_all tag_cmp x es) below in
    let rest = above_all x y es parts.1 in
    let here = weaker (tag_lt y e.0) (tag_lt x e.0) (is_finalized e.1.label) (λ _. sym (is_lt-tag x e.0) ∙ parts.0) in
    omega (arith, rest, here)

-- above any tag there is at most one more than above the least finalized one
above_least : (x least : Tag) (es : Rows) → map.is_sorted tag_cmp es ≡ true
    → ((k : ℕ) → k < length es → (d : Tag × Row) → is_finalized (get_or es k d).1.label ≡ true → tag_lt (get_or es k d).0 least ≡ false)
    → above x es ≤ above least es + 1
above_least x least [] sorted each = omega arith
above_least x least (e ∷ es) sorted each =
    cases (above_least x least es (and_parts (below_all tag_cmp e.0 es) (map.is_sorted tag_cmp es) sorted).1
    (λ k within d. each (suc k) (omega arith) d)) (tag_lt least e.0) refl (is_finalized e.1.label) refl
  where
    parts : (below_all tag_cmp e.0 es ≡ true) × (map.is_sorted tag_cmp es ≡ true)
    parts = and_parts (below_all tag_cmp e.0 es) (map.is_sorted tag_cmp es) sorted

    cases : above x es ≤ above least es + 1 → (c : Bool) → tag_lt least e.0 ≡ c → (f : Bool) → is_finalized e.1.label ≡ f
        → above x (e ∷ es) ≤ above least (e ∷ es) + 1
    cases more true less f final =
        let here = weaker (tag_lt x e.0) (tag_lt least e.0) (is_finalized e.1.label) (λ _. less) in
        omega (arith, more, here)
    cases more false least_is false final =
        let one : one_if (tag_lt x e.0 && is_finalized e.1.label) ≡ 0 =
        ap (λ f. one_if (tag_lt x e.0 && f)) final ∙ nought (tag_lt x e.0) in
        omega (arith, more, one)
      where
        nought : (c : Bool) → one_if (c && false) ≡ 0
        nought true = refl
        nought false = refl
    cases more false least_is true final =
        let same : e.0 ≡ least = same_tag e.0 least (each 0 (omega arith) e final) least_is in
        let others = above_all e.0 x es parts.0 in
        let alike = ap (λ t. above t es) same in
        let one = at_most_one (tag_lt x e.0 && is_finalized e.1.label) in
        omega (arith, others, alike, one)
      where
        at_most_one : (c : Bool) → one_if c ≤ 1
        at_most_one true = omega arith
        at_most_one false = omega arith

-- the same, where no final tag is below the least one
pub above_least_final : (x least : Tag) (es : Rows) → Rise es → ((t : Tag) → is_final_in es t ≡ true → tag_lt t least ≡ false)
    → above x es ≤ above least es + 1
above_least_final x least es rise none = grind (arith, above_least, found_at, is_sorted-rise)
