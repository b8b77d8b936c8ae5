-- The test of a layout says whether it is lawful.
use Rattle.std.proofs.Common.{◌≡◌, ℕ, Bool, true, false, cond, not, leb, nat_eq, ◌&&◌, List, [], ◌∷◌, length, Result, Ok, Err}
use Rattle.std.proofs.Common.{arith, refl, ap, sym, subst, ◌∙◌}
use Rattle.std.specs.Prelude.{IfOk}
use Rattle.std.specs.List.{list_any, IsDistinct, AllByRecursion}
use Rattle.std.proofs.lemmas.Bool.{leb-true, le-leb, and_parts, and_from}
use Rattle.std.proofs.lemmas.Bool.Decides.{nat_tests}
use Rattle.tag.specs.declared.limits.TheConstants.{MOST_MEMBERS}
use Rattle.layout.specs.Layout.{Layout, IsLawful}
use Rattle.words.proofs.PartLemmas.{guarded, ok_is}
use Rattle.node_strings.specs.Layouts.{are_named_once, is_lawful, checked_layout, layout_string, layout_of_string}

apart_ok : (x : ℕ) (xs : List ℕ) → list_any (nat_eq x) xs ≡ false → AllByRecursion (λ y. nat_eq x y ≡ false) xs
apart_ok x [] none = tt
apart_ok x (y ∷ ys) none = (grind (arith, nat_tests), apart_ok x ys (grind (arith, nat_tests)))

apart_again : (x : ℕ) (xs : List ℕ) → AllByRecursion (λ y. nat_eq x y ≡ false) xs → list_any (nat_eq x) xs ≡ false
apart_again x [] apart = refl
apart_again x (y ∷ ys) apart = grind (arith, nat_tests, apart.0, apart_again x ys apart.1)

not_false : (b : Bool) → not b ≡ true → b ≡ false
not_false true e = absurd cc
not_false false e = refl

distinct_ok : (xs : List ℕ) → are_named_once xs ≡ true → IsDistinct nat_eq xs
unfolding IsDistinct
distinct_ok [] e = tt
distinct_ok (x ∷ xs) e =
    let p = and_parts (not (list_any (nat_eq x) xs)) (are_named_once xs) e in
    (apart_ok x xs (not_false (list_any (nat_eq x) xs) p.0), distinct_ok xs p.1)

distinct_again : (xs : List ℕ) → IsDistinct nat_eq xs → are_named_once xs ≡ true
unfolding IsDistinct
distinct_again [] d = refl
distinct_again (x ∷ xs) d = rw (apart_again x xs d.0, distinct_again xs d.1) refl

pub lawful_ok : (layout : Layout) → is_lawful layout ≡ true → IsLawful layout
lawful_ok layout e =
    let k = layout.k in
    let n = length layout.members in
    let a = and_parts (leb 1 k) (leb k n && (leb n MOST_MEMBERS && are_named_once layout.members)) e in
    let b = and_parts (leb k n) (leb n MOST_MEMBERS && are_named_once layout.members) a.1 in
    let c = and_parts (leb n MOST_MEMBERS) (are_named_once layout.members) b.1 in
    record {
      some = leb-true 1 k a.0;
      enough = leb-true k n b.0;
      few = leb-true n MOST_MEMBERS c.0;
      distinct = distinct_ok layout.members c.1;
    }

pub lawful_again : (layout : Layout) → IsLawful layout → is_lawful layout ≡ true
lawful_again layout lawful =
    let k = layout.k in
    let n = length layout.members in
    and_from (leb 1 k) _ (le-leb 1 k lawful.some)
    (and_from (leb k n) _ (le-leb k n lawful.enough)
    (and_from (leb n MOST_MEMBERS) _ (le-leb n MOST_MEMBERS lawful.few) (distinct_again layout.members lawful.distinct)))

-- ---- what a check of a layout gives

pub layout_made : {E : Type 0} (fault : E) (layout made : Layout) → made ≡ layout → IsLawful layout
    → Ok made ≡ checked_layout fault layout
layout_made fault layout made e lawful = rw (lawful_again layout lawful) (ap (λ (l : Layout). Ok l) e)

refuses : {E : Type 0} (fault : E) (layout : Layout) (b : Bool) → (b ≡ true → ⊥) → Err fault ≡ cond b (Ok layout) (Err fault)
refuses fault layout true no_layout = absurd (no_layout refl)
refuses fault layout false no_layout = refl

pub layout_refused : {E : Type 0} (fault : E) (layout : Layout) → (IsLawful layout → ⊥) → Err fault ≡ checked_layout fault layout
layout_refused fault layout unlawful = refuses fault layout (is_lawful layout) (λ e. unlawful (lawful_ok layout e))

pub checked_ok : {E : Type 0} (fault : E) (layout checked : Layout) → checked_layout fault layout ≡ Ok checked
    → (layout ≡ checked) × IsLawful layout
checked_ok fault layout checked e =
    let g = guarded (is_lawful layout) (Ok layout) fault checked e in
    (ok_is layout checked g.1, lawful_ok layout g.0)

pub checked_again : {E : Type 0} (fault : E) (layout : Layout) → IsLawful layout → checked_layout fault layout ≡ Ok layout
checked_again fault layout lawful = rw (lawful_again layout lawful) refl

-- ---- the string of a layout

pub layout_ok : {E : Type 0} (fault : E) (string : List ℕ) (layout : Layout) → layout_of_string fault string ≡ Ok layout
    → IsLawful layout × (string ≡ layout_string layout)
unfolding layout_of_string
layout_ok fault [] layout e = absurd cc
layout_ok fault (k ∷ members) layout e =
    let it : Layout = record { k = k; members = members } in
    let g = checked_ok fault it layout e in
    subst (λ (l : Layout). IsLawful l × (k ∷ members ≡ layout_string l)) g.0 (g.1, refl)

pub layout_again : {E : Type 0} (fault : E) (layout : Layout) → IsLawful layout
    → layout_of_string fault (layout_string layout) ≡ Ok layout
unfolding layout_of_string
layout_again fault layout lawful = checked_again fault layout lawful

pub layout_found : {E : Type 0} (fault : E) (string : List ℕ) (result : Result Layout E) → result ≡ layout_of_string fault string
    → IfOk result (λ layout. IsLawful layout × (string ≡ layout_string layout))
layout_found fault string (Ok layout) e = layout_ok fault string layout (sym e)
layout_found fault string (Err other) e = tt

pub layout_only : {E : Type 0} (fault : E) (string : List ℕ) (result : Result Layout E) → result ≡ layout_of_string fault string
    → (layout : Layout) → IsLawful layout → string ≡ layout_string layout → result ≡ Ok layout
layout_only fault string result e layout lawful is = e ∙ ap (layout_of_string fault) is ∙ layout_again fault layout lawful
