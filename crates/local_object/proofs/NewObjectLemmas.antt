-- Objects of which a node has not heard.
use Rattle.std.proofs.Common.{◌≡◌, ◌↔◌, ℕ, nat_eq, ◌&&◌, not, Bool, true, false, eqb, eqb-true, eq-eqb, List, [], ◌∷◌, length}
use Rattle.std.proofs.Common.{slice_get, Option, None, Some, is_some, refl, ap, ◌∙◌, arith}
use Rattle.std.specs.Option.{option_eq}
use Rattle.std.specs.Cmp.Lexicographic.{pointwise}
use Rattle.std.proofs.lemmas.Bool.Decides.{Decides-eqb}
use Rattle.std.proofs.lemmas.Slice.Eq.{slice_eq-Decides}
use Rattle.layout.specs.Layout.{Layout}
use Rattle.open_calls.specs.OpenCalls.{NodeCall}
use Rattle.local_object.specs.declared.kept_bank.KeptBank.{KeptBank}
use Rattle.local_object.specs.declared.report.Report.{Report}
use Rattle.local_object.specs.Agreement.{same_layout}
use Rattle.local_object.specs.Local.{LocalObject, Place, new_local}
use Rattle.local_object.specs.New.{are_new_places, is_new, is_new_if, is_new_place}
use Rattle.local_object.proofs.AgreementLemmas.{layouts_same}

pub both : (a b : Bool) → (a && b) ≡ true → (a ≡ true) × (b ≡ true)
both true b e = (refl, e)
both false b e = absurd (cc)

pub are_both : (a b : Bool) → a ≡ true → b ≡ true → (a && b) ≡ true
are_both true b e f = f
are_both false b e f = absurd (cc)

-- each part of a new object is as in a new one

limits_same : (a b : Option ℕ) → option_eq nat_eq a b ≡ true → a ≡ b
limits_same None None e = refl
limits_same None (Some y) e = absurd (cc)
limits_same (Some x) None e = absurd (cc)
limits_same (Some x) (Some y) e = ap Some (eqb-true x y e)

limit_is : (a : Option ℕ) → option_eq nat_eq a a ≡ true
limit_is None = refl
limit_is (Some x) = eq-eqb x x refl

layout_is : (layout : Layout) → same_layout layout layout ≡ true
layout_is layout =
    are_both (eqb layout.k layout.k) (pointwise nat_eq layout.members layout.members) (eq-eqb layout.k layout.k refl)
    ((slice_eq-Decides Decides-eqb layout.members layout.members (pointwise nat_eq layout.members layout.members) refl).1 refl)

no_bank : (bank : Option KeptBank) → not (is_some bank) ≡ true → bank ≡ None
no_bank None e = refl
no_bank (Some bank) e = absurd (cc)

no_reports : (reports : List Report) → eqb (length reports) 0 ≡ true → reports ≡ []
no_reports [] e = refl
no_reports (report ∷ reports) e =
    let none : length (report ∷ reports) ≡ 0 = eqb-true (length (report ∷ reports)) 0 e in absurd (omega (arith, none))

no_calls : (calls : List NodeCall) → eqb (length calls) 0 ≡ true → calls ≡ []
no_calls [] e = refl
no_calls (call ∷ calls) e =
    let none : length (call ∷ calls) ≡ 0 = eqb-true (length (call ∷ calls)) 0 e in absurd (omega (arith, none))

abbrev first_place : Layout → Place
first_place first = record { position = 0; layout = first; bank = None }

new_place : (first : Layout) (place : Place) → is_new_place first place ≡ true → place ≡ first_place first
new_place first place e =
    let outer = both (eqb place.position 0) (not (is_some place.bank) && same_layout place.layout first) e in
    let inner = both (not (is_some place.bank)) (same_layout place.layout first) outer.1 in
    ap (λ n. record place { position = n }) (eqb-true place.position 0 outer.0)
    ∙ ap (λ (l : Layout). let p : Place = record { position = 0; layout = l; bank = place.bank } in p)
    (layouts_same place.layout first inner.1)
    ∙ ap (λ b. let p : Place = record { position = 0; layout = first; bank = b } in p) (no_bank place.bank inner.0)

new_places : (first : Layout) (places : List Place) → are_new_places first places ≡ true → places ≡ first_place first ∷ []
new_places first places e = go places split.0 split.1
  where
    split : (length places ≡ 1) × (is_new_if first (slice_get places 0) ≡ true)
    split =
        let parts = both (eqb (length places) 1) (is_new_if first (slice_get places 0)) e in
        (eqb-true (length places) 1 parts.0, parts.1)

    go : (ps : List Place) → length ps ≡ 1 → is_new_if first (slice_get ps 0) ≡ true → ps ≡ first_place first ∷ []
    go [] one is = absurd (omega (arith, one))
    go (place ∷ []) one is = ap (λ p. p ∷ []) (new_place first place is)
    go (place ∷ other ∷ places) one is = absurd (omega (arith, one))

first_is_new : (first : Layout) → are_new_places first (first_place first ∷ []) ≡ true
first_is_new first = layout_is first

-- the test tells exactly the new object
pub new_decided : (local : LocalObject) (node : ℕ) (delta : Option ℕ) (first : Layout)
    → (is_new local node delta first ≡ true) ↔ (local ≡ new_local node delta first)
new_decided local node delta first = (to, from)
  where
    to : is_new local node delta first ≡ true → local ≡ new_local node delta first
    to e =
        let limited = option_eq nat_eq local.delta delta in
        let begins = eqb local.start 0 in
        let quiet = eqb (length local.calls) 0 in
        let placed = are_new_places first local.places in
        let untold = eqb (length local.reports) 0 in
        let one = both (eqb local.node node) (limited && (begins && (quiet && (untold && placed)))) e in
        let two = both limited (begins && (quiet && (untold && placed))) one.1 in
        let three = both begins (quiet && (untold && placed)) two.1 in
        let four = both quiet (untold && placed) three.1 in
        let five = both untold placed four.1 in
        ap (λ n. record local { node = n }) (eqb-true local.node node one.0)
        ∙ ap (λ d. record local { node = node; delta = d }) (limits_same local.delta delta two.0)
        ∙ ap (λ n. record local { node = node; delta = delta; start = n }) (eqb-true local.start 0 three.0)
        ∙ ap (λ (ps : List Place). record local { node = node; delta = delta; start = 0; places = ps })
        (new_places first local.places five.1)
        ∙ ap (λ (rs : List Report). record (new_local node delta first) { reports = rs; calls = local.calls })
        (no_reports local.reports five.0)
        ∙ ap (λ (cs : List NodeCall). record (new_local node delta first) { calls = cs }) (no_calls local.calls four.0)

    from : local ≡ new_local node delta first → is_new local node delta first ≡ true
    from same =
        ap (λ (l : LocalObject). is_new l node delta first) same
        ∙ are_both (eqb node node) (option_eq nat_eq delta delta && are_new_places first (first_place first ∷ [])) (eq-eqb node node refl)
        (are_both (option_eq nat_eq delta delta) (are_new_places first (first_place first ∷ [])) (limit_is delta) (first_is_new first))
