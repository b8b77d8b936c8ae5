-- The window of the greatest finalized tags, among entries in order.
use Rattle.std.proofs.Common.{◌≡◌, ℕ, suc, ◌+◌, ◌<◌, Bool, true, false, cond, ◌&&◌, [], ◌∷◌, length, get_or, Some, None}
use Rattle.std.proofs.Common.{is_some, sym, ap, ◌∙◌, refl, arith}
use Rattle.std.specs.Prelude.{nat_le}
use Rattle.std.specs.FinMap as map
use Rattle.std.specs.FinMap.Entries.{below_all}
use Rattle.std.proofs.lemmas.Bool.{and_parts, le-leb, lt-leb}
use Rattle.std.proofs.lemmas.Bool.Decides.{nat_tests}
use Rattle.std.proofs.lemmas.Option.{same_Some}
use Rattle.tag.specs.declared.tag.Tag.{Tag}
use Rattle.tag.specs.Tag.{tag_cmp, tag_lt}
use Rattle.bank.specs.declared.row.Label.TheVariants.{PreWritten}
use Rattle.bank.specs.declared.row.Row.{Row}
use Rattle.bank.specs.declared.window.Window.{Window}
use Rattle.bank.specs.Knowledge.{is_finalized, row_finalized}
use Rattle.bank.specs.Window.{final_after, excludes, IsWindow}
use Rattle.bank.proofs.EntryCountLemmas.{one_if}
use Rattle.bank.proofs.EntryOrderLemmas.{Rows, Rise, below_at}
use Rattle.bank.proofs.FinalizedAboveLemmas.{lt-same, lt-not, is_final_in, found_at, above, above_less, above_final, above_all}
use Rattle.bank.proofs.FinalizedAboveLemmas.{above_least_final}

-- The next finalized tag

-- the tag that `final_after` finds above x is greater than x, and has a place among the entries
pub after_above : (x n : Tag) (es : Rows) → final_after x es ≡ Some n → tag_lt x n ≡ true
after_above x n [] is = absurd (cc)
after_above x n (e ∷ es) is = pick (λ is. after_above x n es is) (tag_lt x e.0) (is_finalized e.1.label) refl is
  where
    pick : (final_after x es ≡ Some n → tag_lt x n ≡ true) → (c f : Bool) → tag_lt x e.0 ≡ c
        → cond (c && f) (Some e.0) (final_after x es) ≡ Some n → tag_lt x n ≡ true
    pick rest true true less is = sym (ap (tag_lt x) (same_Some e.0 n is)) ∙ less
    pick rest true false less is = rest is
    pick rest false f less is = rest is

record IsPlace (es : Rows) (n : Tag) : Type 0 where
  pub place : ℕ
  pub within : place < length es
  pub at : (d : Tag × Row) → (get_or es place d).0 ≡ n
  pub final : (d : Tag × Row) → is_finalized (get_or es place d).1.label ≡ true

after_place : (x n : Tag) (es : Rows) → final_after x es ≡ Some n → IsPlace es n
after_place x n [] is = absurd (cc)
after_place x n (e ∷ es) is = pick (λ is. after_place x n es is) (tag_lt x e.0) (is_finalized e.1.label) refl is
  where
    later : IsPlace es n → IsPlace (e ∷ es) n
    later p = record { place = suc p.place; within = let w = p.within in omega arith; at = p.at; final = p.final }

    pick : (final_after x es ≡ Some n → IsPlace es n) → (c f : Bool) → is_finalized e.1.label ≡ f
        → cond (c && f) (Some e.0) (final_after x es) ≡ Some n → IsPlace (e ∷ es) n
    pick rest true true final is = record { place = 0; within = omega arith; at = λ d. same_Some e.0 n is; final = λ d. final }
    pick rest true false final is = later (rest is)
    pick rest false f final is = later (rest is)

-- it is finalized
pub after_final_in : (x n : Tag) (es : Rows) → Rise es → final_after x es ≡ Some n → is_final_in es n ≡ true
after_final_in x n es rise is =
    let p = after_place x n es is in
    let d : Tag × Row = (n, record { label = PreWritten 0; arrival = None }) in
    ap (is_final_in es) (sym (p.at d)) ∙ ap (λ o. is_some (row_finalized o)) (found_at es rise p.place p.within d) ∙ p.final d

-- there is one finalized tag fewer above the tag that is found than above x
pub after_count : (x n : Tag) (es : Rows) → map.is_sorted tag_cmp es ≡ true → final_after x es ≡ Some n → above x es ≡ above n es + 1
after_count x n [] sorted is = absurd (cc)
after_count x n (e ∷ es) sorted is =
    pick (λ is. after_count x n es (and_parts (below_all tag_cmp e.0 es) (map.is_sorted tag_cmp es) sorted).1 is)
    (tag_lt x e.0) refl (is_finalized e.1.label) refl is
  where
    parts : (below_all tag_cmp e.0 es ≡ true) × (map.is_sorted tag_cmp es ≡ true)
    parts = and_parts (below_all tag_cmp e.0 es) (map.is_sorted tag_cmp es) sorted

    later : above x es ≡ above n es + 1 → final_after x es ≡ Some n → one_if (tag_lt x e.0 && is_finalized e.1.label) ≡ 0
        → above x (e ∷ es) ≡ above n (e ∷ es) + 1
    later rest is none =
        let p = after_place x n es is in
        let d : Tag × Row = (n, record { label = PreWritten 0; arrival = None }) in
        let behind : tag_lt e.0 n ≡ true = ap (tag_lt e.0) (sym (p.at d)) ∙ below_at e.0 es p.place d parts.0 p.within in
        let none_too : one_if (tag_lt n e.0 && is_finalized e.1.label) ≡ 0 =
        ap (λ c. one_if (c && is_finalized e.1.label)) (lt-not e.0 n behind) in
        omega (arith, rest, none, none_too)

    pick : (final_after x es ≡ Some n → above x es ≡ above n es + 1) → (c : Bool) → tag_lt x e.0 ≡ c → (f : Bool)
        → is_finalized e.1.label ≡ f → cond (c && f) (Some e.0) (final_after x es) ≡ Some n → above x (e ∷ es) ≡ above n (e ∷ es) + 1
    pick rest true less true final is =
        let one : one_if (tag_lt x e.0 && is_finalized e.1.label) ≡ 1 =
        ap (λ c. one_if (c && is_finalized e.1.label)) less ∙ ap (λ c. one_if c) final in
        let none : one_if (tag_lt e.0 e.0 && is_finalized e.1.label) ≡ 0 = ap (λ c. one_if (c && is_finalized e.1.label)) (lt-same e.0) in
        let here : above x (e ∷ es) ≡ above e.0 (e ∷ es) + 1 =
        let few = above_all e.0 x es parts.0 in
        let many = above_less x e.0 (lt-not x e.0 less) es in
        omega (arith, one, none, few, many) in
        here ∙ ap (λ t. above t (e ∷ es) + 1) (same_Some e.0 n is)
    pick rest true less false final is =
        later (rest is) is (ap (λ c. one_if (c && is_finalized e.1.label)) less ∙ ap (λ c. one_if c) final)
    pick rest false less f final is = later (rest is) is (ap (λ c. one_if (c && is_finalized e.1.label)) less)

-- if no tag is found, no tag above x is finalized
pub after_none : (x : Tag) (es : Rows) → final_after x es ≡ None → above x es ≡ 0
after_none x [] is = refl
after_none x (e ∷ es) is = pick (λ is. after_none x es is) (tag_lt x e.0 && is_finalized e.1.label) refl is
  where
    pick : (final_after x es ≡ None → above x es ≡ 0) → (c : Bool) → (tag_lt x e.0 && is_finalized e.1.label) ≡ c
        → cond c (Some e.0) (final_after x es) ≡ None → above x (e ∷ es) ≡ 0
    pick rest true passes is = absurd (cc)
    pick rest false fails is =
        let none_there = rest is in
        let none : one_if (tag_lt x e.0 && is_finalized e.1.label) ≡ 0 = ap one_if fails in
        omega (arith, none_there, none)

-- The window

-- a tag is below a full window exactly where there are more greater ones than delta
pub excludes_is : (es : Rows) (w : Window) → Rise es → IsWindow es w → (t : Tag) → excludes w t ≡ nat_le (w.delta + 1) (above t es)
excludes_is es w rise is t = grind (arith, above, above_final, above_least_final, above_less, le-leb, lt-leb, nat_tests)
