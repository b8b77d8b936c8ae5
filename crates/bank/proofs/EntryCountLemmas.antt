-- How many of the entries above a tag pass a test.
use Rattle.std.proofs.Common.{◌≡◌, ℕ, suc, ◌+◌, ◌<◌, Bool, true, false, cond, ◌&&◌, [], ◌∷◌, length, get_or, Option, Some, None}
use Rattle.std.proofs.Common.{sym, ap, refl, arith}
use Rattle.std.specs.FinMap as map
use Rattle.std.specs.FinMap.Entries.{below_all, by_order}
use Rattle.std.specs.declared.cmp.Ordering.TheVariants.{Less, Equal, Greater}
use Rattle.std.specs.Ordering.{is_eq}
use Rattle.std.proofs.lemmas.Bool.{and_parts}
use Rattle.tag.specs.declared.tag.Tag.{Tag}
use Rattle.tag.specs.Tag.{tag_cmp, tag_lt}
use Rattle.tag.proofs.TagOrderLemmas.{tag_cmp_total, tag_cmp-IsAntisymmetric}
use Rattle.bank.specs.declared.row.Label.{Label}
use Rattle.bank.specs.declared.row.Row.{Row}
use Rattle.bank.specs.Knowledge.{final_step, row_finalized, count_above}
use Rattle.bank.proofs.EntryOrderLemmas.{Rows, t_true, find-below, less_than}

-- what a test adds to a count
abbrev pub one_if : Bool → ℕ
one_if b = cond b 1 0

-- what a key adds to the count, with what is there for it
abbrev pub counted : (Label → Bool) → Tag → Tag → Option Row → ℕ
counted test tag k None = 0
counted test tag k (Some r) = one_if (tag_lt tag k && test r.label)

module _ (test : Label → Bool) (tag : Tag) where
  -- the count after a new value comes in the place of an old one
  put_count : (k : Tag) (v : Row) (es : Rows) → map.is_sorted tag_cmp es ≡ true
      → count_above test tag (map.put tag_cmp k v es) + counted test tag k (map.find tag_cmp k es)
      ≡ counted test tag k (Some v) + count_above test tag es
  put_count k v [] sorted = omega arith
  put_count k v (e ∷ es) sorted =
      elim (tag_cmp k e.0) as (λ o. tag_cmp k e.0 ≡ o → count_above test tag
      (by_order o ((k, v) ∷ e ∷ es) ((e.0, v) ∷ es) (e ∷ map.put tag_cmp k v es)) + counted test tag k
      (cond (is_eq o) (Some e.1) (map.find tag_cmp k es)) ≡ counted test tag k (Some v) + count_above test tag (e ∷ es)) [
        | Less ↦ λ is.
            let none : counted test tag k (map.find tag_cmp k es) ≡ 0 =
            ap (counted test tag k) (find-below k e.0 es (less_than k e.0 is).1 parts.0) in
            omega (arith, none)
        | Equal ↦ λ is.
            let same = at e.0 k (sym (tag_cmp-IsAntisymmetric k e.0 is)) in
            omega (arith, same v, same e.1)
        | Greater ↦ λ is. let rest = put_count k v es parts.1 in omega (arith, rest)
      ] refl
    where
      parts : (below_all tag_cmp e.0 es ≡ true) × (map.is_sorted tag_cmp es ≡ true)
      parts = and_parts (below_all tag_cmp e.0 es) (map.is_sorted tag_cmp es) sorted

      at : (s t : Tag) → s ≡ t → (r : Row) → counted test tag s (Some r) ≡ counted test tag t (Some r)
      at s t same r = ap (λ u. counted test tag u (Some r)) same

  -- the count after an insert
  pub insert_count : (rows : map.FinMap tag_cmp Row) (k : Tag) (v : Row)
      → count_above test tag (map.entries (map.insert rows k v)) + counted test tag k (map.get rows k)
      ≡ counted test tag k (Some v) + count_above test tag (map.entries rows)
  insert_count rows k v =
      let entries = ap (count_above test tag) (map.entries-insert tag_cmp_total rows k v) in
      let found = ap (counted test tag k) (map.get-entries rows k) in
      let put = put_count k v (map.entries rows) (t_true (map.is_sorted tag_cmp (map.entries rows)) (map.entries_sorted rows)) in
      omega (arith, entries, found, put)

-- tests that agree on the entries count the same
pub count_same : (test other : Label → Bool) (tag : Tag) (es : Rows)
    → ((k : ℕ) → k < length es → (d : Tag × Row) → test (get_or es k d).1.label ≡ other (get_or es k d).1.label)
    → count_above test tag es ≡ count_above other tag es
count_same test other tag [] each = refl
count_same test other tag (e ∷ es) each =
    let rest = count_same test other tag es (λ k within d. each (suc k) (omega arith) d) in
    let here : one_if (tag_lt tag e.0 && test e.1.label) ≡ one_if (tag_lt tag e.0 && other e.1.label) =
    ap (λ b. one_if (tag_lt tag e.0 && b)) (each 0 (omega arith) e) in
    omega (arith, rest, here)

-- Tests of the step at which a label became final

module _ (h : Option ℕ → Bool) (none : h None ≡ false) (tag : Tag) where
  counted_by : (k : Tag) (o : Option Row) → counted (λ l. h (final_step l)) tag k o ≡ one_if (tag_lt tag k && h (row_finalized o))
  counted_by k o = grind arith

  -- the count after the row of a tag changes
  pub changed_count : (rows : map.FinMap tag_cmp Row) (k : Tag) (v : Row)
      → count_above (λ l. h (final_step l)) tag (map.entries (map.insert rows k v))
      + one_if (tag_lt tag k && h (row_finalized (map.get rows k)))
      ≡ one_if (tag_lt tag k && h (final_step v.label)) + count_above (λ l. h (final_step l)) tag (map.entries rows)
  changed_count rows k v = grind (arith, counted_by, insert_count)

  -- it stays where the test says the same
  pub same_count : (rows : map.FinMap tag_cmp Row) (k : Tag) (v : Row) → h (final_step v.label) ≡ h (row_finalized (map.get rows k))
      → count_above (λ l. h (final_step l)) tag (map.entries (map.insert rows k v))
      ≡ count_above (λ l. h (final_step l)) tag (map.entries rows)
  same_count rows k v same = grind (arith, changed_count, one_if)
