-- The rows that are left after a bank forgets what is below its floor, and how many finalized tags are then above a tag.
use Rattle.std.proofs.Common.{◌≡◌, ℕ, suc, ◌+◌, ◌<◌, ◌≤◌, min, Bool, true, false, cond, not, ◌&&◌, ◌||◌, [], ◌∷◌, length, get_or, T}
use Rattle.std.proofs.Common.{Option, Some, None, is_some, sym, ap, ◌∙◌, refl, arith}
use Rattle.std.specs.Prelude.{nat_le}
use Rattle.std.specs.FinMap as map
use Rattle.std.specs.FinMap.Entries.{below_all, where_key, is_sorted-where_key, find-where_key}
use Rattle.std.specs.declared.cmp.Ordering.TheVariants.{Equal}
use Rattle.std.proofs.lemmas.Bool.{and_parts}
use Rattle.std.proofs.lemmas.Bool.Decides.{nat_tests}
use Rattle.tag.specs.declared.tag.Tag.{Tag}
use Rattle.tag.specs.Tag.{tag_cmp, tag_lt, tag_eq, opening_tag}
use Rattle.tag.proofs.TagOrderLemmas.{tag_cmp_total, tag_cmp-IsAntisymmetric}
use Rattle.bank.specs.declared.row.Row.{Row}
use Rattle.bank.specs.Bank.{Bank, with_rows}
use Rattle.bank.specs.Collect.{is_outside}
use Rattle.bank.specs.Floor.{is_forgotten, remembered}
use Rattle.bank.specs.Knowledge.{is_finalized, exceeds, finals_above}
use Rattle.bank.proofs.EntryCountLemmas.{one_if}
use Rattle.bank.proofs.EntryOrderLemmas.{Rows, t_true, below_at}
use Rattle.bank.proofs.FinalizedAboveLemmas.{lt-same, lt-not, above, above_less, above_all}

-- Entries in order

-- whether a tag of these entries is kept: it is the opening tag, or no more than d finalized ones are above it
abbrev stays_in : ℕ → Rows → Tag → Bool
stays_in d es t = not (not (tag_eq t opening_tag) && nat_le (d + 1) (above t es))

-- an entry that is not above a tag does not count
pub above_rest : (t : Tag) (e : Tag × Row) (es : Rows) → tag_lt t e.0 ≡ false → above t (e ∷ es) ≡ above t es
above_rest t e es not_above =
    let none : one_if (tag_lt t e.0 && is_finalized e.1.label) ≡ 0 = ap (λ c. one_if (c && is_finalized e.1.label)) not_above in
    omega (arith, none)

-- a tag above another is not the opening tag
not_opening : (s t : Tag) → tag_lt s t ≡ true → tag_eq t opening_tag ≡ false
not_opening s t less = grind (arith, nat_tests)

-- one more counts where it is kept, and up to d + 1 where it is not
one_more : (d n m : ℕ) (c : Bool) → c ≡ not (nat_le (d + 1) m) → n ≡ m → one_if c + min (d + 1) n ≡ min (d + 1) (1 + n)
one_more d n m c is same = grind (arith, nat_tests)

-- a test and true
and_true : (c : Bool) → (c && true) ≡ c
and_true c = grind arith

-- a test and false
and_false : (c : Bool) → (c && false) ≡ false
and_false c = grind arith

module _ (d : ℕ) (p : Tag → Bool) where
  -- the test tells of each entry whether it is kept
  abbrev Tells : Rows → Type 0
  Tells es = (k : ℕ) → k < length es → (x : Tag × Row) → p (get_or es k x).0 ≡ stays_in d es (get_or es k x).0

  -- it tells so of the entries after the first too
  tells_rest : (e : Tag × Row) (es : Rows) → below_all tag_cmp e.0 es ≡ true → Tells (e ∷ es) → Tells es
  tells_rest e es below tells k within x =
      tells (suc k) (omega arith) x ∙ ap (λ n. not (not (tag_eq (get_or es k x).0 opening_tag) && nat_le (d + 1) n))
      (above_rest (get_or es k x).0 e es (lt-not e.0 (get_or es k x).0 (below_at e.0 es k x below within)))

  -- of the entries that are kept, as many are above a tag as before, up to d + 1
  kept_above : (t : Tag) (es : Rows) → map.is_sorted tag_cmp es ≡ true → Tells es
      → above t (where_key tag_cmp p es) ≡ min (d + 1) (above t es)
  kept_above t [] sorted tells = omega arith
  kept_above t (e ∷ es) sorted tells =
      pick (kept_above t es parts.1 (tells_rest e es parts.0 tells)) (p e.0) (tells 0 (omega arith) e) (tag_lt t e.0) refl
      (is_finalized e.1.label) refl
    where
      parts : (below_all tag_cmp e.0 es ≡ true) × (map.is_sorted tag_cmp es ≡ true)
      parts = and_parts (below_all tag_cmp e.0 es) (map.is_sorted tag_cmp es) sorted

      fs : Rows
      fs = where_key tag_cmp p es

      added : (c f : Bool) → (tag_lt t e.0 && is_finalized e.1.label) ≡ f → above t (cond c (e ∷ fs) fs) ≡ one_if (c && f) + above t fs
      added true f is = ap (λ f. one_if f + above t fs) is
      added false f is = omega arith

      pick : above t fs ≡ min (d + 1) (above t es) → (c : Bool) → c ≡ stays_in d (e ∷ es) e.0 → (less : Bool) → tag_lt t e.0 ≡ less
          → (f : Bool) → is_finalized e.1.label ≡ f → above t (cond c (e ∷ fs) fs) ≡ min (d + 1) (above t (e ∷ es))
      pick rest c kept true less true final =
          let put = added c true (ap (λ c. c && is_finalized e.1.label) less ∙ final) in
          let few = above_all e.0 t es parts.0 in
          let many = above_less t e.0 (lt-not t e.0 less) es in
          let alone = above_rest e.0 e es (lt-same e.0) in
          let told : c ≡ not (nat_le (d + 1) (above e.0 (e ∷ es))) =
          kept ∙ ap (λ o. not (not o && nat_le (d + 1) (above e.0 (e ∷ es)))) (not_opening t e.0 less) in
          let more = one_more d (above t es) (above e.0 (e ∷ es)) c told (omega (arith, few, many, alone)) in
          let with_all : one_if (tag_lt t e.0 && is_finalized e.1.label) ≡ 1 =
          ap (λ c. one_if (c && is_finalized e.1.label)) less ∙ ap one_if final in
          let same : one_if (c && true) ≡ one_if c = ap one_if (and_true c) in
          omega (arith, put, rest, more, with_all, same)
      pick rest c kept true less false final =
          let put = added c false (ap (λ c. c && is_finalized e.1.label) less ∙ final) in
          let none : one_if (tag_lt t e.0 && is_finalized e.1.label) ≡ 0 =
          ap (λ c. one_if (c && is_finalized e.1.label)) less ∙ ap one_if final in
          let same : one_if (c && false) ≡ 0 = ap one_if (and_false c) in
          omega (arith, put, rest, none, same)
      pick rest c kept false less f final =
          let put = added c false (ap (λ c. c && is_finalized e.1.label) less) in
          let none : one_if (tag_lt t e.0 && is_finalized e.1.label) ≡ 0 = ap (λ c. one_if (c && is_finalized e.1.label)) less in
          let same : one_if (c && false) ≡ 0 = ap one_if (and_false c) in
          omega (arith, put, rest, none, same)

-- A bank and what it remembers

-- to count up to d + 1 is enough to tell whether there are so many
min_exceeds : (d n : ℕ) → nat_le (d + 1) (min (d + 1) n) ≡ nat_le (d + 1) n
min_exceeds d n = grind (arith, nat_tests)

-- a choice by a negated test
turned : (f : Bool) (o : Option Row) → cond (not f) o None ≡ cond f None o
turned true o = refl
turned false o = refl

module _ (b : Bank) where
  -- a tag that ties with another is the same, so it is kept where that is kept
  alike : (q x : Tag) → tag_cmp q x ≡ Equal → not (is_forgotten b x) ≡ not (is_forgotten b q)
  alike q x tie = ap (λ t. not (is_forgotten b t)) (sym (tag_cmp-IsAntisymmetric q x tie))

  -- the row of a tag, unless the tag is forgotten
  pub get-remembered : (t : Tag) → map.get (remembered b).rows t ≡ cond (is_forgotten b t) None (map.get b.rows t)
  get-remembered t =
      map.get-retain_keys b.rows (λ t. not (is_forgotten b t)) t (alike t) ∙ turned (is_forgotten b t) (map.get b.rows t)

  -- the entries whose tags are not forgotten
  pub entries-remembered : map.entries (remembered b).rows
      ≡ where_key tag_cmp (λ t. not (is_forgotten b t)) (map.entries b.rows)
  entries-remembered =
      ap map.entries (map.same_map tag_cmp_total tag_cmp-IsAntisymmetric (remembered b).rows
      (map.from_sorted (where_key tag_cmp (λ t. not (is_forgotten b t)) (map.entries b.rows)))
      (λ q. map.get-retain_keys b.rows (λ t. not (is_forgotten b t)) q (alike q)
      ∙ ap (λ o. cond (not (is_forgotten b q)) o None) (map.get-entries b.rows q)
      ∙ sym (map.get-from_sorted tag_cmp (where_key tag_cmp (λ t. not (is_forgotten b t)) (map.entries b.rows)) q in_order
      ∙ find-where_key tag_cmp (λ t. not (is_forgotten b t)) q (alike q) (map.entries b.rows))))
      ∙ map.entries-from_sorted tag_cmp (where_key tag_cmp (λ t. not (is_forgotten b t)) (map.entries b.rows)) in_order
    where
      in_order : T (map.is_sorted tag_cmp (where_key tag_cmp (λ t. not (is_forgotten b t)) (map.entries b.rows)))
      in_order = is_sorted-where_key tag_cmp (λ t. not (is_forgotten b t)) (map.entries b.rows) (map.entries_sorted b.rows)

  -- with delta d, as many finalized tags are above a tag as before, up to d + 1
  pub finals-remembered : (d : ℕ) → b.delta ≡ Some d → (t : Tag) → finals_above (remembered b) t ≡ min (d + 1) (finals_above b t)
  finals-remembered d is t =
      ap (above t) entries-remembered
      ∙ kept_above d (λ t. not (is_forgotten b t)) t (map.entries b.rows)
      (t_true (map.is_sorted tag_cmp (map.entries b.rows)) (map.entries_sorted b.rows))
      (λ k within x. ap (λ o. not (not (tag_eq (get_or (map.entries b.rows) k x).0 opening_tag)
      && exceeds o (finals_above b (get_or (map.entries b.rows) k x).0))) is)

  -- so no more than delta + 1 finalized tags are left besides the opening tag
  pub few_remembered : (d : ℕ) → b.delta ≡ Some d → finals_above (remembered b) opening_tag ≤ d + 1
  few_remembered d is = let same = finals-remembered d is opening_tag in omega (arith, same)

  -- and delta + 1 or more are above a tag exactly where they were
  pub exceeds-remembered : (t : Tag) → exceeds b.delta (finals_above (remembered b) t) ≡ exceeds b.delta (finals_above b t)
  exceeds-remembered t = pick b.delta refl
    where
      pick : (o : Option ℕ) → b.delta ≡ o → exceeds o (finals_above (remembered b) t) ≡ exceeds o (finals_above b t)
      pick None is = refl
      pick (Some d) is = ap (nat_le (d + 1)) (finals-remembered d is t) ∙ min_exceeds d (finals_above b t)

  -- so the same tags are outside the window
  pub is_outside-remembered : (t : Tag) → is_outside (remembered b) t ≡ is_outside b t
  is_outside-remembered t = ap (λ c. is_some b.retired || c) (exceeds-remembered t)

  -- and the same tags are forgotten
  pub is_forgotten-remembered : (t : Tag) → is_forgotten (remembered b) t ≡ is_forgotten b t
  is_forgotten-remembered t = ap (λ c. not (tag_eq t opening_tag) && c) (exceeds-remembered t)

  -- rows without those of the forgotten tags are those of the remembered bank
  pub remembered_is : (rows : map.FinMap tag_cmp Row)
      → ((t : Tag) → map.get rows t ≡ cond (is_forgotten b t) None (map.get b.rows t)) → with_rows b rows ≡ remembered b
  remembered_is rows same =
      ap (λ m. with_rows b m) (map.same_map tag_cmp_total tag_cmp-IsAntisymmetric rows (remembered b).rows
      (λ t. same t ∙ sym (get-remembered t)))
