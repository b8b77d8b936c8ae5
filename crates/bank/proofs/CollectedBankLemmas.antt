-- What is left where a bank drops the pieces that are not kept.
use Rattle.std.proofs.Common.{◌≡◌, ℕ, ◌+◌, Bool, true, false, cond, ◌&&◌, [], ◌∷◌, map, T, Option, Some, None, option_map}
use Rattle.std.proofs.Common.{◌↔◌, sym, ap, ◌∙◌, subst, refl, arith}
use Rattle.std.specs.FinMap as map
use Rattle.std.specs.FinMap.Entries.{below_all}
use Rattle.std.specs.Ordering.{eq_by_cmp, is_lt}
use Rattle.tag.specs.declared.tag.Tag.{Tag}
use Rattle.tag.specs.Tag.{tag_cmp, tag_lt}
use Rattle.tag.proofs.TagOrderLemmas.{tag_cmp_total, tag_cmp-IsAntisymmetric, eq_by_cmp-tag, tag_eq-true}
use Rattle.bank.specs.declared.row.Label.{Label}
use Rattle.bank.specs.declared.row.Row.{Row}
use Rattle.bank.specs.Bank.{Bank, with_rows, piece_of, piece_of_row}
use Rattle.bank.specs.Knowledge.{row_finalized, row_arrived, finalized_at, arrived_at, count_above}
use Rattle.bank.specs.Knowledge.{is_dropped, is_dropped_at, HadPiece, HoldsPiece}
use Rattle.bank.specs.Collect.{emptied_row, kept_row, kept_entry, collected, KeepsAll, fetched_piece}
use Rattle.bank.proofs.EntryCountLemmas.{one_if}
use Rattle.bank.proofs.EntryOrderLemmas.{Rows}

-- Entries whose rows change and whose tags stay

module _ (g : Tag → Row → Row) where
  abbrev keyed : Tag × Row → Tag × Row
  keyed e = (e.0, g e.0 e.1)

  below-keyed : (x : Tag) (es : Rows) → below_all tag_cmp x (map keyed es) ≡ below_all tag_cmp x es
  below-keyed x [] = refl
  below-keyed x (e ∷ es) = ap (λ b. is_lt (tag_cmp x e.0) && b) (below-keyed x es)

  sorted-keyed : (es : Rows) → map.is_sorted tag_cmp (map keyed es) ≡ map.is_sorted tag_cmp es
  sorted-keyed [] = refl
  sorted-keyed (e ∷ es) =
      ap (λ b. b && map.is_sorted tag_cmp (map keyed es)) (below-keyed e.0 es) ∙ ap (λ b. below_all tag_cmp e.0 es && b) (sorted-keyed es)

  find-keyed : (q : Tag) (es : Rows) → map.find tag_cmp q (map keyed es) ≡ option_map (g q) (map.find tag_cmp q es)
  find-keyed q [] = refl
  find-keyed q (e ∷ es) =
      elim (eq_by_cmp tag_cmp q e.0) as (λ b. eq_by_cmp tag_cmp q e.0 ≡ b
      → cond b (Some (g e.0 e.1)) (map.find tag_cmp q (map keyed es)) ≡ option_map (g q) (cond b (Some e.1) (map.find tag_cmp q es))) [
        | true ↦ λ same. ap (λ t. Some (g t e.1)) (sym (tag_eq-true q e.0 (sym (eq_by_cmp-tag q e.0) ∙ same)))
        | false ↦ λ _. find-keyed q es
      ] refl

-- A row that keeps its piece or not

module _ (drops : Bool) where
  abbrev rest : Row → Row
  rest r = cond drops (emptied_row r) r

label-rest : (drops : Bool) (r : Row) → (rest drops r).label ≡ r.label
label-rest drops r = grind arith

finalized-rest : (drops : Bool) (o : Option Row) → row_finalized (option_map (rest drops) o) ≡ row_finalized o
finalized-rest drops o = grind arith

arrived-rest : (drops : Bool) (o : Option Row) → row_arrived (option_map (rest drops) o) ≡ row_arrived o
arrived-rest drops o = grind arith

piece-rest : (drops : Bool) (o : Option Row) → piece_of_row (option_map (rest drops) o) ≡ cond drops None (piece_of_row o)
piece-rest drops o = grind arith

-- a row without a piece loses none
pub empty-emptied : (o : Option Row) → piece_of_row o ≡ None → option_map emptied_row o ≡ o
empty-emptied o none = grind arith

-- A bank and what it keeps

module _ (b : Bank) where
  in_order : T (map.is_sorted tag_cmp (map (kept_entry b) (map.entries b.rows)))
  in_order = subst T (sym (sorted-keyed (kept_row b) (map.entries b.rows))) (map.entries_sorted b.rows)

  pub entries-collected : map.entries (collected b).rows ≡ map (kept_entry b) (map.entries b.rows)
  entries-collected = map.entries-from_sorted tag_cmp (map (kept_entry b) (map.entries b.rows)) in_order

  pub get-collected : (t : Tag) → map.get (collected b).rows t ≡ option_map (kept_row b t) (map.get b.rows t)
  get-collected t =
      map.get-from_sorted tag_cmp (map (kept_entry b) (map.entries b.rows)) t in_order
      ∙ find-keyed (kept_row b) t (map.entries b.rows) ∙ ap (option_map (kept_row b t)) (sym (map.get-entries b.rows t))

  pub finalized_at-collected : (t : Tag) → finalized_at (collected b) t ≡ finalized_at b t
  finalized_at-collected t = ap row_finalized (get-collected t) ∙ finalized-rest (is_dropped b t) (map.get b.rows t)

  pub arrived_at-collected : (t : Tag) → arrived_at (collected b) t ≡ arrived_at b t
  arrived_at-collected t = ap row_arrived (get-collected t) ∙ arrived-rest (is_dropped b t) (map.get b.rows t)

  -- a piece that is not kept is gone, each other one stays
  pub piece_of-collected : (t : Tag) → piece_of (collected b) t ≡ cond (is_dropped b t) None (piece_of b t)
  piece_of-collected t = ap piece_of_row (get-collected t) ∙ piece-rest (is_dropped b t) (map.get b.rows t)

  count-kept : (test : Label → Bool) (t : Tag) (es : Rows) → count_above test t (map (kept_entry b) es) ≡ count_above test t es
  count-kept test t [] = refl
  count-kept test t (e ∷ es) =
      ap (λ l. one_if (tag_lt t e.0 && test l) + count_above test t (map (kept_entry b) es)) (label-rest (is_dropped b e.0) e.1)
      ∙ ap (λ n. one_if (tag_lt t e.0 && test e.1.label) + n) (count-kept test t es)

  pub count-collected : (test : Label → Bool) (t : Tag)
      → count_above test t (map.entries (collected b).rows) ≡ count_above test t (map.entries b.rows)
  count-collected test t = ap (count_above test t) entries-collected ∙ count-kept test t (map.entries b.rows)

  pub is_dropped-collected : (t : Tag) → is_dropped (collected b) t ≡ is_dropped b t
  is_dropped-collected t = grind (arith, count-collected, finalized_at-collected)

  pub is_dropped_at-collected : (t : Tag) (step : ℕ) → is_dropped_at (collected b) t step ≡ is_dropped_at b t step
  is_dropped_at-collected t step = grind (arith, count-collected, finalized_at-collected)

  -- rows that have of each tag what is kept are those of the bank
  pub collected_is : (rows : map.FinMap tag_cmp Row)
      → ((t : Tag) → map.get rows t ≡ option_map (kept_row b t) (map.get b.rows t)) → with_rows b rows ≡ collected b
  collected_is rows same =
      ap (λ m. with_rows b m) (map.same_map tag_cmp_total tag_cmp-IsAntisymmetric rows (collected b).rows
      (λ t. same t ∙ sym (get-collected t)))

-- Where all is kept

module _ (b : Bank) (keeps : KeepsAll b) where
  pub none_dropped : (t : Tag) → is_dropped b t ≡ false
  none_dropped t = grind arith

  pub none_dropped_at : (t : Tag) (step : ℕ) → is_dropped_at b t step ≡ false
  none_dropped_at t step = grind arith

  pub collected-keeps_all : collected b ≡ b
  collected-keeps_all = sym (collected_is b b.rows (λ t. all (map.get b.rows t)
      ∙ ap (λ d. option_map (rest d) (map.get b.rows t)) (sym (none_dropped t))))
    where
      all : (o : Option Row) → o ≡ option_map (rest false) o
      all None = refl
      all (Some r) = refl

  pub fetched_piece-keeps_all : (t : Tag) → fetched_piece b t ≡ piece_of b t
  fetched_piece-keeps_all t = cc

  pub holds-keeps_all : (t : Tag) (step : ℕ) → HoldsPiece b t step ↔ HadPiece b t step
  holds-keeps_all t step = (λ h. h.0, λ h. (h, none_dropped_at t step))
