-- The greatest finalized tag of a bank.
use Rattle.std.proofs.Common.{◌≡◌, ℕ, suc, ◌<◌, Bool, true, false, cond, [], ◌∷◌, length, get_or, Option, Some, None, IsSome, is_some, sym}
use Rattle.std.proofs.Common.{ap, ◌∙◌, refl, arith}
use Rattle.std.specs.FinMap as map
use Rattle.std.specs.Ordering.{eq_by_cmp}
use Rattle.std.proofs.lemmas.Option.{same_Some}
use Rattle.tag.specs.declared.tag.Tag.{Tag}
use Rattle.tag.specs.Tag.{tag_cmp, tag_lt, tag_eq, opening_tag, later_tag}
use Rattle.tag.proofs.TagOrderLemmas.{same_tag, opening_least, later-above, later-second, tag_eq-true, tag_eq-same, eq_by_cmp-tag}
use Rattle.bank.specs.declared.row.Label.TheVariants.{PreWritten}
use Rattle.bank.specs.declared.row.Row.{Row}
use Rattle.piece.specs.declared.piece.Piece.{Piece}
use Rattle.bank.specs.Bank.{Bank, opening_row, opened_bank, pre_written, finalized}
use Rattle.bank.specs.Serve.{greatest_among, greatest_final}
use Rattle.bank.specs.Knowledge.{since, is_finalized, finalized_at}
use Rattle.bank.specs.Facts.{IsGreatest}
use Rattle.bank.proofs.EntryOrderLemmas.{Rows, is_final_row, is_final, find_sorted, t_true}
use Rattle.bank.specs.Collect.{collected}
use Rattle.bank.proofs.CollectedBankLemmas.{finalized_at-collected}
use Rattle.bank.proofs.PieceRetentionLemmas.{stays, final_itself}
use Rattle.bank.proofs.RowChangeLemmas.{get-with_row, finalized_at-finalized, finalized_at-pre_written}

-- no finalized entry is above the greatest among them
among_above : (es : Rows) (tag : Tag) (r : Row) → map.find tag_cmp tag es ≡ Some r → is_finalized r.label ≡ true
    → tag_lt (greatest_among es) tag ≡ false
among_above [] tag r found final = absurd (cc)
among_above (e ∷ es) tag r found final =
    elim (eq_by_cmp tag_cmp tag e.0) as (λ b. eq_by_cmp tag_cmp tag e.0 ≡ b → cond b (Some e.1) (map.find tag_cmp tag es) ≡ Some r
    → tag_lt (greatest_among (e ∷ es)) tag ≡ false) [
      | true ↦ λ same is.
          let here : is_finalized e.1.label ≡ true = ap is_finalized (ap (λ (x : Row). x.label) (same_Some e.1 r is)) ∙ final in
          ap (λ b. tag_lt (cond b (cond (tag_lt (greatest_among es) e.0) e.0 (greatest_among es)) (greatest_among es)) tag) here
          ∙ ap (tag_lt (cond (tag_lt (greatest_among es) e.0) e.0 (greatest_among es))) (tag_eq-true tag e.0 (sym (eq_by_cmp-tag tag e.0)
          ∙ same))
          ∙ later-second (greatest_among es) e.0
      | false ↦ λ _ is. either (is_finalized e.1.label) (among_above es tag r is final)
    ] refl found
  where
    either : (b : Bool) → tag_lt (greatest_among es) tag ≡ false
        → tag_lt (cond b (cond (tag_lt (greatest_among es) e.0) e.0 (greatest_among es)) (greatest_among es)) tag ≡ false
    either true below = later-above (greatest_among es) e.0 tag below
    either false below = below

-- what no finalized entry is above is not below the greatest among them
among_below : (es : Rows) (tag : Tag) (d : Tag × Row)
    → ((k : ℕ) → k < length es → is_finalized (get_or es k d).1.label ≡ true → tag_lt tag (get_or es k d).0 ≡ false)
    → tag_lt tag (greatest_among es) ≡ false
among_below [] tag d each = opening_least tag
among_below (e ∷ es) tag d each =
    either (is_finalized e.1.label) (tag_lt (greatest_among es) e.0) (each 0 (omega arith))
    (among_below es tag d (λ k within. each (suc k) (omega arith)))
  where
    either : (b c : Bool) → (b ≡ true → tag_lt tag e.0 ≡ false) → tag_lt tag (greatest_among es) ≡ false
        → tag_lt tag (cond b (cond c e.0 (greatest_among es)) (greatest_among es)) ≡ false
    either true true here rest = here refl
    either true false here rest = rest
    either false c here rest = rest

pub greatest_is : (b : Bank) (tag : Tag) → IsGreatest b tag → greatest_final b ≡ tag
greatest_is b tag is =
    let es = map.entries b.rows in
    let d : Tag × Row = (opening_tag, record { label = PreWritten 0; arrival = None }) in
    same_tag (greatest_final b) tag (row (map.get b.rows tag) refl is.final)
    (among_below es tag d (λ k within final. is.greatest (get_or es k d).0 (
    ap is_final_row (map.get-entries b.rows (get_or es k d).0
    ∙ find_sorted es k d (t_true (map.is_sorted tag_cmp es) (map.entries_sorted b.rows)) within) ∙ final)))
  where
    row : (o : Option Row) → map.get b.rows tag ≡ o → is_final_row (map.get b.rows tag) ≡ true → tag_lt (greatest_final b) tag ≡ false
    row None got final = absurd (no (sym (ap is_final_row got) ∙ final))
      where
        no : false ≡ true → ⊥
        no h = cc
    row (Some r) got final = among_above (map.entries b.rows) tag r (sym (map.get-entries b.rows tag) ∙ got) (sym (ap is_final_row got)
        ∙ final)

-- where the opening tag is finalized, the greatest tag is
pub greatest_final_is : (b : Bank) → IsSome (finalized_at b opening_tag) → IsGreatest b (greatest_final b)
greatest_final_is b opening = record {
  final = among_final (map.entries b.rows) (λ k within d. map.get-entries b.rows (get_or (map.entries b.rows) k d).0
      ∙ find_sorted (map.entries b.rows) k d (t_true (map.is_sorted tag_cmp (map.entries b.rows)) (map.entries_sorted b.rows)) within);
  greatest = λ other final. row other (map.get b.rows other) refl final;
}
  where
    among_final : (es : Rows) → ((k : ℕ) → k < length es → (d : Tag × Row) → map.get b.rows (get_or es k d).0 ≡ Some (get_or es k d).1)
        → is_final_row (map.get b.rows (greatest_among es)) ≡ true
    among_final [] there = opening
    among_final (e ∷ es) there = pick (is_finalized e.1.label) refl (tag_lt (greatest_among es) e.0)
        (among_final es (λ k within d. there (suc k) (omega arith) d))
      where
        pick : (c : Bool) → is_finalized e.1.label ≡ c → (later : Bool) → is_final_row (map.get b.rows (greatest_among es)) ≡ true
            → is_final_row (map.get b.rows (cond c (cond later e.0 (greatest_among es)) (greatest_among es))) ≡ true
        pick true here true rest = ap is_final_row (there 0 (omega arith) e) ∙ here
        pick true here false rest = rest
        pick false here later rest = rest

    row : (other : Tag) (o : Option Row) → map.get b.rows other ≡ o → is_final_row (map.get b.rows other) ≡ true
        → tag_lt (greatest_final b) other ≡ false
    row other None got final = absurd (no (sym (ap is_final_row got) ∙ final))
      where
        no : false ≡ true → ⊥
        no h = cc
    row other (Some r) got final = among_above (map.entries b.rows) other r (sym (map.get-entries b.rows other)
        ∙ got) (sym (ap is_final_row got)
        ∙ final)

module _ (b : Bank) (tag : Tag) (now : ℕ) (opening : IsSome (finalized_at b opening_tag)) where
  none_above : (t : Tag) → is_final (finalized b tag now) t ≡ true → tag_lt (later_tag (greatest_final b) tag) t ≡ false
  none_above t final =
      elim (tag_eq t tag) as (λ c. tag_eq t tag ≡ c → is_some (cond c (since (finalized_at b t) now) (finalized_at b t)) ≡ true
      → tag_lt (later_tag (greatest_final b) tag) t ≡ false) [
        | true ↦ λ same _. ap (tag_lt (later_tag (greatest_final b) tag)) (tag_eq-true t tag same) ∙ later-second (greatest_final b) tag
        | false ↦ λ _ before. later-above (greatest_final b) tag t ((greatest_final_is b opening).greatest t before)
      ] refl (sym (ap is_some (finalized_at-finalized b tag now t)) ∙ final)

  -- a tag that is finalized is the greatest, or the greatest stays
  pub greatest-finalized : greatest_final (finalized b tag now) ≡ later_tag (greatest_final b) tag
  greatest-finalized = greatest_is (finalized b tag now) (later_tag (greatest_final b) tag) (record {
    final = either (tag_lt (greatest_final b) tag);
    greatest = none_above;
  })
    where
      either : (later : Bool) → is_final (finalized b tag now) (cond later tag (greatest_final b)) ≡ true
      either true = final_itself b tag now
      either false = stays b tag now (greatest_final b) (greatest_final_is b opening).final

  -- a tag that is pre-written changes no greatest
  pub greatest-pre_written : (p : Piece) → greatest_final (pre_written b tag p now) ≡ greatest_final b
  greatest-pre_written p = greatest_is (pre_written b tag p now) (greatest_final b) (record {
    final = ap is_some (finalized_at-pre_written b tag now (greatest_final b) p) ∙ (greatest_final_is b opening).final;
    greatest = λ other final. (greatest_final_is b opening).greatest other
        (sym (ap is_some (finalized_at-pre_written b tag now other p)) ∙ final);
  })

  -- the opening tag stays finalized
  pub opening-finalized : IsSome (finalized_at (finalized b tag now) opening_tag)
  opening-finalized = stays b tag now opening_tag opening

  pub opening-pre_written : (p : Piece) → IsSome (finalized_at (pre_written b tag p now) opening_tag)
  opening-pre_written p = ap is_some (finalized_at-pre_written b tag now opening_tag p) ∙ opening

module _ (point : ℕ) (delta : Option ℕ) (now : ℕ) where
  finalized_at-opened : (t : Tag) → is_final (opened_bank point delta now) t ≡ tag_eq t opening_tag
  finalized_at-opened t = ap is_final_row (get-with_row map.empty opening_tag (λ o. opening_row point now) t) ∙ pick (tag_eq t opening_tag)
    where
      pick : (c : Bool) → is_final_row (cond c (Some (opening_row point now)) (map.get (map.empty {X = Row} {R = tag_cmp}) t)) ≡ c
      pick true = refl
      pick false = ap is_final_row (map.get-empty tag_cmp t)

  pub opening-opened : IsSome (finalized_at (opened_bank point delta now) opening_tag)
  opening-opened = finalized_at-opened opening_tag ∙ tag_eq-same opening_tag

  -- a bank that was just opened has finalized the opening tag alone
  pub greatest-opened : greatest_final (opened_bank point delta now) ≡ opening_tag
  greatest-opened = greatest_is (opened_bank point delta now) opening_tag (record {
    final = opening-opened;
    greatest = λ other final.
        ap (tag_lt opening_tag) (tag_eq-true other opening_tag (sym (finalized_at-opened other) ∙ final)) ∙ opening_least opening_tag;
  })

-- what is dropped changes no greatest
pub greatest-collected : (u : Bank) → IsSome (finalized_at u opening_tag) → greatest_final (collected u) ≡ greatest_final u
greatest-collected u opening = greatest_is (collected u) (greatest_final u) (record {
  final = ap is_some (finalized_at-collected u (greatest_final u)) ∙ (greatest_final_is u opening).final;
  greatest = λ other final. (greatest_final_is u opening).greatest other (sym (ap is_some (finalized_at-collected u other)) ∙ final);
})
