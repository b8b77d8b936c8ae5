-- The greatest finalized tag of any bank, also of one in which the opening tag is not finalized, as a bank changes.
use Rattle.std.proofs.Common.{◌≡◌, ℕ, Bool, true, false, cond, [], ◌∷◌, map, Option, Some, sym, ap, ◌∙◌, refl, arith}
use Rattle.std.specs.FinMap as map
use Rattle.std.specs.FinMap.Entries.{by_order}
use Rattle.std.specs.declared.cmp.Ordering.TheVariants.{Less, Equal, Greater}
use Rattle.std.specs.Ordering.{eq_by_cmp}
use Rattle.std.proofs.lemmas.Bool.Decides.{nat_tests}
use Rattle.tag.specs.declared.tag.Tag.{Tag}
use Rattle.tag.specs.Tag.{tag_cmp, later_tag}
use Rattle.tag.proofs.TagOrderLemmas.{tag_cmp_total, tag_cmp-IsAntisymmetric, eq_by_cmp-tag, tag_eq-true}
use Rattle.piece.specs.declared.piece.Piece.{Piece}
use Rattle.bank.specs.declared.row.Row.{Row}
use Rattle.bank.specs.Bank.{Bank, row_after_pre_write, row_after_finalize, pre_written, finalized}
use Rattle.bank.specs.Collect.{kept_entry, collected}
use Rattle.bank.specs.Knowledge.{is_finalized}
use Rattle.bank.specs.Serve.{greatest_among, greatest_final}
use Rattle.bank.proofs.CollectedBankLemmas.{entries-collected}
use Rattle.bank.proofs.EntryOrderLemmas.{Rows, is_final_row}

-- two later tags may change places
later-swap : (s t u : Tag) → later_tag (later_tag s t) u ≡ later_tag (later_tag s u) t
later-swap s t u = grind (arith, nat_tests)

-- the later of a tag and what it is already the later of
later-again : (s t : Tag) → later_tag (later_tag s t) t ≡ later_tag s t
later-again s t = grind (arith, nat_tests)

-- a finalized tag is none that is later than the greatest
later-known : (es : Rows) (tag : Tag) → is_final_row (map.find tag_cmp tag es) ≡ true
    → later_tag (greatest_among es) tag ≡ greatest_among es
later-known [] tag final = absurd (cc)
later-known (e ∷ es) tag final =
    elim (eq_by_cmp tag_cmp tag e.0) as (λ b. eq_by_cmp tag_cmp tag e.0 ≡ b
    → is_final_row (cond b (Some e.1) (map.find tag_cmp tag es)) ≡ true
    → later_tag (greatest_among (e ∷ es)) tag ≡ greatest_among (e ∷ es)) [
      | true ↦ λ same here. ap (later_tag (greatest_among (e ∷ es))) (tag_eq-true tag e.0 (sym (eq_by_cmp-tag tag e.0) ∙ same))
          ∙ own (is_finalized e.1.label) here
      | false ↦ λ _ rest. either (is_finalized e.1.label) (later-known es tag rest)
    ] refl final
  where
    own : (b : Bool) → b ≡ true → later_tag (cond b (later_tag (greatest_among es) e.0) (greatest_among es)) e.0
        ≡ cond b (later_tag (greatest_among es) e.0) (greatest_among es)
    own true here = later-again (greatest_among es) e.0
    own false here = absurd (cc)

    either : (b : Bool) → later_tag (greatest_among es) tag ≡ greatest_among es
        → later_tag (cond b (later_tag (greatest_among es) e.0) (greatest_among es)) tag
        ≡ cond b (later_tag (greatest_among es) e.0) (greatest_among es)
    either true known = later-swap (greatest_among es) e.0 tag ∙ ap (λ g. later_tag g e.0) known
    either false known = known

module _ (k : Tag) (v : Row) where
  -- where the row of a tag becomes this one, which is finalized if the earlier one was
  greatest-put : (es : Rows) → (is_final_row (map.find tag_cmp k es) ≡ true → is_finalized v.label ≡ true)
      → greatest_among (map.put tag_cmp k v es) ≡ cond (is_finalized v.label) (later_tag (greatest_among es) k) (greatest_among es)
  greatest-put [] stays = refl
  greatest-put (e ∷ es) stays =
      elim (tag_cmp k e.0) as (λ o. tag_cmp k e.0 ≡ o
      → greatest_among (by_order o ((k, v) ∷ e ∷ es) ((e.0, v) ∷ es) (e ∷ map.put tag_cmp k v es))
      ≡ cond (is_finalized v.label) (later_tag (greatest_among (e ∷ es)) k) (greatest_among (e ∷ es))) [
        | Less ↦ λ _. refl
        | Equal ↦ λ tie. same (tag_cmp-IsAntisymmetric k e.0 tie) (is_finalized v.label) (is_finalized e.1.label)
            (λ final. stays (found tie final))
        | Greater ↦ λ more. rest (is_finalized e.1.label) (is_finalized v.label) (greatest-put es (λ final. stays (passed more final)))
      ] refl
    where
      found : tag_cmp k e.0 ≡ Equal → is_finalized e.1.label ≡ true → is_final_row (map.find tag_cmp k (e ∷ es)) ≡ true
      found tie final = grind arith

      passed : tag_cmp k e.0 ≡ Greater → is_final_row (map.find tag_cmp k es) ≡ true
          → is_final_row (map.find tag_cmp k (e ∷ es)) ≡ true
      passed more final = grind arith

      same : k ≡ e.0 → (new old : Bool) → (old ≡ true → new ≡ true)
          → cond new (later_tag (greatest_among es) e.0) (greatest_among es)
          ≡ cond new (later_tag (cond old (later_tag (greatest_among es) e.0) (greatest_among es)) k)
          (cond old (later_tag (greatest_among es) e.0) (greatest_among es))
      same is true true _ = sym (ap (later_tag (later_tag (greatest_among es) e.0)) is ∙ later-again (greatest_among es) e.0)
      same is true false _ = sym (ap (later_tag (greatest_among es)) is)
      same is false true stays = absurd (let clash = stays refl in cc)
      same is false false _ = refl

      rest : (old new : Bool) → greatest_among (map.put tag_cmp k v es) ≡ cond new (later_tag (greatest_among es) k) (greatest_among es)
          → cond old (later_tag (greatest_among (map.put tag_cmp k v es)) e.0) (greatest_among (map.put tag_cmp k v es))
          ≡ cond new (later_tag (cond old (later_tag (greatest_among es) e.0) (greatest_among es)) k)
          (cond old (later_tag (greatest_among es) e.0) (greatest_among es))
      rest true true put = ap (λ g. later_tag g e.0) put ∙ later-swap (greatest_among es) k e.0
      rest true false put = ap (λ g. later_tag g e.0) put
      rest false true put = put
      rest false false put = put

-- what a row of a tag says after a request, of whether the tag is finalized
stays_final : (o : Option Row) (now : ℕ) → is_finalized (row_after_finalize o now).label ≡ true
stays_final o now = grind arith

brings_no_label : (o : Option Row) (p : Piece) (now : ℕ) → is_finalized (row_after_pre_write o p now).label ≡ is_final_row o
brings_no_label o p now = grind arith

module _ (b : Bank) (tag : Tag) (now : ℕ) where
  -- a tag that is finalized is the greatest, or the greatest stays
  pub greatest-finalized : greatest_final (finalized b tag now) ≡ later_tag (greatest_final b) tag
  greatest-finalized =
      let row : Row = row_after_finalize (map.get b.rows tag) now in
      let final = stays_final (map.get b.rows tag) now in
      ap greatest_among (map.entries-insert tag_cmp_total b.rows tag row) ∙ greatest-put tag row (map.entries b.rows) (λ _. final)
      ∙ ap (λ c. cond c (later_tag (greatest_final b) tag) (greatest_final b)) final

  -- a tag that is pre-written changes no greatest
  pub greatest-pre_written : (p : Piece) → greatest_final (pre_written b tag p now) ≡ greatest_final b
  greatest-pre_written p =
      let row : Row = row_after_pre_write (map.get b.rows tag) p now in
      let label = brings_no_label (map.get b.rows tag) p now ∙ ap is_final_row (map.get-entries b.rows tag) in
      ap greatest_among (map.entries-insert tag_cmp_total b.rows tag row)
      ∙ greatest-put tag row (map.entries b.rows) (λ final. label ∙ final)
      ∙ known (is_finalized row.label) (λ final. later-known (map.entries b.rows) tag (sym label ∙ final))
    where
      known : (c : Bool) → (c ≡ true → later_tag (greatest_final b) tag ≡ greatest_final b)
          → cond c (later_tag (greatest_final b) tag) (greatest_final b) ≡ greatest_final b
      known true is = is refl
      known false is = refl

-- what is dropped changes no greatest
pub greatest-collected : (b : Bank) → greatest_final (collected b) ≡ greatest_final b
greatest-collected b = ap greatest_among (entries-collected b) ∙ kept (map.entries b.rows)
  where
    label : (e : Tag × Row) → is_finalized (kept_entry b e).1.label ≡ is_finalized e.1.label
    label e = grind arith

    kept : (es : Rows) → greatest_among (map (kept_entry b) es) ≡ greatest_among es
    kept [] = refl
    kept (e ∷ es) =
        ap (λ c. cond c (later_tag (greatest_among (map (kept_entry b) es)) e.0) (greatest_among (map (kept_entry b) es))) (label e)
        ∙ ap (λ g. cond (is_finalized e.1.label) (later_tag g e.0) g) (kept es)
