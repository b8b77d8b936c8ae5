-- The rows of banks that serve, as lists of entries, which compute.
use Rattle.std.proofs.Common.{◌≡◌, ℕ, cond, ◌&&◌, ◌||◌, List, [], ◌∷◌, map, length, Option, None, is_some, refl, sym, ap, ◌∙◌, arith}
use Rattle.std.specs.FinMap as finmap
use Rattle.tag.specs.declared.tag.Tag.{Tag}
use Rattle.tag.specs.Tag.{tag_cmp, opening_tag}
use Rattle.tag.proofs.TagOrderLemmas.{tag_cmp_total}
use Rattle.piece.specs.declared.piece.Piece.{Piece}
use Rattle.bank.specs.declared.row.Row.{Row}
use Rattle.bank.specs.Bank.{Bank, opened_bank, opening_row, pre_written, finalized, row_after_pre_write, row_after_finalize, piece_of_row}
use Rattle.bank.specs.Collect.{emptied_row, kept_entry, collected, fetched_piece}
use Rattle.bank.specs.Knowledge.{finalized_at, row_finalized, is_finalized, count_above, exceeds}
use Rattle.bank.specs.Serve.{greatest_among, greatest_final}
use Rattle.bank.proofs.CollectedBankLemmas.{entries-collected}
use Rattle.bank.proofs.EntryOrderLemmas.{Rows}

no_entries : {A : Type 0} (xs : List A) → length xs ≡ 0 → xs ≡ []
no_entries [] none = refl
no_entries (x ∷ xs) none = absurd (omega arith)

pub entries-empty : finmap.entries (finmap.empty {X = Row} {R = tag_cmp}) ≡ []
entries-empty = no_entries (finmap.entries (finmap.empty {X = Row} {R = tag_cmp}))
    (sym (finmap.len-entries (finmap.empty {X = Row} {R = tag_cmp})) ∙ finmap.len-empty tag_cmp Row)

-- an opened bank has the row of the opening tag
pub opened_entries : (point : ℕ) (delta : Option ℕ) (now : ℕ) →
    finmap.entries (opened_bank point delta now).rows ≡ (opening_tag, opening_row point now) ∷ []
opened_entries point delta now =
    finmap.entries-insert tag_cmp_total (finmap.empty {X = Row} {R = tag_cmp}) opening_tag (opening_row point now)
    ∙ ap (finmap.put tag_cmp opening_tag (opening_row point now)) entries-empty

-- what is kept of an entry among these
abbrev pub kept_among : Option ℕ → Rows → Tag × Row → Tag × Row
kept_among delta es e = (
  e.0,
  cond (is_some (row_finalized (finmap.find tag_cmp e.0 es)) && exceeds delta (count_above is_finalized e.0 es)) (emptied_row e.1) e.1,
)

-- the rows that a bank without a retirement keeps
collected_entries : (bank : Bank) (es : Rows) → bank.retired ≡ None → finmap.entries bank.rows ≡ es →
    finmap.entries (collected bank).rows ≡ map (kept_among bank.delta es) es
collected_entries bank es none is =
    entries-collected bank ∙ ap (λ xs. map (kept_entry bank) xs) is ∙ each es
  where
    one : (e : Tag × Row) → kept_entry bank e ≡ kept_among bank.delta es e
    one e = ap (λ b. (e.0, cond b (emptied_row e.1) e.1))
        (ap (λ r. is_some r || (is_some (row_finalized (finmap.get bank.rows e.0))
        && exceeds bank.delta (count_above is_finalized e.0 (finmap.entries bank.rows)))) none
        ∙ (ap (λ o. is_some (row_finalized o) && exceeds bank.delta (count_above is_finalized e.0 (finmap.entries bank.rows)))
        (finmap.get-entries bank.rows e.0 ∙ ap (finmap.find tag_cmp e.0) is)
        ∙ ap (λ xs. is_some (row_finalized (finmap.find tag_cmp e.0 es)) && exceeds bank.delta (count_above is_finalized e.0 xs)) is))

    each : (xs : Rows) → map (kept_entry bank) xs ≡ map (kept_among bank.delta es) xs
    each [] = refl
    each (x ∷ xs) = ap (λ y. y ∷ map (kept_entry bank) xs) (one x) ∙ ap (λ ys. kept_among bank.delta es x ∷ ys) (each xs)

-- what a bank keeps once it pre-wrote a tag
abbrev pub after_pre_write : Option ℕ → Rows → Tag → Piece → ℕ → Rows
after_pre_write delta es tag piece now =
    let fs = finmap.put tag_cmp tag (row_after_pre_write (finmap.find tag_cmp tag es) piece now) es in
    map (kept_among delta fs) fs

pub pre_written_entries : (bank : Bank) (es : Rows) (tag : Tag) (piece : Piece) (now : ℕ) → bank.retired ≡ None →
    finmap.entries bank.rows ≡ es →
    finmap.entries (collected (pre_written bank tag piece now)).rows ≡ after_pre_write bank.delta es tag piece now
pre_written_entries bank es tag piece now none is =
    collected_entries (pre_written bank tag piece now)
    (finmap.put tag_cmp tag (row_after_pre_write (finmap.find tag_cmp tag es) piece now) es) none
    (finmap.entries-insert tag_cmp_total bank.rows tag (row_after_pre_write (finmap.get bank.rows tag) piece now)
    ∙ (ap (λ o. finmap.put tag_cmp tag (row_after_pre_write o piece now) (finmap.entries bank.rows))
    (finmap.get-entries bank.rows tag ∙ ap (finmap.find tag_cmp tag) is)
    ∙ ap (finmap.put tag_cmp tag (row_after_pre_write (finmap.find tag_cmp tag es) piece now)) is))

-- and once it finalized one
abbrev pub after_finalize : Option ℕ → Rows → Tag → ℕ → Rows
after_finalize delta es tag now =
    let fs = finmap.put tag_cmp tag (row_after_finalize (finmap.find tag_cmp tag es) now) es in
    map (kept_among delta fs) fs

pub finalized_entries : (bank : Bank) (es : Rows) (tag : Tag) (now : ℕ) → bank.retired ≡ None →
    finmap.entries bank.rows ≡ es →
    finmap.entries (collected (finalized bank tag now)).rows ≡ after_finalize bank.delta es tag now
finalized_entries bank es tag now none is =
    collected_entries (finalized bank tag now)
    (finmap.put tag_cmp tag (row_after_finalize (finmap.find tag_cmp tag es) now) es) none
    (finmap.entries-insert tag_cmp_total bank.rows tag (row_after_finalize (finmap.get bank.rows tag) now)
    ∙ (ap (λ o. finmap.put tag_cmp tag (row_after_finalize o now) (finmap.entries bank.rows))
    (finmap.get-entries bank.rows tag ∙ ap (finmap.find tag_cmp tag) is)
    ∙ ap (finmap.put tag_cmp tag (row_after_finalize (finmap.find tag_cmp tag es) now)) is))

-- what a bank answers from its entries

pub greatest_from : (bank : Bank) (es : Rows) → finmap.entries bank.rows ≡ es → greatest_final bank ≡ greatest_among es
greatest_from bank es is = ap greatest_among is

pub fetched_from : (bank : Bank) (es : Rows) (tag : Tag) → bank.retired ≡ None → finmap.entries bank.rows ≡ es →
    fetched_piece bank tag
    ≡ cond (exceeds bank.delta (count_above is_finalized tag es)) None (piece_of_row (finmap.find tag_cmp tag es))
fetched_from bank es tag none is =
    ap (λ r. cond (is_some r || exceeds bank.delta (count_above is_finalized tag (finmap.entries bank.rows))) None
    (piece_of_row (finmap.get bank.rows tag))) none
    ∙ (ap (λ xs. cond (exceeds bank.delta (count_above is_finalized tag xs)) None (piece_of_row (finmap.get bank.rows tag))) is
    ∙ ap (λ o. cond (exceeds bank.delta (count_above is_finalized tag es)) None (piece_of_row o))
    (finmap.get-entries bank.rows tag ∙ ap (finmap.find tag_cmp tag) is))

pub finalized_from : (bank : Bank) (es : Rows) (tag : Tag) → finmap.entries bank.rows ≡ es →
    finalized_at bank tag ≡ row_finalized (finmap.find tag_cmp tag es)
finalized_from bank es tag is = ap row_finalized (finmap.get-entries bank.rows tag ∙ ap (finmap.find tag_cmp tag) is)
