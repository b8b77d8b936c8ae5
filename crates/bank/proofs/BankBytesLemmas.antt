-- How a request changes the bytes of a bank.
use Rattle.std.proofs.Common.{◌≡◌, ℕ, ◌+◌, Bool, ◌∷◌, [], length, map, true, false, cond, Option, Some, is_some, sum_by}
use Rattle.std.proofs.Common.{sym}
use Rattle.std.proofs.Common.{ap, ◌∙◌, refl, arith}
use Rattle.std.specs.FinMap as map
use Rattle.std.specs.FinMap.Entries.{below_all, by_order}
use Rattle.std.specs.declared.cmp.Ordering.TheVariants.{Less, Equal, Greater}
use Rattle.std.specs.Ordering.{is_eq}
use Rattle.std.proofs.lemmas.Bool.{and_parts}
use Rattle.std.proofs.lemmas.List.Sums.{sum_by-cons}
use Rattle.tag.specs.declared.tag.Tag.{Tag}
use Rattle.tag.specs.Tag.{tag_cmp, opening_tag}
use Rattle.tag.proofs.TagOrderLemmas.{tag_cmp_total}
use Rattle.piece.specs.declared.piece.Piece.{Piece}
use Rattle.bank.specs.declared.row.Row.{Row}
use Rattle.bank.specs.declared.row.Arrival.{Arrival}
use Rattle.bank.specs.declared.request.Request.{Request}
use Rattle.bank.specs.declared.request.Request.TheVariants as request
use Rattle.bank.specs.Bank.{Bank, opening_row, opened_bank, row_after_pre_write, row_after_finalize, pre_written, finalized}
use Rattle.bank.specs.Bytes.{arrival_bytes, row_bytes, row_piece_bytes, entry_bytes, bank_bytes, added_bytes}
use Rattle.bank.specs.Collect.{emptied_arrival, emptied_row, kept_entry, collected, dropped_bytes}
use Rattle.bank.specs.Knowledge.{row_arrived, is_dropped}
use Rattle.bank.specs.Serve.{served_bank, freed_bytes}
use Rattle.bank.proofs.CollectedBankLemmas.{entries-collected}
use Rattle.bank.proofs.EntryOrderLemmas.{Rows, t_true, find-below, less_than}
use Rattle.bank.proofs.RowChangeLemmas.{with_row}

-- the bytes of the rows are those of the entries
pub rows_bytes : (es : Rows) → sum_by row_bytes (map (λ e. e.1) es) ≡ sum_by entry_bytes es
rows_bytes [] = refl
rows_bytes (e ∷ es) =
    let rest =
    rows_bytes es in omega (arith, sum_by-cons row_bytes e.1 (map (λ (e : Tag × Row). e.1) es), sum_by-cons entry_bytes e es, rest)

-- the bytes after a new value comes in the place of an old one
put_bytes : (k : Tag) (v : Row) (es : Rows) → map.is_sorted tag_cmp es ≡ true
    → sum_by entry_bytes (map.put tag_cmp k v es) + row_piece_bytes (map.find tag_cmp k es) ≡ row_bytes v + sum_by entry_bytes es
put_bytes k v [] sorted = omega (arith, sum_by-cons entry_bytes (k, v) [])
put_bytes k v (e ∷ es) sorted =
    elim (tag_cmp k e.0) as (λ o. tag_cmp k e.0 ≡ o → sum_by entry_bytes
    (by_order o ((k, v) ∷ e ∷ es) ((e.0, v) ∷ es) (e ∷ map.put tag_cmp k v es)) + row_piece_bytes
    (cond (is_eq o) (Some e.1) (map.find tag_cmp k es)) ≡ row_bytes v + sum_by entry_bytes (e ∷ es)) [
      | Less ↦ λ is.
          let none : row_piece_bytes (map.find tag_cmp k es) ≡ 0 =
          ap row_piece_bytes (find-below k e.0 es (less_than k e.0 is).1 parts.0) in
          omega (arith, sum_by-cons entry_bytes (k, v) (e ∷ es), none)
      | Equal ↦ λ is. omega (arith, sum_by-cons entry_bytes (e.0, v) es, sum_by-cons entry_bytes e es)
      | Greater ↦ λ is.
          omega (arith, sum_by-cons entry_bytes e (map.put tag_cmp k v es), sum_by-cons entry_bytes e es, put_bytes k v es parts.1)
    ] refl
  where
    parts : (below_all tag_cmp e.0 es ≡ true) × (map.is_sorted tag_cmp es ≡ true)
    parts = and_parts (below_all tag_cmp e.0 es) (map.is_sorted tag_cmp es) sorted

-- the bytes after an insert
pub insert_bytes : (rows : map.FinMap tag_cmp Row) (k : Tag) (v : Row)
    → sum_by entry_bytes (map.entries (map.insert rows k v)) + row_piece_bytes (map.get rows k)
    ≡ row_bytes v + sum_by entry_bytes (map.entries rows)
insert_bytes rows k v =
    let entries = ap (sum_by entry_bytes) (map.entries-insert tag_cmp_total rows k v) in
    let found = ap row_piece_bytes (map.get-entries rows k) in
    let put = put_bytes k v (map.entries rows) (t_true (map.is_sorted tag_cmp (map.entries rows)) (map.entries_sorted rows)) in
    omega (arith, entries, found, put)

-- the bytes after the row of a tag changes
with_row_bytes : (b : Bank) (tag : Tag) (f : Option Row → Row) (more : ℕ)
    → row_bytes (f (map.get b.rows tag)) ≡ row_piece_bytes (map.get b.rows tag) + more
    → sum_by entry_bytes (map.entries (with_row b.rows tag f)) ≡ bank_bytes b + more
with_row_bytes b tag f more is = let all = insert_bytes b.rows tag (f (map.get b.rows tag)) in omega (arith, all, is)

pre_write_bytes : (o : Option Row) (p : Piece) (now : ℕ)
    → row_bytes (row_after_pre_write o p now) ≡ row_piece_bytes o + (cond (is_some (row_arrived o)) 0 (length p.bytes))
pre_write_bytes o p now = grind arith

finalize_bytes : (o : Option Row) (now : ℕ) → row_bytes (row_after_finalize o now) ≡ row_piece_bytes o + 0
finalize_bytes o now = grind arith

-- a request to pre-write adds the bytes of a piece that it brings, one to finalize adds none
pub pre_written_bytes : (b : Bank) (tag : Tag) (p : Piece) (now : ℕ)
    → bank_bytes (pre_written b tag p now) ≡ bank_bytes b + added_bytes b (request.PreWrite tag p)
pre_written_bytes b tag p now =
    with_row_bytes b tag (λ o. row_after_pre_write o p now) (added_bytes b (request.PreWrite tag p))
    (pre_write_bytes (map.get b.rows tag) p now)

pub finalized_bytes : (b : Bank) (tag : Tag) (now : ℕ) → bank_bytes (finalized b tag now) ≡ bank_bytes b + 0
finalized_bytes b tag now = with_row_bytes b tag (λ o. row_after_finalize o now) 0 (finalize_bytes (map.get b.rows tag) now)

-- what is dropped takes off its bytes
pub emptied_bytes : (a : Option Arrival) → arrival_bytes (emptied_arrival a) ≡ 0
emptied_bytes a = grind arith

kept_bytes : (u : Bank) (es : Rows) → sum_by entry_bytes (map (kept_entry u) es)
    + sum_by (λ (e : Tag × Row). cond (is_dropped u e.0) (entry_bytes e) 0) es ≡ sum_by entry_bytes es
kept_bytes u [] = refl
kept_bytes u (e ∷ es) =
    let rest = kept_bytes u es in
    let here = either (is_dropped u e.0) in
    omega (
      arith,
      rest,
      here,
      sum_by-cons entry_bytes (kept_entry u e) (map (kept_entry u) es),
      sum_by-cons (λ (e : Tag × Row). cond (is_dropped u e.0) (entry_bytes e) 0) e es,
      sum_by-cons entry_bytes e es,
    )
  where
    either : (d : Bool) → row_bytes (cond d (emptied_row e.1) e.1) + cond d (entry_bytes e) 0 ≡ entry_bytes e
    either true = let none = emptied_bytes e.1.arrival in omega (arith, none)
    either false = omega arith

pub collected_bytes : (u : Bank) → bank_bytes (collected u) + dropped_bytes u ≡ bank_bytes u
collected_bytes u = grind (arith, entries-collected, kept_bytes)

-- a request adds the bytes of a piece that it brings, and takes off those of the pieces that are no longer kept
pub served_bytes : (b : Bank) (q : Request) (now : ℕ)
    → bank_bytes (served_bank b q now) + freed_bytes b q now ≡ bank_bytes b + added_bytes b q
served_bytes b request.Next now = omega arith
served_bytes b (request.Spread s) now = omega arith
served_bytes b request.Query now = omega arith
served_bytes b (request.PreWrite tag p) now = collected_bytes (pre_written b tag p now) ∙ pre_written_bytes b tag p now
served_bytes b (request.Finalize tag) now = collected_bytes (finalized b tag now) ∙ finalized_bytes b tag now
served_bytes b (request.Fetch tag) now = collected_bytes (finalized b tag now) ∙ finalized_bytes b tag now

-- the fragment of the empty value has none
pub opened_bytes : (point : ℕ) (delta : Option ℕ) (now : ℕ) → bank_bytes (opened_bank point delta now) ≡ 0
opened_bytes point delta now =
    ap (sum_by entry_bytes) (map.entries-insert tag_cmp_total (map.empty {X = Row} {R = tag_cmp}) opening_tag
    (opening_row point now))
    ∙ first (map.entries (map.empty {X = Row} {R = tag_cmp})) (sym (map.len-entries (map.empty {X = Row} {R = tag_cmp}))
    ∙ map.len-empty tag_cmp Row)
  where
    first : (es : Rows) → length es ≡ 0 → sum_by entry_bytes
        (map.put tag_cmp opening_tag (opening_row point now) es) ≡ 0
    first [] none = refl
    first (e ∷ es) none = absurd (omega arith)
