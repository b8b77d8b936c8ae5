-- What the requests of a row make of the rows of a bank, before any piece is dropped.
use Rattle.std.proofs.Common.{◌≡◌, Bool, true, false, cond, [], ◌∷◌, Option, Some, None, sym, ap, ◌∙◌}
use Rattle.std.proofs.Common.{refl, arith}
use Rattle.std.specs.FinMap as map
use Rattle.std.specs.FinMap.Entries.{below_all}
use Rattle.std.specs.Ordering.{is_lt}
use Rattle.std.proofs.lemmas.Bool.{and_parts}
use Rattle.std.proofs.lemmas.Bool.Decides.{nat_tests}
use Rattle.tag.specs.declared.tag.Tag.{Tag}
use Rattle.tag.specs.Tag.{tag_cmp, tag_eq, tag_lt, opening_tag}
use Rattle.tag.proofs.TagOrderLemmas.{eq_by_cmp-tag, tag_eq-true}
use Rattle.bank.specs.declared.row.Arrival.{Arrival}
use Rattle.bank.specs.declared.row.Label.{Label}
use Rattle.bank.specs.declared.row.Label.TheVariants.{PreWritten, Finalized}
use Rattle.bank.specs.declared.row.Row.{Row}
use Rattle.bank.specs.Bank.{Bank, with_rows, row_after_pre_write, row_after_finalize}
use Rattle.bank.proofs.EntryOrderLemmas.{Rows, is_lt-tag}
use Rattle.bank.proofs.RowChangeLemmas.{Table, with_row, get-with_row}
use Rattle.object_letters.specs.Requests.{piece_or_empty, row_requests, rows_requests}
use Rattle.object_letters.proofs.LateDroppingLemmas.{uncollected_after, uncollected_append}

-- the row of a tag after the request for its label
abbrev pub labelled : Label → Option Row → Option Row
labelled (PreWritten since) o = o
labelled (Finalized since) o = Some (row_after_finalize o 0)

-- the row of a tag after the request for its arrival
abbrev pub brought : Option Arrival → Option Row → Option Row
brought None o = o
brought (Some a) o = Some (row_after_pre_write o (piece_or_empty a.piece) 0)

-- the row of a tag after the requests for it
abbrev pub restored : Tag → Row → Option Row → Option Row
restored tag r o = cond (tag_eq tag opening_tag) o (brought r.arrival (labelled r.label o))

-- the same, where the tag may be missing among those for which there are requests
abbrev pub restored_if : Tag → Option Row → Option Row → Option Row
restored_if tag None o = o
restored_if tag (Some r) o = restored tag r o

-- the rows of a bank after the requests for one tag, and for all of them
abbrev pub label_rows : Table → Tag → Label → Table
label_rows rows tag (PreWritten since) = rows
label_rows rows tag (Finalized since) = with_row rows tag (λ o. row_after_finalize o 0)

abbrev pub arrival_rows : Table → Tag → Option Arrival → Table
arrival_rows rows tag None = rows
arrival_rows rows tag (Some a) = with_row rows tag (λ o. row_after_pre_write o (piece_or_empty a.piece) 0)

abbrev pub row_rows : Table → Tag → Row → Table
row_rows rows tag r = cond (tag_eq tag opening_tag) rows (arrival_rows (label_rows rows tag r.label) tag r.arrival)

abbrev pub entry_rows : Table → Rows → Table
entry_rows rows [] = rows
entry_rows rows (e ∷ es) = entry_rows (row_rows rows e.0 e.1) es

row_led : (u : Bank) (tag : Tag) (r : Row) → uncollected_after u (row_requests tag r) ≡ with_rows u (row_rows u.rows tag r)
row_led u tag r = grind arith

-- the requests for the rows change nothing but the rows
pub rows_led : (u : Bank) (es : Rows) → uncollected_after u (rows_requests es) ≡ with_rows u (entry_rows u.rows es)
rows_led u [] = refl
rows_led u (e ∷ es) =
    uncollected_append u (row_requests e.0 e.1) (rows_requests es)
    ∙ ap (λ b. uncollected_after b (rows_requests es)) (row_led u e.0 e.1)
    ∙ rows_led (with_rows u (row_rows u.rows e.0 e.1)) es

-- What each tag has then

stays : (c : Bool) (t tag : Tag) (rows : Table) → tag_eq t tag ≡ c → map.get rows t ≡ cond c (map.get rows tag) (map.get rows t)
stays c t tag rows is = grind arith

get-label_rows : (rows : Table) (tag : Tag) (l : Label) (t : Tag)
    → map.get (label_rows rows tag l) t ≡ cond (tag_eq t tag) (labelled l (map.get rows tag)) (map.get rows t)
get-label_rows rows tag (PreWritten since) t = stays (tag_eq t tag) t tag rows refl
get-label_rows rows tag (Finalized since) t = get-with_row rows tag (λ o. row_after_finalize o 0) t

get-arrival_rows : (rows : Table) (tag : Tag) (a : Option Arrival) (t : Tag)
    → map.get (arrival_rows rows tag a) t ≡ cond (tag_eq t tag) (brought a (map.get rows tag)) (map.get rows t)
get-arrival_rows rows tag None t = stays (tag_eq t tag) t tag rows refl
get-arrival_rows rows tag (Some a) t = get-with_row rows tag (λ o. row_after_pre_write o (piece_or_empty a.piece) 0) t

get-both : (rows : Table) (tag : Tag) (r : Row) (t : Tag)
    → map.get (arrival_rows (label_rows rows tag r.label) tag r.arrival) t
    ≡ cond (tag_eq t tag) (brought r.arrival (labelled r.label (map.get rows tag))) (map.get rows t)
get-both rows tag r t = grind (arith, brought, get-arrival_rows, get-label_rows, label_rows, labelled, tag_eq-true)

get-row_rows : (rows : Table) (tag : Tag) (r : Row) (t : Tag)
    → map.get (row_rows rows tag r) t ≡ cond (tag_eq t tag) (restored tag r (map.get rows tag)) (map.get rows t)
get-row_rows rows tag r t = grind (arith, arrival_rows, brought, get-both, label_rows, labelled, stays)

apart : (s t : Tag) → tag_lt s t ≡ true → tag_eq s t ≡ false
apart s t less = grind (arith, nat_tests)

-- a tag below all entries is not among them
find-absent : (t : Tag) (es : Rows) → below_all tag_cmp t es ≡ true → map.find tag_cmp t es ≡ None
find-absent t [] below = refl
find-absent t (e ∷ es) below =
    let parts = and_parts (is_lt (tag_cmp t e.0)) (below_all tag_cmp t es) below in
    ap (λ c. cond c (Some e.1) (map.find tag_cmp t es)) (eq_by_cmp-tag t e.0 ∙ apart t e.0 (sym (is_lt-tag t e.0) ∙ parts.0))
    ∙ find-absent t es parts.1

-- each tag has what the requests for its own row make of it
pub get-entry_rows : (rows : Table) (es : Rows) (t : Tag) → map.is_sorted tag_cmp es ≡ true
    → map.get (entry_rows rows es) t ≡ restored_if t (map.find tag_cmp t es) (map.get rows t)
get-entry_rows rows [] t sorted = refl
get-entry_rows rows (e ∷ es) t sorted =
    let parts = and_parts (below_all tag_cmp e.0 es) (map.is_sorted tag_cmp es) sorted in
    get-entry_rows (row_rows rows e.0 e.1) es t parts.1
    ∙ ap (restored_if t (map.find tag_cmp t es)) (get-row_rows rows e.0 e.1 t)
    ∙ elim (tag_eq t e.0) as (λ c. tag_eq t e.0 ≡ c
    → restored_if t (map.find tag_cmp t es) (cond c (restored e.0 e.1 (map.get rows e.0)) (map.get rows t))
    ≡ restored_if t (cond c (Some e.1) (map.find tag_cmp t es)) (map.get rows t)) [
      | true ↦ λ is. ap (λ o. restored_if t o (restored e.0 e.1 (map.get rows e.0)))
          (ap (λ s. map.find tag_cmp s es) (tag_eq-true t e.0 is) ∙ find-absent e.0 es parts.0)
          ∙ ap (λ s. restored s e.1 (map.get rows s)) (sym (tag_eq-true t e.0 is))
      | false ↦ λ _. refl
    ] refl
    ∙ ap (λ c. restored_if t (cond c (Some e.1) (map.find tag_cmp t es)) (map.get rows t)) (sym (eq_by_cmp-tag t e.0))
