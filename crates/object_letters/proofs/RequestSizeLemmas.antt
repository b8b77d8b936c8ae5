-- How many requests lead to a bank, and how many bytes they bring.
use Rattle.std.proofs.Common.{◌≡◌, ◌+◌, ◌*◌, ◌≤◌}
use Rattle.std.proofs.Common.{List, [], ◌∷◌, length, sum_by}
use Rattle.std.proofs.Common.{arith, length-append}
use Rattle.std.specs.FinMap as map
use Rattle.std.proofs.lemmas.List.Sums.{sum_by-append, sum_by-cons}
use Rattle.tag.specs.declared.tag.Tag.{Tag}
use Rattle.bank.specs.declared.row.Row.{Row}
use Rattle.bank.specs.declared.status.Pointer.{Pointer}
use Rattle.bank.specs.Bank.{Bank}
use Rattle.bank.specs.Bytes.{row_bytes, entry_bytes, bank_bytes}
use Rattle.object_letters.specs.Requests.{pointer_requests, row_requests}
use Rattle.object_letters.specs.Requests.{rows_requests, requests_to, brought_bytes}

-- Bytes

row_size : (tag : Tag) (r : Row) → sum_by brought_bytes (row_requests tag r) ≤ row_bytes r
row_size tag r = grind arith

rows_size : (es : List (Tag × Row)) → sum_by brought_bytes (rows_requests es) ≤ sum_by entry_bytes es
rows_size [] = omega arith
rows_size (e ∷ es) =
    let both = sum_by-append brought_bytes (row_requests e.0 e.1) (rows_requests es) in
    let first = row_size e.0 e.1 in
    let others = rows_size es in
    let all = sum_by-cons entry_bytes e es in
    omega arith

pointer_size : (p : Pointer) → sum_by brought_bytes (pointer_requests p) ≡ 0
pointer_size p = grind arith

-- the requests bring no more bytes than the bank has
pub requests_size : (b : Bank) → sum_by brought_bytes (requests_to b) ≤ bank_bytes b
requests_size b = grind (arith, pointer_size, rows_size, sum_by-append)

-- Their number

row_count : (tag : Tag) (r : Row) → length (row_requests tag r) ≤ 2
row_count tag r = grind arith

rows_count : (es : List (Tag × Row)) → length (rows_requests es) ≤ 2 * length es
rows_count [] = omega arith
rows_count (e ∷ es) =
    let both = length-append (row_requests e.0 e.1) (rows_requests es) in
    let first = row_count e.0 e.1 in
    let others = rows_count es in
    omega arith

pointer_count : (p : Pointer) → length (pointer_requests p) ≤ 1
pointer_count p = grind arith

-- there are at most two for each tag, and one for the pointer
pub requests_count : (b : Bank) → length (requests_to b) ≤ 2 * map.len b.rows + 1
requests_count b = grind (arith, length-append, map.len-entries, pointer_count, rows_count)
