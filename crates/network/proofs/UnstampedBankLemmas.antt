-- A bank without stamps serves and answers as the bank does.
use Rattle.std.proofs.Common.{◌≡◌, ℕ, ◌+◌, Bool, cond, ◌&&◌, [], ◌∷◌, map, Option, Some, None, is_some, option_map}
use Rattle.std.proofs.Common.{refl, sym, ap, ◌∙◌, arith}
use Rattle.std.specs.FinMap as map
use Rattle.tag.specs.declared.tag.Tag.{Tag}
use Rattle.tag.specs.Tag.{tag_cmp, tag_lt, later_tag}
use Rattle.piece.specs.declared.piece.Piece.{Piece}
use Rattle.bank.specs.declared.request.Request.{Request}
use Rattle.bank.specs.declared.request.Request.TheVariants as request
use Rattle.bank.specs.declared.row.Arrival.{Arrival}
use Rattle.bank.specs.declared.row.Label.{Label}
use Rattle.bank.specs.declared.row.Label.TheVariants.{PreWritten, Finalized}
use Rattle.bank.specs.declared.row.Row.{Row}
use Rattle.bank.specs.declared.status.Pointer.{Pointer}
use Rattle.bank.specs.declared.status.Pointer.TheVariants as pointer
use Rattle.bank.specs.declared.status.Status.{Status}
use Rattle.bank.specs.declared.status.Status.TheVariants as status
use Rattle.bank.specs.Bank.{Bank, pre_written, finalized, row_after_pre_write, row_after_finalize}
use Rattle.bank.specs.Bank.{piece_of, piece_of_row, piece_that_came}
use Rattle.bank.specs.Collect.{collected, emptied_row, kept_entry, fetched_piece}
use Rattle.bank.specs.Knowledge.{row_finalized, is_finalized, count_above, finals_above, is_dropped}
use Rattle.bank.specs.Pointer.{raised, status_of}
use Rattle.bank.specs.Serve.{served_bank, answer_to, greatest_among}
use Rattle.bank.proofs.CollectedBankLemmas.{entries-collected}
use Rattle.bank.proofs.EntryOrderLemmas.{Rows}
use Rattle.network.specs.Unstamped.{unstamped, unstamped_arrival, unstamped_bank, unstamped_entry, unstamped_label, unstamped_pointer}
use Rattle.network.specs.Unstamped.{unstamped_row}
use Rattle.network.proofs.UnstampedRowLemmas.{bare, entries-bare, get-bare, insert-bare}

-- What is dropped

final-bare : (l : Label) → is_finalized (unstamped_label l) ≡ is_finalized l
final-bare (PreWritten since) = refl
final-bare (Finalized since) = refl

came-bare : (o : Option ℕ) → is_some (unstamped o) ≡ is_some o
came-bare None = refl
came-bare (Some step) = refl

row_final-bare : (o : Option Row) → is_some (row_finalized (option_map unstamped_row o)) ≡ is_some (row_finalized o)
row_final-bare None = refl
row_final-bare (Some r) = final-bare r.label

count-bare : (tag : Tag) (es : Rows) → count_above is_finalized tag (map unstamped_entry es) ≡ count_above is_finalized tag es
count-bare tag [] = refl
count-bare tag (e ∷ es) =
    ap (λ b. cond (tag_lt tag e.0 && b) 1 0 + count_above is_finalized tag (map unstamped_entry es)) (final-bare e.1.label)
    ∙ ap (λ n. cond (tag_lt tag e.0 && is_finalized e.1.label) 1 0 + n) (count-bare tag es)

above-bare : (b : Bank) (tag : Tag) → finals_above (unstamped_bank b) tag ≡ finals_above b tag
above-bare b tag = ap (count_above is_finalized tag) (entries-bare b.rows) ∙ count-bare tag (map.entries b.rows)

dropped-bare : (b : Bank) (tag : Tag) → is_dropped (unstamped_bank b) tag ≡ is_dropped b tag
dropped-bare b tag = grind (arith, above-bare, came-bare, get-bare, row_final-bare)

rest-bare : (drops : Bool) (r : Row) →
    unstamped_row (cond drops (emptied_row r) r) ≡ cond drops (emptied_row (unstamped_row r)) (unstamped_row r)
rest-bare drops r = grind arith

kept-bare : (b : Bank) (es : Rows) →
    map unstamped_entry (map (kept_entry b) es) ≡ map (kept_entry (unstamped_bank b)) (map unstamped_entry es)
kept-bare b [] = refl
kept-bare b (e ∷ es) =
    let first : unstamped_entry (kept_entry b e) ≡ kept_entry (unstamped_bank b) (unstamped_entry e) =
    ap (λ r. let p : Tag × Row = (e.0, r) in p)
    (rest-bare (is_dropped b e.0) e.1
    ∙ ap (λ d. cond d (emptied_row (unstamped_row e.1)) (unstamped_row e.1)) (sym (dropped-bare b e.0))) in
    ap (λ x. x ∷ map unstamped_entry (map (kept_entry b) es)) first
    ∙ ap (λ l. kept_entry (unstamped_bank b) (unstamped_entry e) ∷ l) (kept-bare b es)

-- a bank without stamps, with other rows
abbrev bare_with : Bank → map.FinMap tag_cmp Row → Bank
bare_with b rows = record { rows = rows; pointer = unstamped_pointer b.pointer; delta = b.delta; retired = unstamped b.retired }

pub collected-bare : (b : Bank) → unstamped_bank (collected b) ≡ collected (unstamped_bank b)
collected-bare b = grind (arith, bare, bare_with, entries-bare, entries-collected, kept-bare)

-- Requests

pub raised-bare : (p : Pointer) (s : Status) (now : ℕ) → unstamped_pointer (raised p s now) ≡ raised (unstamped_pointer p) s 0
raised-bare p s now = grind arith

after_pre_write-bare : (o : Option Row) (p : Piece) (now : ℕ) →
    unstamped_row (row_after_pre_write o p now) ≡ row_after_pre_write (option_map unstamped_row o) p 0
after_pre_write-bare o p now = grind arith

after_finalize-bare : (o : Option Row) (now : ℕ) →
    unstamped_row (row_after_finalize o now) ≡ row_after_finalize (option_map unstamped_row o) 0
after_finalize-bare o now = grind arith

pre_written-bare : (b : Bank) (tag : Tag) (p : Piece) (now : ℕ) →
    unstamped_bank (pre_written b tag p now) ≡ pre_written (unstamped_bank b) tag p 0
pre_written-bare b tag p now = grind (arith, after_pre_write-bare, bare, bare_with, get-bare, insert-bare)

finalized-bare : (b : Bank) (tag : Tag) (now : ℕ) → unstamped_bank (finalized b tag now) ≡ finalized (unstamped_bank b) tag 0
finalized-bare b tag now = grind (arith, after_finalize-bare, bare, bare_with, get-bare, insert-bare)

-- the bank after a request, without stamps
pub served-bare : (b : Bank) (q : Request) (now : ℕ) → unstamped_bank (served_bank b q now) ≡ served_bank (unstamped_bank b) q 0
served-bare b (request.Spread status) now =
    ap (λ p. let o : Bank = record { rows = bare b.rows; pointer = p; delta = b.delta; retired = unstamped b.retired } in o)
    (raised-bare b.pointer status now)
served-bare b (request.PreWrite tag piece) now =
    collected-bare (pre_written b tag piece now) ∙ ap collected (pre_written-bare b tag piece now)
served-bare b (request.Finalize tag) now = collected-bare (finalized b tag now) ∙ ap collected (finalized-bare b tag now)
served-bare b (request.Fetch tag) now = collected-bare (finalized b tag now) ∙ ap collected (finalized-bare b tag now)
served-bare b _ now = refl

-- Answers

status-bare : (p : Pointer) → status_of (unstamped_pointer p) ≡ status_of p
status-bare pointer.Unset = refl
status-bare _ = refl

greatest-bare : (es : Rows) → greatest_among (map unstamped_entry es) ≡ greatest_among es
greatest-bare [] = refl
greatest-bare (e ∷ es) =
    ap (λ f. cond f (later_tag (greatest_among (map unstamped_entry es)) e.0) (greatest_among (map unstamped_entry es)))
    (final-bare e.1.label)
    ∙ ap (λ g. cond (is_finalized e.1.label) (later_tag g e.0) g) (greatest-bare es)

came_piece-bare : (a : Option Arrival) → piece_that_came (option_map unstamped_arrival a) ≡ piece_that_came a
came_piece-bare None = refl
came_piece-bare (Some a) = refl

row_piece-bare : (o : Option Row) → piece_of_row (option_map unstamped_row o) ≡ piece_of_row o
row_piece-bare None = refl
row_piece-bare (Some r) = came_piece-bare r.arrival

pub piece_of-bare : (b : Bank) (tag : Tag) → piece_of (unstamped_bank b) tag ≡ piece_of b tag
piece_of-bare b tag = ap piece_of_row (get-bare b.rows tag) ∙ row_piece-bare (map.get b.rows tag)

fetched-bare : (b : Bank) (tag : Tag) → fetched_piece (unstamped_bank b) tag ≡ fetched_piece b tag
fetched-bare b tag = grind (arith, above-bare, came-bare, piece_of-bare)

-- the answer of a bank does not depend on stamps
pub answer-bare : (b : Bank) (q : Request) → answer_to (unstamped_bank b) q ≡ answer_to b q
answer-bare b q = grind (arith, entries-bare, fetched-bare, greatest-bare, status-bare)
