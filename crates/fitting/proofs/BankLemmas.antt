-- A bank that serves fit requests stays fit, and its replies fit.
use Rattle.std.proofs.Common.{◌≡◌, ℕ, suc, ◌<◌, ◌≤◌, ◌^◌, Bool, true, false, cond, [], ◌∷◌, length, get_or, Option, Some, None, option_map}
use Rattle.std.proofs.Common.{refl, sym, subst, ◌∙◌, arith}
use Rattle.std.specs.FinMap as map
use Rattle.std.specs.List.{AllByRecursion}
use Rattle.std.specs.Prelude.{IfSome}
use Rattle.std.proofs.lemmas.Option.{none-some, same_Some}
use Rattle.bank.specs.Answer.{answer_bytes}
use Rattle.bank.specs.Bank.{Bank, opened_bank, opening_row, piece_of, piece_of_row, row_after_finalize, row_after_pre_write, filled_arrival}
use Rattle.bank.specs.Bank.{finalized, piece_that_came, pre_written}
use Rattle.bank.specs.Collect.{collected, emptied_arrival, emptied_row, fetched_piece, is_outside, kept_row}
use Rattle.bank.specs.Floor.{is_forgotten, remembered}
use Rattle.bank.specs.Knowledge.{is_dropped, is_finalized}
use Rattle.bank.specs.Serve.{answer_to, greatest_among, greatest_final, kind_of, served_bank}
use Rattle.bank.specs.declared.reply.Answer.{Answer}
use Rattle.bank.specs.declared.reply.Answer.TheVariants as answer
use Rattle.bank.specs.declared.request.Request.{Request}
use Rattle.bank.specs.declared.request.Request.TheVariants as request
use Rattle.bank.specs.declared.row.Arrival.{Arrival}
use Rattle.bank.specs.declared.row.Label.TheVariants.{PreWritten}
use Rattle.bank.specs.declared.row.Row.{Row}
use Rattle.bank.proofs.CollectedBankLemmas.{get-collected}
use Rattle.bank.proofs.EntryOrderLemmas.{Rows, find_sorted, t_true}
use Rattle.bank.proofs.ForgottenCountLemmas.{get-remembered}
use Rattle.bank.proofs.RowChangeLemmas.{Table, get-with_row, with_row}
use Rattle.frames.specs.declared.limits.TheConstants.{LONGEST_STRING}
use Rattle.local_object.specs.ChangedBanks.{bank_after}
use Rattle.mail.specs.Message.{request_bytes}
use Rattle.node_messages.specs.Message.{IsAnswer, IsRequest, IsTag, is_answer_to}
use Rattle.piece.specs.declared.piece.Piece.{Piece}
use Rattle.tag.specs.Tag.{later_tag, opening_tag, tag_cmp, tag_eq, tag_lt}
use Rattle.tag.specs.declared.tag.Tag.{Tag}
use Rattle.tag.proofs.TagOrderLemmas.{tag_eq-true}
use Rattle.fitting.specs.Letters.{IsFitPiece}
use Rattle.fitting.specs.Objects.{IsFitBank, IsFitRow}

pub opening_fit : IsTag opening_tag
opening_fit = (omega arith, omega arith)

pub later_fit : (s t : Tag) → IsTag s → IsTag t → IsTag (later_tag s t)
later_fit s t one other = go (tag_lt s t)
  where
    go : (b : Bool) → IsTag (cond b t s)
    go true = other
    go false = one

-- Rows

abbrev AreFitRows : Table → Type 0
AreFitRows rows = (tag : Tag) (row : Row) → map.get rows tag ≡ Some row → IsFitRow tag row

row_put : (rows : Table) (tag : Tag) (f : Option Row → Row) → AreFitRows rows → IsFitRow tag (f (map.get rows tag)) →
    AreFitRows (with_row rows tag f)
row_put rows tag f fit new other row e = go (tag_eq other tag) refl (sym (get-with_row rows tag f other) ∙ e)
  where
    go : (b : Bool) → tag_eq other tag ≡ b → cond b (Some (f (map.get rows tag))) (map.get rows other) ≡ Some row → IsFitRow other row
    go true t is =
        subst (IsFitRow other) (same_Some (f (map.get rows tag)) row is)
        (subst (λ (q : Tag). IsFitRow q (f (map.get rows tag))) (sym (tag_eq-true other tag t)) new)
    go false t is = fit other row is

empty_piece_fit : (point : ℕ) → point < 2 ^ 8 → IsFitRow opening_tag (opening_row point 0)
empty_piece_fit point small = record {
  numbers = opening_fit;
  piece = record { numbers = (small, omega arith); bytes = omega arith };
}

pub opened_fit : (point : ℕ) (delta : Option ℕ) → point < 2 ^ 8 → IsFitBank (opened_bank point delta 0)
opened_fit point delta small =
    row_put map.empty opening_tag (λ o. opening_row point 0)
    (λ tag row e. absurd (none-some row (sym (map.get-empty {X = Row} tag_cmp tag) ∙ e))) (empty_piece_fit point small)

pre_written_row : (tag : Tag) (piece : Piece) → IsTag tag → IsFitPiece piece → (o : Option Row) →
    ((row : Row) → o ≡ Some row → IsFitRow tag row) → IsFitRow tag (row_after_pre_write o piece 0)
pre_written_row tag piece small fits None rows = record { numbers = small; piece = fits }
pre_written_row tag piece small fits (Some row) rows =
    record { numbers = small; piece = filled row.arrival (rows row refl).piece }
  where
    filled : (o : Option Arrival) → IfSome (piece_that_came o) IsFitPiece →
        IfSome (piece_that_came (filled_arrival o piece 0)) IsFitPiece
    filled None old = fits
    filled (Some arrival) old = old

finalized_row_fit : (tag : Tag) → IsTag tag → (o : Option Row) → ((row : Row) → o ≡ Some row → IsFitRow tag row) →
    IsFitRow tag (row_after_finalize o 0)
finalized_row_fit tag small None rows = record { numbers = small; piece = tt }
finalized_row_fit tag small (Some row) rows = record { numbers = small; piece = (rows row refl).piece }

pre_written_fit : (bank : Bank) (tag : Tag) (piece : Piece) → IsFitBank bank → IsTag tag → IsFitPiece piece →
    IsFitBank (pre_written bank tag piece 0)
pre_written_fit bank tag piece fit small fits =
    row_put bank.rows tag (λ o. row_after_pre_write o piece 0) fit
    (pre_written_row tag piece small fits (map.get bank.rows tag) (λ row e. fit tag row e))

finalized_fit : (bank : Bank) (tag : Tag) → IsFitBank bank → IsTag tag → IsFitBank (finalized bank tag 0)
finalized_fit bank tag fit small =
    row_put bank.rows tag (λ o. row_after_finalize o 0) fit
    (finalized_row_fit tag small (map.get bank.rows tag) (λ row e. fit tag row e))

kept_row_fit : (bank : Bank) (tag : Tag) (row : Row) → IsFitRow tag row → IsFitRow tag (kept_row bank tag row)
kept_row_fit bank tag row fit = go (is_dropped bank tag)
  where
    none : (o : Option Arrival) → IfSome (piece_that_came (emptied_arrival o)) IsFitPiece
    none None = tt
    none (Some arrival) = tt

    go : (b : Bool) → IsFitRow tag (cond b (emptied_row row) row)
    go true = record { numbers = fit.numbers; piece = none row.arrival }
    go false = fit

collected_fit : (bank : Bank) → IsFitBank bank → IsFitBank (collected bank)
collected_fit bank fit tag row e = go (map.get bank.rows tag) refl (sym (get-collected bank tag) ∙ e)
  where
    go : (o : Option Row) → map.get bank.rows tag ≡ o → option_map (kept_row bank tag) o ≡ Some row → IsFitRow tag row
    go None at is = absurd (none-some row is)
    go (Some old) at is =
        subst (IsFitRow tag) (same_Some (kept_row bank tag old) row is) (kept_row_fit bank tag old (fit tag old at))

remembered_fit : (bank : Bank) → IsFitBank bank → IsFitBank (remembered bank)
remembered_fit bank fit tag row e = go (is_forgotten bank tag) (sym (get-remembered bank tag) ∙ e)
  where
    go : (b : Bool) → cond b None (map.get bank.rows tag) ≡ Some row → IsFitRow tag row
    go true is = absurd (none-some row is)
    go false is = fit tag row is

-- a request whose tag and piece fit
abbrev pub IsFitRequest : Request → Type 0
IsFitRequest asked = IsRequest asked × (request_bytes asked ≤ LONGEST_STRING)

served_fit : (bank : Bank) (asked : Request) → IsFitBank bank → IsFitRequest asked → IsFitBank (served_bank bank asked 0)
served_fit bank request.Next fit is = fit
served_fit bank (request.Spread said) fit is = fit
served_fit bank request.Query fit is = fit
served_fit bank (request.PreWrite tag piece) fit is =
    collected_fit (pre_written bank tag piece 0)
    (pre_written_fit bank tag piece fit is.0.0 (record { numbers = is.0.1; bytes = is.1 }))
served_fit bank (request.Finalize tag) fit is = collected_fit (finalized bank tag 0) (finalized_fit bank tag fit is.0)
served_fit bank (request.Fetch tag) fit is = collected_fit (finalized bank tag 0) (finalized_fit bank tag fit is.0)

-- the bank after it served a request, without what it may forget
pub after_fit : (bank : Bank) (asked : Request) → IsFitBank bank → IsFitRequest asked → IsFitBank (bank_after bank asked)
after_fit bank asked fit is = remembered_fit (served_bank bank asked 0) (served_fit bank asked fit is)

-- Answers

each_fit : (es : Rows) (d : Tag × Row) → ((k : ℕ) → k < length es → IsFitRow (get_or es k d).0 (get_or es k d).1) →
    AllByRecursion (λ (e : Tag × Row). IsFitRow e.0 e.1) es
each_fit [] d each = tt
each_fit (e ∷ es) d each = (each 0 (omega arith), each_fit es d (λ k within. each (suc k) (omega (arith, within))))

-- the rows of a fit bank
pub entries_fit : (bank : Bank) → IsFitBank bank → AllByRecursion (λ (e : Tag × Row). IsFitRow e.0 e.1) (map.entries bank.rows)
entries_fit bank fit =
    let es = map.entries bank.rows in
    let d : Tag × Row = (opening_tag, record { label = PreWritten 0; arrival = None }) in
    each_fit es d (λ k within. fit (get_or es k d).0 (get_or es k d).1
    (map.get-entries bank.rows (get_or es k d).0
    ∙ find_sorted es k d (t_true (map.is_sorted tag_cmp es) (map.entries_sorted bank.rows)) within))

among_fit : (es : Rows) → AllByRecursion (λ (e : Tag × Row). IsFitRow e.0 e.1) es → IsTag (greatest_among es)
among_fit [] each = opening_fit
among_fit (e ∷ es) each = go (is_finalized e.1.label) (among_fit es each.1)
  where
    go : (b : Bool) → IsTag (greatest_among es) → IsTag (cond b (later_tag (greatest_among es) e.0) (greatest_among es))
    go true rest = later_fit (greatest_among es) e.0 rest each.0.numbers
    go false rest = rest

pub greatest_fit : (bank : Bank) → IsFitBank bank → IsTag (greatest_final bank)
greatest_fit bank fit = among_fit (map.entries bank.rows) (entries_fit bank fit)

pub piece_fit : (bank : Bank) (tag : Tag) → IsFitBank bank → IfSome (piece_of bank tag) IsFitPiece
piece_fit bank tag fit = go (map.get bank.rows tag) refl
  where
    go : (o : Option Row) → map.get bank.rows tag ≡ o → IfSome (piece_of_row o) IsFitPiece
    go None e = tt
    go (Some row) e = (fit tag row e).piece

fetched_fit : (bank : Bank) (tag : Tag) → IsFitBank bank → IfSome (fetched_piece bank tag) IsFitPiece
fetched_fit bank tag fit = go (is_outside bank tag)
  where
    go : (b : Bool) → IfSome (cond b None (piece_of bank tag)) IsFitPiece
    go true = tt
    go false = piece_fit bank tag fit

-- an answer to a request fits: its numbers are within their bits, and its piece fits into a string
pub record IsFitAnswer (asked : Request) (made : Answer) : Type 0 where
  pub numbers : IsAnswer made
  pub answers : is_answer_to (kind_of asked) made ≡ true
  pub short : answer_bytes made ≤ LONGEST_STRING

with_piece_fit : (asked : Request) (o : Option Piece) → is_answer_to (kind_of asked) (answer.Piece o) ≡ true →
    IfSome o IsFitPiece → IsFitAnswer asked (answer.Piece o)
with_piece_fit asked None answers fit = record { numbers = tt; answers = answers; short = omega arith }
with_piece_fit asked (Some piece) answers fit = record { numbers = fit.numbers; answers = answers; short = fit.bytes }

pub answer_fit : (bank : Bank) (asked : Request) → IsFitBank bank → IsFitAnswer asked (answer_to bank asked)
answer_fit bank request.Next fit = record { numbers = tt; answers = refl; short = omega arith }
answer_fit bank (request.Spread said) fit = record { numbers = tt; answers = refl; short = omega arith }
answer_fit bank request.Query fit = record { numbers = greatest_fit bank fit; answers = refl; short = omega arith }
answer_fit bank (request.PreWrite tag piece) fit = record { numbers = tt; answers = refl; short = omega arith }
answer_fit bank (request.Finalize tag) fit = record { numbers = tt; answers = refl; short = omega arith }
answer_fit bank (request.Fetch tag) fit = with_piece_fit (request.Fetch tag) (fetched_piece bank tag) refl (fetched_fit bank tag fit)
