-- What banks that keep everything answer: their rows as lists, which compute.
use Rattle.std.proofs.Common.{◌≡◌, ◌&&◌, ◌||◌, not, ℕ, Bool, true, false, [], ◌∷◌, Option, None, Some, refl, sym, ap, ◌∙◌}
use Rattle.std.specs.FinMap as finmap
use Rattle.tag.specs.declared.tag.Tag.{Tag}
use Rattle.tag.specs.Tag.{tag_cmp, opening_tag, tag_eq}
use Rattle.bank.specs.Bank.{Bank, opened_bank, opening_row, pre_written, finalized}
use Rattle.bank.specs.Bank.{empty_piece, piece_of, piece_of_row}
use Rattle.bank.specs.Collect.{collected}
use Rattle.bank.specs.Floor.{is_forgotten, remembered}
use Rattle.bank.specs.Knowledge.{exceeds, finals_above}
use Rattle.bank.specs.Serve.{greatest_final}
use Rattle.bank.specs.declared.request.Request.TheVariants as request
use Rattle.bank.proofs.EntryOrderLemmas.{Rows}
use Rattle.bank.proofs.RememberedBankLemmas.{all_remembered}
use Rattle.local_object.specs.ChangedBanks.{bank_after, changes_bank}
use Rattle.example_tests.proofs.Examples.BankRowLemmas.{after_finalize, after_pre_write, finalized_entries, greatest_from}
use Rattle.example_tests.proofs.Examples.BankRowLemmas.{opened_entries, pre_written_entries}
use Rattle.example_tests.specs.Scripts.{letter_piece, to_keep, write_tag}

pub piece_from : (bank : Bank) (rows : Rows) (tag : Tag) → finmap.entries bank.rows ≡ rows →
    piece_of bank tag ≡ piece_of_row (finmap.find tag_cmp tag rows)
piece_from bank rows tag is =
    ap piece_of_row (finmap.get-entries bank.rows tag) ∙ ap (λ (es : Rows). piece_of_row (finmap.find tag_cmp tag es)) is

and_false : (b : Bool) → (b && false) ≡ false
and_false true = refl
and_false false = refl

-- a bank without a delta forgets nothing
pub none_forgotten : (bank : Bank) → bank.delta ≡ None → remembered bank ≡ bank
none_forgotten bank none =
    sym (all_remembered bank (λ tag.
    ap (λ (delta : Option ℕ). not (tag_eq tag opening_tag) && exceeds delta (finals_above bank tag)) none
    ∙ and_false (not (tag_eq tag opening_tag))))

-- an opened bank knows the opening tag alone

abbrev pub opened_rows : (point : ℕ) → Rows
opened_rows point = (opening_tag, opening_row point 0) ∷ []

pub opened_greatest : (point : ℕ) → greatest_final (opened_bank point None 0) ≡ opening_tag
opened_greatest point = greatest_from (opened_bank point None 0) (opened_rows point) (opened_entries point None 0)

pub opened_lacks : (point : ℕ) → piece_of (opened_bank point None 0) write_tag ≡ None
opened_lacks point = piece_from (opened_bank point None 0) (opened_rows point) write_tag (opened_entries point None 0)

pub opened_piece : (point : ℕ) → piece_of (opened_bank point None 0) opening_tag ≡ Some (empty_piece point)
opened_piece point = piece_from (opened_bank point None 0) (opened_rows point) opening_tag (opened_entries point None 0)

-- to fetch the opening tag, which is its greatest finalized one, does not change it
pub opened_unchanged : (point : ℕ) → changes_bank (opened_bank point None 0) (request.Fetch opening_tag) ≡ false
opened_unchanged point =
    ap (λ tag. not (tag_eq tag opening_tag || is_forgotten (opened_bank point None 0) opening_tag)) (opened_greatest point)

-- a bank that has been opened, keeps its piece of the value, and finalized the write's tag

abbrev pub wrote_bank : (point : ℕ) → Bank
wrote_bank point = collected (pre_written (opened_bank point None 0) write_tag (letter_piece point) 0)

abbrev pub final_bank : (point : ℕ) → Bank
final_bank point = collected (finalized (wrote_bank point) write_tag 0)

abbrev wrote_rows : (point : ℕ) → Rows
wrote_rows point = after_pre_write None (opened_rows point) write_tag (letter_piece point) 0

abbrev final_rows : (point : ℕ) → Rows
final_rows point = after_finalize None (wrote_rows point) write_tag 0

-- before that, it has kept its piece, and finalized no tag but the opening tag

wrote_bank_keeps : (point : ℕ) → finmap.entries (wrote_bank point).rows ≡ wrote_rows point
wrote_bank_keeps point =
    pre_written_entries (opened_bank point None 0) (opened_rows point) write_tag (letter_piece point) 0 refl
    (opened_entries point None 0)

pub wrote_greatest : (point : ℕ) → greatest_final (wrote_bank point) ≡ opening_tag
wrote_greatest point = greatest_from (wrote_bank point) (wrote_rows point) (wrote_bank_keeps point)

pub wrote_opening_piece : (point : ℕ) → piece_of (wrote_bank point) opening_tag ≡ Some (empty_piece point)
wrote_opening_piece point = piece_from (wrote_bank point) (wrote_rows point) opening_tag (wrote_bank_keeps point)

final_bank_keeps : (point : ℕ) → finmap.entries (final_bank point).rows ≡ final_rows point
final_bank_keeps point =
    finalized_entries (wrote_bank point) (wrote_rows point) write_tag 0 refl (wrote_bank_keeps point)

pub final_greatest : (point : ℕ) → greatest_final (final_bank point) ≡ write_tag
final_greatest point = greatest_from (final_bank point) (final_rows point) (final_bank_keeps point)

pub final_piece : (point : ℕ) → piece_of (final_bank point) write_tag ≡ Some (letter_piece point)
final_piece point = piece_from (final_bank point) (final_rows point) write_tag (final_bank_keeps point)

-- what a node keeps of these banks, which is all that they keep

pub kept_wrote : (point : ℕ) → bank_after (opened_bank point None 0) (to_keep point) ≡ wrote_bank point
kept_wrote point = none_forgotten (wrote_bank point) refl

-- the same bank after it served a request that changes nothing
pub still_wrote : (point : ℕ) →
    bank_after (bank_after (opened_bank point None 0) (to_keep point)) request.Next ≡ wrote_bank point
still_wrote point =
    ap (λ (bank : Bank). bank_after bank request.Next) (kept_wrote point) ∙ none_forgotten (wrote_bank point) refl

abbrev pub kept_final_bank : (point : ℕ) → Bank
kept_final_bank point = bank_after (bank_after (opened_bank point None 0) (to_keep point)) (request.Finalize write_tag)

pub kept_final : (point : ℕ) → kept_final_bank point ≡ final_bank point
kept_final point =
    ap (λ (bank : Bank). bank_after bank (request.Finalize write_tag)) (kept_wrote point)
    ∙ none_forgotten (final_bank point) refl

-- the same bank after it served a request that changes nothing
pub still_final : (point : ℕ) → bank_after (kept_final_bank point) request.Next ≡ final_bank point
still_final point =
    ap (λ (bank : Bank). bank_after bank request.Next) (kept_final point) ∙ none_forgotten (final_bank point) refl

-- the same bank after it served the request to finalize the tag a second time

abbrev twice_bank : (point : ℕ) → Bank
twice_bank point = collected (finalized (final_bank point) write_tag 0)

abbrev twice_rows : (point : ℕ) → Rows
twice_rows point = after_finalize None (final_rows point) write_tag 0

twice_bank_keeps : (point : ℕ) → finmap.entries (twice_bank point).rows ≡ twice_rows point
twice_bank_keeps point = finalized_entries (final_bank point) (final_rows point) write_tag 0 refl (final_bank_keeps point)

pub twice_greatest : (point : ℕ) → greatest_final (twice_bank point) ≡ write_tag
twice_greatest point = greatest_from (twice_bank point) (twice_rows point) (twice_bank_keeps point)

pub twice_piece : (point : ℕ) → piece_of (twice_bank point) write_tag ≡ Some (letter_piece point)
twice_piece point = piece_from (twice_bank point) (twice_rows point) write_tag (twice_bank_keeps point)
