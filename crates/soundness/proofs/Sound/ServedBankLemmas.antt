-- What a bank of the record is after a request, and what it answers, as far as the journal's pieces go.
use Rattle.std.proofs.Common.{◌≡◌, ℕ, suc, Bool, true, false, cond, Option, Some, None, IsSome, rules}
use Rattle.std.proofs.Common.{is_some, refl, ap, arith}
use Rattle.tag.specs.declared.tag.Tag.{Tag}
use Rattle.piece.specs.declared.piece.Piece.{Piece}
use Rattle.bank.specs.declared.row.Row.{Row}
use Rattle.bank.specs.declared.request.Request.{Request}
use Rattle.bank.specs.Bank.{Bank, row_after_pre_write, row_after_finalize, pre_written, finalized, piece_of}
use Rattle.bank.specs.Bank.{piece_of_row, knows}
use Rattle.bank.specs.Collect.{emptied_row, collected, IsCollected, is_outside, retired_bank}
use Rattle.bank.specs.Knowledge.{since, finalized_at, arrived_at, IsTrueAnswer}
use Rattle.bank.specs.Facts.{IsBefore}
use Rattle.bank.specs.Serve.{kind_of, greatest_final, served_bank, answer_to}
use Rattle.bank.proofs.CollectedBankLemmas.{get-collected, finalized_at-collected, arrived_at-collected}
use Rattle.bank.proofs.RowChangeLemmas.{with_row, all_rows}
use Rattle.bank.proofs.MonotoneLemmas.{served_grows, retired_grows}
use Rattle.bank.proofs.GreatestTagLemmas.{greatest_final_is}
use Rattle.bank.proofs.TrueAnswerLemmas.{grows_order, served_truth}
use Rattle.record.specs.Records.{Object}
use Rattle.record.specs.Legal.{IsOpenedAt}
use Rattle.record.specs.Fragments.{Code, IsCoded, IfCoded, answer_tag, answer_piece, request_tag, request_piece}
use Rattle.soundness.specs.Sound.{HasNext}
use Rattle.std.specs.FinMap as map
use Rattle.bank.specs.declared.request.Request.TheVariants as request
use Rattle.soundness.proofs.Sound.StagePositionLemmas.{KindPlaced}

-- Steps

-- what is known once a request is served came by that step
pub served_past : (bank : Bank) (asked : Request) (now : ℕ) → IsBefore bank now → IsBefore (served_bank bank asked now) (suc now)
served_past bank asked now before = search (rules, grows_order, served_grows)

-- a pointer that a request raises names the next position
pub served_next : (count position : ℕ) (bank : Bank) (asked : Request) (now : ℕ) → KindPlaced count (kind_of asked) position →
    HasNext count position bank → HasNext count position (served_bank bank asked now)
served_next count position bank asked now placed next = grind arith

-- what it answers is true of the bank that it leaves
pub served_true : (bank : Bank) (asked : Request) (now step : ℕ) → IsBefore bank now → IsOpenedAt bank step → IsCollected bank →
    IsTrueAnswer (served_bank bank asked now) now (kind_of asked) (answer_to bank asked)
served_true bank asked now step before opened collects = grind (arith, served_truth)

-- Pieces

-- what holds of each tag with its row holds after pieces are dropped, where it holds without them
collected_rows : (P : Tag → Option Row → Type 0) → ((t : Tag) (row : Row) → P t (Some row) → P t (Some (emptied_row row))) →
    (bank : Bank) → ((t : Tag) → P t (map.get bank.rows t)) → (t : Tag) → P t (map.get (collected bank).rows t)
collected_rows P emptied bank all t = grind (arith, get-collected)

module _ (fragment : Code) (object : Object) (position member : ℕ) where
  -- a tag that a bank knows is in the journal, with its piece
  abbrev RowCoded : Tag → Option Row → Type 0
  RowCoded tag row = is_some row ≡ true → IsCoded fragment object position member tag (piece_of_row row)

  abbrev pub BankCoded : Bank → Type 0
  BankCoded bank = (tag : Tag) → knows bank tag ≡ true → IsCoded fragment object position member tag (piece_of bank tag)

  without_piece : (tag : Tag) (piece : Option Piece) → IsCoded fragment object position member tag piece →
      IsCoded fragment object position member tag None
  without_piece tag piece coded = record { value = coded.value; journaled = coded.journaled; fits = λ kept e. absurd (cc) }

  pre_write_coded : (tag : Tag) (piece : Piece) (now : ℕ) → IsCoded fragment object position member tag (Some piece) →
      (row : Option Row) → RowCoded tag row → RowCoded tag (Some (row_after_pre_write row piece now))
  pre_write_coded tag piece now new row coded some = grind arith

  finalize_coded : (tag : Tag) (now : ℕ) → IsCoded fragment object position member tag None → (row : Option Row) →
      RowCoded tag row → RowCoded tag (Some (row_after_finalize row now))
  finalize_coded tag now new row coded some = grind arith

  finalized_coded : (bank : Bank) (tag : Tag) (now : ℕ) → IsCoded fragment object position member tag None → BankCoded bank →
      (t : Tag) → RowCoded t (map.get (with_row bank.rows tag (λ row. row_after_finalize row now)) t)
  finalized_coded bank tag now new coded =
      all_rows bank.rows tag (λ row. row_after_finalize row now) RowCoded
      (finalize_coded tag now new (map.get bank.rows tag) (coded tag)) coded

  emptied_coded : (tag : Tag) (row : Row) → RowCoded tag (Some row) → RowCoded tag (Some (emptied_row row))
  emptied_coded tag row coded some = grind arith

  -- so is each tag that it knows after a request
  pub served_coded : (bank : Bank) (asked : Request) (now : ℕ) →
      IfCoded fragment object position member (request_tag asked) (request_piece asked) → BankCoded bank →
      BankCoded (served_bank bank asked now)
  served_coded bank (request.PreWrite tag piece) now new coded =
      collected_rows RowCoded emptied_coded (pre_written bank tag piece now)
      (all_rows bank.rows tag (λ row. row_after_pre_write row piece now) RowCoded
      (pre_write_coded tag piece now new (map.get bank.rows tag) (coded tag)) coded)
  served_coded bank (request.Finalize tag) now new coded =
      collected_rows RowCoded emptied_coded (finalized bank tag now) (finalized_coded bank tag now new coded)
  served_coded bank (request.Fetch tag) now new coded =
      collected_rows RowCoded emptied_coded (finalized bank tag now) (finalized_coded bank tag now new coded)
  served_coded bank asked now new coded = coded

  -- and once it is retired
  pub retired_coded : (bank : Bank) (now : ℕ) → BankCoded bank → BankCoded (retired_bank bank now)
  retired_coded bank now coded =
      collected_rows RowCoded emptied_coded
      (record { rows = bank.rows; pointer = bank.pointer; delta = bank.delta; retired = since bank.retired now }) coded

  finalized_known : (bank : Bank) (tag : Tag) → IsSome (finalized_at bank tag) → knows bank tag ≡ true
  finalized_known bank tag some = grind arith

  -- and what it answers
  pub answer_coded : (bank : Bank) (asked : Request) (step : ℕ) → IsOpenedAt bank step →
      IfCoded fragment object position member (request_tag asked) (request_piece asked) → BankCoded bank →
      IfCoded fragment object position member (answer_tag (kind_of asked) (answer_to bank asked)) (answer_piece (answer_to bank asked))
  answer_coded bank request.Query step opened new coded =
      let greatest = greatest_final_is bank (ap is_some opened.finalized) in
      without_piece (greatest_final bank) (piece_of bank (greatest_final bank))
      (coded (greatest_final bank) (finalized_known bank (greatest_final bank) greatest.final))
  answer_coded bank (request.PreWrite tag piece) step opened new coded = without_piece tag (Some piece) new
  answer_coded bank (request.Finalize tag) step opened new coded = new
  answer_coded bank (request.Fetch tag) step opened new coded =
      kept (is_outside bank tag) (piece_of bank tag) (go (map.get bank.rows tag) (coded tag))
    where
      go : (row : Option Row) → RowCoded tag row → IsCoded fragment object position member tag (piece_of_row row)
      go None old = new
      go (Some row) old = old refl

      kept : (outside : Bool) (piece : Option Piece) → IsCoded fragment object position member tag piece →
          IsCoded fragment object position member tag (cond outside None piece)
      kept true piece here = new
      kept false piece here = here
  answer_coded bank _ step opened new coded = tt

-- what a request leaves as it is
pub served-retired : (bank : Bank) (asked : Request) (now : ℕ) → (served_bank bank asked now).retired ≡ bank.retired
served-retired bank asked now = grind arith

-- A bank that is retired keeps labels and arrivals
pub retired_finalized : (bank : Bank) (now : ℕ) (tag : Tag) → finalized_at (retired_bank bank now) tag ≡ finalized_at bank tag
retired_finalized bank now tag = search (rules, finalized_at-collected)

pub retired_arrived : (bank : Bank) (now : ℕ) (tag : Tag) → arrived_at (retired_bank bank now) tag ≡ arrived_at bank tag
retired_arrived bank now tag = search (rules, arrived_at-collected)

pub retired_past : (bank : Bank) (now : ℕ) → IsBefore bank now → IsBefore (retired_bank bank now) (suc now)
retired_past bank now before = search (rules, grows_order, retired_grows)
