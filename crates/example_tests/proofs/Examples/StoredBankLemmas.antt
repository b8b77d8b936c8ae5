-- What a bank answers that was opened, pre-wrote the first write's tag and finalized it.
use Rattle.std.proofs.Common.{◌≡◌, ℕ, [], ◌∷◌, Some, None, refl}
use Rattle.std.specs.FinMap as finmap
use Rattle.tag.specs.declared.tag.Tag.{Tag}
use Rattle.tag.specs.Tag.{opening_tag}
use Rattle.bank.specs.Bank.{Bank, empty_piece, opened_bank, opening_row, pre_written, finalized}
use Rattle.bank.specs.Collect.{collected, fetched_piece}
use Rattle.bank.specs.Knowledge.{finalized_at}
use Rattle.bank.specs.Serve.{greatest_final}
use Rattle.bank.proofs.EntryOrderLemmas.{Rows}
use Rattle.example_tests.proofs.Examples.BankRowLemmas.{after_finalize, after_pre_write, fetched_from, finalized_entries, greatest_from}
use Rattle.example_tests.proofs.Examples.BankRowLemmas.{finalized_from, opened_entries, pre_written_entries}
use Rattle.example_tests.proofs.Examples.RunPartLemmas.{letter}

abbrev pub first_tag : Tag
first_tag = record { number = 1; call = 1 }

abbrev opened_rows : (point opened : ℕ) → Rows
opened_rows point opened = (opening_tag, opening_row point opened) ∷ []

pub opened_greatest : (point opened : ℕ) → greatest_final (opened_bank point None opened) ≡ opening_tag
opened_greatest point opened =
    greatest_from (opened_bank point None opened) (opened_rows point opened) (opened_entries point None opened)

-- the steps at which the bank was opened, pre-wrote the tag and finalized it
module _ (point opened wrote final : ℕ) where
  abbrev written : Bank
  written = collected (pre_written (opened_bank point None opened) first_tag (letter point) wrote)

  abbrev stored : Bank
  stored = collected (finalized written first_tag final)

  abbrev written_rows : Rows
  written_rows = after_pre_write None (opened_rows point opened) first_tag (letter point) wrote

  abbrev stored_rows : Rows
  stored_rows = after_finalize None written_rows first_tag final

  written_entries : finmap.entries written.rows ≡ written_rows
  written_entries =
      pre_written_entries (opened_bank point None opened) (opened_rows point opened) first_tag (letter point) wrote refl
      (opened_entries point None opened)

  stored_entries : finmap.entries stored.rows ≡ stored_rows
  stored_entries = finalized_entries written written_rows first_tag final refl written_entries

  pub written_greatest : greatest_final written ≡ opening_tag
  written_greatest = greatest_from written written_rows written_entries

  pub stored_greatest : greatest_final stored ≡ first_tag
  stored_greatest = greatest_from stored stored_rows stored_entries

  pub stored_piece : fetched_piece stored first_tag ≡ Some (letter point)
  stored_piece = fetched_from stored stored_rows first_tag refl stored_entries

  -- its piece of the opening tag, and when it finalized the first write's tag, which a fetch of the opening tag leaves
  pub stored_opening : fetched_piece stored opening_tag ≡ Some (empty_piece point)
  stored_opening = fetched_from stored stored_rows opening_tag refl stored_entries

  pub fetched_since : (now : ℕ) → finalized_at (collected (finalized stored opening_tag now)) first_tag ≡ Some final
  fetched_since now =
      finalized_from (collected (finalized stored opening_tag now)) (after_finalize None stored_rows opening_tag now) first_tag
      (finalized_entries stored stored_rows opening_tag now refl stored_entries)

-- the steps at which a bank was opened, pre-wrote the opening tag and finalized it, as a move asks
module _ (point opened wrote final : ℕ) where
  abbrev copied : Bank
  copied = collected (pre_written (opened_bank point None opened) opening_tag (empty_piece point) wrote)

  abbrev kept : Bank
  kept = collected (finalized copied opening_tag final)

  abbrev copied_rows : Rows
  copied_rows = after_pre_write None (opened_rows point opened) opening_tag (empty_piece point) wrote

  abbrev kept_rows : Rows
  kept_rows = after_finalize None copied_rows opening_tag final

  kept_entries : finmap.entries kept.rows ≡ kept_rows
  kept_entries =
      finalized_entries copied copied_rows opening_tag final refl
      (pre_written_entries (opened_bank point None opened) (opened_rows point opened) opening_tag (empty_piece point) wrote refl
      (opened_entries point None opened))

  pub kept_greatest : greatest_final kept ≡ opening_tag
  kept_greatest = greatest_from kept kept_rows kept_entries

  pub kept_piece : fetched_piece kept opening_tag ≡ Some (empty_piece point)
  kept_piece = fetched_from kept kept_rows opening_tag refl kept_entries
