-- What the bank of the new position keeps after a move while a write is under way.
use Rattle.std.proofs.Common.{◌≡◌, None, Some, refl}
use Rattle.std.specs.FinMap as finmap
use Rattle.tag.specs.Tag.{opening_tag}
use Rattle.bank.specs.Bank.{Bank, empty_piece, opened_bank, piece_of, pre_written, finalized}
use Rattle.bank.specs.Collect.{collected}
use Rattle.bank.proofs.EntryOrderLemmas.{Rows}
use Rattle.example_tests.proofs.Examples.BankRowLemmas.{after_finalize, after_pre_write, finalized_entries, opened_entries}
use Rattle.example_tests.proofs.Examples.BankRowLemmas.{pre_written_entries}
use Rattle.network.specs.Worlds.{member_bank}
use Rattle.network.specs.Events.{world_after}
use Rattle.example_tests.specs.RecordExamples.{whole}
use Rattle.example_tests.specs.Scripts.{letter_piece, write_tag}
use Rattle.example_tests.specs.Moving.{at_first, move_while_writing}
use Rattle.example_tests.proofs.KeptRowLemmas.{opened_rows, piece_from}

abbrev moved_bank : Bank
moved_bank = collected (finalized (collected (pre_written (opened_bank 0 None 0) opening_tag (empty_piece 0) 0)) opening_tag 0)

abbrev moved_rows : Rows
moved_rows = after_finalize None (after_pre_write None (opened_rows 0) opening_tag (empty_piece 0) 0) opening_tag 0

moved_keeps : finmap.entries moved_bank.rows ≡ moved_rows
moved_keeps =
    finalized_entries (collected (pre_written (opened_bank 0 None 0) opening_tag (empty_piece 0) 0))
    (after_pre_write None (opened_rows 0) opening_tag (empty_piece 0) 0) opening_tag 0 refl
    (pre_written_entries (opened_bank 0 None 0) (opened_rows 0) opening_tag (empty_piece 0) 0 refl (opened_entries 0 None 0))

abbrev written_bank : Bank
written_bank = collected (pre_written moved_bank write_tag (letter_piece 0) 0)

abbrev last_bank : Bank
last_bank = collected (finalized written_bank write_tag 0)

abbrev last_rows : Rows
last_rows = after_finalize None (after_pre_write None moved_rows write_tag (letter_piece 0) 0) write_tag 0

last_keeps : finmap.entries last_bank.rows ≡ last_rows
last_keeps =
    finalized_entries written_bank (after_pre_write None moved_rows write_tag (letter_piece 0) 0) write_tag 0 refl
    (pre_written_entries moved_bank moved_rows write_tag (letter_piece 0) 0 refl moved_keeps)

pub kept : piece_of (member_bank (world_after whole move_while_writing at_first) 1 0) write_tag ≡ Some (letter_piece 0)
kept = piece_from last_bank last_rows write_tag last_keeps
