-- Entries that are read back.
use Rattle.std.proofs.Common.{◌<◌, ◌^◌, ℕ, List, ap, ◌∙◌}
use Rattle.layout.specs.Layout.{Layout, IsLawful}
use Rattle.node_messages.proofs.MessageLemmas.{message_again}
use Rattle.node_messages.specs.Strings.{strings_of}
use Rattle.node_strings.specs.declared.record.Record.TheVariants as record_of
use Rattle.node_strings.proofs.RecordLemmas.{record_again}
use Rattle.recoveries.specs.Records.{LogRecord}
use Rattle.letter.specs.declared.letter.NamedLetter.{NamedLetter}
use Rattle.node_effects.proofs.ErrorLemmas.{start_fits}
use Rattle.node_keeper.specs.Fitting.{IsLoggable}
use Rattle.node_keeper.specs.Logging.{IsReadBack, deeds_if, letter_records}
use Rattle.node_keeper.specs.Sendings.{message_of}

pub start_read : (digest : List ℕ) → IsReadBack digest LogRecord.Starts
start_read digest = record { entry = start_fits; same = ap deeds_if (record_again record_of.Start tt) }

pub serve_read : (digest : List ℕ) (it : NamedLetter) → IsLoggable digest (LogRecord.Serves it.name it.letter) →
    IsReadBack digest (LogRecord.Serves it.name it.letter)
serve_read digest it fits = record {
  entry = fits.entry;
  same = ap deeds_if (record_again (record_of.Serve (strings_of (message_of digest it))) tt)
      ∙ ap (letter_records LogRecord.Serves) (message_again (message_of digest it) fits.message);
}

pub take_read : (digest : List ℕ) (it : NamedLetter) → IsLoggable digest (LogRecord.Takes it.name it.letter) →
    IsReadBack digest (LogRecord.Takes it.name it.letter)
take_read digest it fits = record {
  entry = fits.entry;
  same = ap deeds_if (record_again (record_of.Take (strings_of (message_of digest it))) tt)
      ∙ ap (letter_records LogRecord.Takes) (message_again (message_of digest it) fits.message);
}

pub move_read : (digest name : List ℕ) (id : ℕ) (layout : Layout) → IsLoggable digest (LogRecord.Moves name id layout) →
    id < 2 ^ 64 → IsLawful layout → IsReadBack digest (LogRecord.Moves name id layout)
move_read digest name id layout fits range lawful = record {
  entry = fits.entry;
  same = ap deeds_if (record_again (record_of.Move id name layout) (range, lawful));
}

-- a bank that the node closes
pub close_read : (digest name : List ℕ) (position : ℕ) → IsLoggable digest (LogRecord.Closes name position) →
    IsReadBack digest (LogRecord.Closes name position)
close_read digest name position fits = record {
  entry = fits.entry;
  same = ap deeds_if (record_again (record_of.Close position name) fits.message);
}

-- a position that the node has heard of
pub hear_read : (digest name : List ℕ) (position : ℕ) (layout : Layout) →
    IsLoggable digest (LogRecord.Hears name position layout) → IsReadBack digest (LogRecord.Hears name position layout)
hear_read digest name position layout fits = record {
  entry = fits.entry;
  same = ap deeds_if (record_again (record_of.Hear position name layout) fits.message);
}
