use Rattle.atomicity.proofs.Sequences.TagSequenceLemmas.{sequence_of_sound}
use Rattle.history.proofs.TagOrderLemmas.{sequence_of_order}
use Rattle.history.proofs.laws.tag_orders_are_sequences.Goals as goal

pub returns : goal.returns
returns c = λ fragment object last calls order code sound are ordered.
    sequence_of_sound fragment object last code.determines sound order (sequence_of_order object calls order are ordered)
