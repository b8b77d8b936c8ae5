use Rattle.atomicity.proofs.Sequences.TagSequenceLemmas.{sequence_of_sound}
use Rattle.atomicity.proofs.atomicity.tag_sequences_are_sequences.Goals as goal

pub returns : goal.returns
returns c = λ fragment object last order code sound tags. sequence_of_sound fragment object last code.determines sound order tags
