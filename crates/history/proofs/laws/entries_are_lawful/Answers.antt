use Rattle.soundness.proofs.Values.ReadValueLemmas.{reads_journaled}
use Rattle.history.proofs.LawfulEntryLemmas.{lawful_entries}
use Rattle.history.proofs.laws.entries_are_lawful.Goals as goal

pub returns : goal.returns
returns c = λ fragment object last code sound numbered.
    lawful_entries object numbered (reads_journaled fragment object code.determines sound.legal sound.values sound.coded sound.settled)
