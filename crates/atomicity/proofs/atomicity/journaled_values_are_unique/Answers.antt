use Rattle.soundness.proofs.Values.ReadValueLemmas.{journal_unique}
use Rattle.atomicity.proofs.atomicity.journaled_values_are_unique.Goals as goal

pub returns : goal.returns
returns c = λ fragment object last tag v w sound first second. journal_unique object sound.legal tag v w first second
