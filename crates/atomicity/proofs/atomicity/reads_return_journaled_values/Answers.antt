use Rattle.soundness.proofs.Values.ReadValueLemmas.{reads_journaled}
use Rattle.atomicity.proofs.atomicity.reads_return_journaled_values.Goals as goal

pub returns : goal.returns
returns c =
    λ fragment object last code sound. reads_journaled fragment object code.determines sound.legal sound.values sound.coded sound.settled
