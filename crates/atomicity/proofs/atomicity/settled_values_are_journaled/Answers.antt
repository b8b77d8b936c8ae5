use Rattle.soundness.proofs.Values.ReadValueLemmas.{settled_journaled}
use Rattle.atomicity.proofs.atomicity.settled_values_are_journaled.Goals as goal

pub returns : goal.returns
returns c = λ fragment object last index call value code sound at is.
    let settled = sound.settled.settled index call value at is in (
      settled,
      settled_journaled fragment object code.determines sound.legal sound.values sound.coded index call at value
          (sound.values.settled index call value at is) settled,
    )
