use Rattle.decoder.proofs.UniqueValueLemmas.{determined}
use Rattle.decoder.proofs.code.fragments_determine_values.Goals as goal

pub returns : goal.returns
returns c = λ k points v w some most count distinct bytes first second longest lens same.
    determined k points v w some most count distinct bytes first second longest lens same
