use Rattle.fitting.proofs.ReadLemmas.{read_fit}
use Rattle.fitting.proofs.laws.read_letters_are_fit.Goals as goal

pub returns : goal.returns
returns c = read_fit
