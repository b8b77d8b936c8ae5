use Rattle.network.proofs.WorldLawLemmas.{all_runs_followed}
use Rattle.network.proofs.runs.runs_are_followed.Goals as goal

pub returns : goal.returns
returns c = all_runs_followed
