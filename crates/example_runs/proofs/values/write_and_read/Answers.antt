use Rattle.example_runs.proofs.ValueLemmas.{if_some, same_value}
use Rattle.example_runs.proofs.values.write_and_read.Goals as goal

pub returns-clause-same : goal.returns-clause-same
returns-clause-same c =
    λ reached. if_some c.values_of.result
    (λ it is. same_value c.the_only_write_is_read.ensures c.args.run.now it.0.now it.1.now is reached) c.values_of.ensures
