use Rattle.std.proofs.Common.{rules}
use Rattle.local_object.proofs.local_object.LocalObject.learn_layouts.Goals as goal

pub returns-in_ok-learn-2-clause-learnt : goal.returns-in_ok-learn-2-clause-learnt
returns-in_ok-learn-2-clause-learnt c = search rules
