use Rattle.std.proofs.Common.{refl}
use Rattle.example_tests.proofs.TakenTwiceLemmas.{every_event}
use Rattle.example_tests.proofs.nodes.a_reply_taken_twice.Goals as goal

pub returns-clause-may : goal.returns-clause-may
returns-clause-may c = every_event

pub returns-clause-unchanged : goal.returns-clause-unchanged
returns-clause-unchanged c = refl

pub returns-clause-gives : goal.returns-clause-gives
returns-clause-gives c = refl
