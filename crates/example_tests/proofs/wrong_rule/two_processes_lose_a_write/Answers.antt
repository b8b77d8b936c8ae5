use Rattle.std.proofs.Common.{refl, arith}
use Rattle.example_tests.proofs.Examples.MissedWriteLemmas.{missed_is_refused}
use Rattle.example_tests.proofs.TwoProcessLemmas.{every_event}
use Rattle.example_tests.proofs.wrong_rule.two_processes_lose_a_write.Goals as goal

pub returns-clause-may : goal.returns-clause-may
returns-clause-may c = every_event

pub returns-clause-gives : goal.returns-clause-gives
returns-clause-gives c = refl

pub returns-clause-not_atomic : goal.returns-clause-not_atomic
returns-clause-not_atomic c = missed_is_refused 7 3 1 26 28 49 (omega arith)
