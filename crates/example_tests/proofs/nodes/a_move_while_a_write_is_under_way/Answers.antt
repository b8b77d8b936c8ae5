use Rattle.std.proofs.Common.{refl}
use Rattle.example_tests.proofs.MovedBankLemmas.{kept}
use Rattle.example_tests.proofs.MoveLemmas.{every_event}
use Rattle.example_tests.proofs.nodes.a_move_while_a_write_is_under_way.Goals as goal

pub returns-clause-may : goal.returns-clause-may
returns-clause-may c = every_event

pub returns-clause-gives : goal.returns-clause-gives
returns-clause-gives c = refl

pub returns-clause-kept : goal.returns-clause-kept
returns-clause-kept c = kept
