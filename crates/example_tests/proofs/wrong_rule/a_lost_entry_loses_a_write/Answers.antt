use Rattle.std.proofs.Common.{refl, arith}
use Rattle.example_tests.proofs.LostEntryLemmas.{misses, rest_lacks}
use Rattle.example_tests.proofs.WriteLemmas.{writes}
use Rattle.example_tests.proofs.Examples.MissedWriteLemmas.{missed_is_refused}
use Rattle.example_tests.proofs.wrong_rule.a_lost_entry_loses_a_write.Goals as goal

pub returns-clause-before : goal.returns-clause-before
returns-clause-before c = writes

pub returns-clause-lost : goal.returns-clause-lost
returns-clause-lost c = rest_lacks c.messages_are_read_back.ensures.written c.strings_are_read_back.ensures.written

pub returns-clause-behind : goal.returns-clause-behind
returns-clause-behind c = misses

pub returns-clause-gives : goal.returns-clause-gives
returns-clause-gives c = refl

pub returns-clause-not_atomic : goal.returns-clause-not_atomic
returns-clause-not_atomic c = missed_is_refused 7 3 1 26 28 49 (omega arith)
