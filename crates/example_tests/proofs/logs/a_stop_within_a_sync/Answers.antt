use Rattle.std.proofs.Common.{refl}
use Rattle.example_tests.proofs.RestartedObjectLemmas.{node_has_write}
use Rattle.example_tests.proofs.StoppedSyncLemmas.{every_event, is_left, only_synced, synced_are_read}
use Rattle.example_tests.proofs.logs.a_stop_within_a_sync.Goals as goal

pub returns-clause-left : goal.returns-clause-left
returns-clause-left c = is_left

pub returns-clause-found : goal.returns-clause-found
returns-clause-found c = synced_are_read c.entries_are_read_back.ensures.cut

pub returns-clause-only : goal.returns-clause-only
returns-clause-only c = only_synced c.entries_are_read_back.ensures.cut c.logs_are_read_once.ensures

pub returns-clause-may : goal.returns-clause-may
returns-clause-may c = every_event

pub returns-clause-gives : goal.returns-clause-gives
returns-clause-gives c = refl

pub returns-clause-started : goal.returns-clause-started
returns-clause-started c =
    node_has_write c.left_logs_are_read.ensures c.messages_are_read_back.ensures.written c.strings_are_read_back.ensures.written
