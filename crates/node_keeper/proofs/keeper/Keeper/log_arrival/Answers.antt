use Rattle.std.proofs.Common.{subst}
use Rattle.node_messages.specs.declared.message.NodeMessage.{NodeMessage}
use Rattle.node_effects.specs.Work.{IsGrown, one_entry}
use Rattle.node_keeper.specs.Delivering.{arrival_record}
use Rattle.node_keeper.specs.Fitting.{IsLoggable}
use Rattle.node_keeper.specs.Logging.{log_entry_of}
use Rattle.node_keeper.proofs.keeper.Keeper.log_arrival.Goals as goal

pub returns-clause-logged : goal.returns-clause-logged
returns-clause-logged c =
    subst (λ (m : NodeMessage). IsGrown c.args.work.now c.log_message.new.work
    (one_entry (log_entry_of m.digest (arrival_record m.named)))) c.message_of-message.ensures
    c.in_ok-log_message.ensures.logged

pub returns-clause-writes : goal.returns-clause-writes
returns-clause-writes c =
    subst (λ (m : NodeMessage). IsLoggable m.digest (arrival_record m.named)) c.message_of-message.ensures
    c.in_ok-log_message.ensures.writes
