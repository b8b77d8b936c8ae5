use Rattle.std.proofs.Common.{rules, ◌+◌}
use Rattle.node_keeper.proofs.AnewLemmas.{epochs_fit, epochs_step}
use Rattle.node_keeper.proofs.keeper.Keeper.log_epochs.Goals as goal

pub loop-epoch-preserved : goal.loop-epoch-preserved
loop-epoch-preserved c = (
  epochs_step c.args.self.now.digest c.loop-epoch._epoch c.args.entries.now.items c.loop-epoch.entries.items
      c.push_entry.new.entries.items c.loop-epoch.invariant.0 c.in_ok-push_entry.ensures.pushed,
  epochs_fit c.args.self.now.digest (c.loop-epoch._epoch + 1),
)

pub loop-epoch-init : goal.loop-epoch-init
loop-epoch-init c = search rules
