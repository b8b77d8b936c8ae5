use Rattle.std.proofs.Common.{take}
use Rattle.std.specs.List.{AllByRecursion}
use Rattle.node_effects.specs.Work.{IsGrown}
use Rattle.node_keeper.specs.Fitting.{IsSendable}
use Rattle.node_keeper.specs.Sendings.{sent_growth, to_others}
use Rattle.node_keeper.proofs.keeper.Keeper.post_to.Given as goal

abbrev pub invariant-loop-node : goal.invariant-loop-node
invariant-loop-node l =
    IsGrown l.fn.work l.work (sent_growth l.self.ids.node l.self.digest
    (to_others l.self.ids.node (record { name = l.name; letter = l.letter }) (take l.node-index l.nodes)))
    × AllByRecursion (IsSendable l.self.ids.node l.self.digest)
    (to_others l.self.ids.node (record { name = l.name; letter = l.letter }) (take l.node-index l.nodes))
