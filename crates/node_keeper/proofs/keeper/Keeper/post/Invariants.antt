use Rattle.std.specs.List.{AllByRecursion}
use Rattle.node_effects.specs.Work.{IsGrown}
use Rattle.node_keeper.specs.Fitting.{IsSendable}
use Rattle.node_keeper.specs.Sendings.{asked, sent_growth}
use Rattle.node_keeper.proofs.keeper.Keeper.post.Given as goal

abbrev pub invariant-loop-letter : goal.invariant-loop-letter
invariant-loop-letter l =
    IsGrown l.fn.work l.work (sent_growth l.self.ids.node l.self.digest (asked l.self.ids.node l.name l.yielded))
    × AllByRecursion (IsSendable l.self.ids.node l.self.digest) (asked l.self.ids.node l.name l.yielded)
