use Rattle.std.proofs.Common.{◌≡◌, ℕ, []}
use Rattle.node_keeper.specs.Acts.{Acts}
use Rattle.node.specs.Serving.{ServesTicks}
use Rattle.node.specs.Ticks.{SendsAgain}
use Rattle.node.proofs.node.Node.tick.Given as goal

abbrev pub invariant-loop-id : goal.invariant-loop-id
invariant-loop-id l = record {
  acts : (asker : ℕ) → Acts asker [] l.fn.self.keeper l.fn.work l.self.keeper l.work;
  serves : ServesTicks l.yielded l.fn.self l.fn.work l.self l.work;
  again : SendsAgain l.yielded l.fn.self l.fn.work.outputs.items l.self l.work.outputs.items;
  peers : l.self.peers ≡ l.fn.self.peers;
}
