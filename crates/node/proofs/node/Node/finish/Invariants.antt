use Rattle.std.proofs.Common.{◌≡◌, ℕ, List, Option}
use Rattle.deeds.specs.Named.{NamedLetter}
use Rattle.node_keeper.specs.declared.keeper.Keeper.{Keeper}
use Rattle.node_strings.specs.declared.arrival.Arrival.{Arrival}
use Rattle.node_clients.specs.Desk.{NoneWaits}
use Rattle.node.specs.FitNodes.{StaysFit}
use Rattle.node.specs.Handles.{HasActed}
use Rattle.node_effects.specs.declared.output.Output.{Output}
use Rattle.node.specs.Serving.{ServedSince}
use Rattle.node.specs.Ticks.{AreFirst}
use Rattle.node.specs.declared.node.Node.{Node}
use Rattle.node.proofs.node.Node.finish.Given as goal

abbrev pub invariant-loop : goal.invariant-loop
invariant-loop l = record {
  number : l.number ≡ l.self.keeper.ids.node;
  acted : (asker : ℕ) (got : List NamedLetter) (first : Keeper) → HasActed asker got first l.fn.self.keeper l.fn.work →
      HasActed asker got first l.self.keeper l.work;
  served : (came : Option Arrival) (first : Node) →
      ServedSince came first l.fn.self l.fn.work.to_clients.items l.fn.work.notices.items l.fn.work.outputs.items →
      ServedSince came first l.self l.work.to_clients.items l.work.notices.items l.work.outputs.items;
  fit : StaysFit l.fn.self l.fn.work l.self l.work;
  outputs : (first : List Output) → AreFirst first l.fn.work.outputs.items → AreFirst first l.work.outputs.items;
  waits : NoneWaits l.fn.self.desk.clients l.fn.work.due.items → NoneWaits l.self.desk.clients l.work.due.items;
  peers : l.self.peers ≡ l.fn.self.peers;
}
