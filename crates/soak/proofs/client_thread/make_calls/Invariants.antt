use Rattle.soak.specs.Made.{MakesAll}
use Rattle.soak.proofs.client_thread.make_calls.Given as goal

abbrev pub invariant-loop-call : goal.invariant-loop-call
invariant-loop-call g l = MakesAll g.L.StoreName.first l.call l.initial.seat l.seat
