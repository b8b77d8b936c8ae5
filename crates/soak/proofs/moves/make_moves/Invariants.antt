use Rattle.soak.specs.Made.{MovesAll}
use Rattle.soak.proofs.moves.make_moves.Given as goal

abbrev pub invariant-loop-number : goal.invariant-loop-number
invariant-loop-number g l = MovesAll g.L.StoreName.first l.number l.initial.admin l.admin
