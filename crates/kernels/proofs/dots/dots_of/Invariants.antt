use Rattle.std.proofs.Common.{◌*◌}
use Rattle.kernels.specs.Dot.{bytes_of, AreDots}
use Rattle.kernels.proofs.dots.dots_of.Given as goal

-- the rows are made as far as the blocks so far go
abbrev pub invariant-loop-two : goal.invariant-loop-two
invariant-loop-two g l = AreDots l.out l.tables g.row.R (bytes_of l.sources) l.size (l.two * 2 * 32)
