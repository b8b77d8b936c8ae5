use Rattle.kernels.specs.Dot.{bytes_of}
use Rattle.kernels.proofs.RowSumLemmas.{AreSums}
use Rattle.kernels.proofs.dots.row_lanes.Given as goal

-- the terms of the blocks so far, in each row
abbrev pub invariant-loop-j : goal.invariant-loop-j
invariant-loop-j g l = AreSums l.sums g.row.R l.tables (bytes_of l.sources) l.start l.j 0

-- and of this block, in the rows so far
abbrev pub invariant-loop-r : goal.invariant-loop-r
invariant-loop-r g l = AreSums l.sums g.row.R l.tables (bytes_of l.sources) l.start l.j l.r
