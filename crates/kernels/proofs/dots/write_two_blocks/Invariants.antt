use Rattle.std.proofs.Common.{◌+◌}
use Rattle.kernels.specs.Dot.{bytes_of}
use Rattle.kernels.proofs.RowSumLemmas.{AreSums}
use Rattle.kernels.proofs.dots.write_two_blocks.Given as goal

-- the terms of the blocks so far, in each row
abbrev pub invariant-loop-j : goal.invariant-loop-j
invariant-loop-j g l =
    record {
      left : AreSums l.left g.row.R l.tables (bytes_of l.sources) l.start l.j 0;
      right : AreSums l.right g.row.R l.tables (bytes_of l.sources) (l.start + 32) l.j 0;
    }

-- and of these blocks, in the rows so far
abbrev pub invariant-loop-r : goal.invariant-loop-r
invariant-loop-r g l =
    record {
      left : AreSums l.left g.row.R l.tables (bytes_of l.sources) l.start l.j l.r;
      right : AreSums l.right g.row.R l.tables (bytes_of l.sources) (l.start + 32) l.j l.r;
    }
