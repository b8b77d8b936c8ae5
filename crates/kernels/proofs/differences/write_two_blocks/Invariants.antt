use Rattle.std.proofs.Common.{◌+◌}
use Rattle.kernels.specs.Dot.{bytes_of}
use Rattle.kernels.proofs.RowSumLemmas.{AreRows}
use Rattle.kernels.proofs.LevelSumLemmas.{level_lanes}
use Rattle.kernels.proofs.differences.write_two_blocks.Given as goal

-- the differences of the sources so far, in each row
abbrev pub invariant-loop-j : goal.invariant-loop-j
invariant-loop-j g l =
    record {
      left : AreRows l.left g.row.R (level_lanes l.tables g.row.R l.one (bytes_of l.sources) l.start) l.j 0;
      right : AreRows l.right g.row.R (level_lanes l.tables g.row.R l.one (bytes_of l.sources) (l.start + 32)) l.j 0;
    }

-- and of this source, in the rows so far
abbrev pub invariant-loop-r : goal.invariant-loop-r
invariant-loop-r g l =
    record {
      left : AreRows l.left g.row.R (level_lanes l.tables g.row.R l.one (bytes_of l.sources) l.start) l.j l.r;
      right : AreRows l.right g.row.R (level_lanes l.tables g.row.R l.one (bytes_of l.sources) (l.start + 32)) l.j l.r;
    }
