use Rattle.std.proofs.Common.{◌+◌, ◌*◌}
use Rattle.kernels.specs.Dot.{bytes_of, AreDotsWithin}
use Rattle.kernels.proofs.dots.write_end.Given as goal

-- where the rows are made up to `from`, they are as far as the blocks so far go
abbrev pub invariant-loop-block : goal.invariant-loop-block
invariant-loop-block g l =
    AreDotsWithin l.initial.out l.tables g.row.R (bytes_of l.sources) l.size l.from
    → AreDotsWithin l.out l.tables g.row.R (bytes_of l.sources) l.size (l.from + l.block * 32)
