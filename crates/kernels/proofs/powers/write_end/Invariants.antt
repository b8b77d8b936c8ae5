use Rattle.std.proofs.Common.{◌+◌, ◌*◌}
use Rattle.kernels.specs.Dot.{bytes_of}
use Rattle.kernels.specs.Line.{ArePowers}
use Rattle.kernels.proofs.powers.write_end.Given as goal

-- where the rows are made up to `from`, they are as far as the blocks so far go
abbrev pub invariant-loop-block : goal.invariant-loop-block
invariant-loop-block g l =
    ArePowers l.initial.out g.row.R (bytes_of l.sources) l.size l.from l.first
    → ArePowers l.out g.row.R (bytes_of l.sources) l.size (l.from + l.block * 32) l.first
