use Rattle.std.proofs.Common.{◌≡◌, length}
use Rattle.gf256.specs.Field.{field_sum}
use Rattle.kernels.specs.Dot.{bytes_of, row, term}
use Rattle.decoder.proofs.padding.sum_at.Given as goal

-- the terms so far
abbrev pub invariant-loop-i : goal.invariant-loop-i
invariant-loop-i l = l.sum ≡ field_sum l.i (term (row l.table (length l.fragments) l.j) (bytes_of l.fragments) l.b)
