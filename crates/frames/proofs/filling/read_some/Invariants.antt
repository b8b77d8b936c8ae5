-- A read that a signal interrupts takes no byte.
use Rattle.std.proofs.Common.{◌≡◌, length}
use Rattle.std.specs.Io.KnownBytes.{Keeps}
use Rattle.frames.proofs.filling.read_some.Given as goal

abbrev pub invariant-loop : goal.invariant-loop
invariant-loop g l = (length l.buf ≡ length l.fn.buf) × Keeps (g.R.Read.remaining l.fn.reader) (g.R.Read.remaining l.reader)
