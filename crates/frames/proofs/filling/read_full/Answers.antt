use Rattle.std.proofs.Common.{arith, rules}
use Rattle.frames.proofs.BufferPartLemmas.{filled_more, filled_no_more}
use Rattle.frames.proofs.filling.read_full.Goals as goal

pub returns-in-Ok-eq0-clause-bytes : goal.returns-in-Ok-eq0-clause-bytes
returns-in-Ok-eq0-clause-bytes g c =
    filled_no_more _ _ _ c.loop-filled.buf c.read_at.new.buf c.loop-filled.filled c.in-Ok-eq0.field-0 (search rules)
    c.read_at.ensures.front c.loop-filled.invariant.2 c.in-Ok-eq0.ensures.bytes

pub loop-filled-preserved : goal.loop-filled-preserved
loop-filled-preserved g c = (
  omega (arith, c.read_at.ensures.same),
  c.in-Ok.ensures.fits,
  filled_more _ _ _ c.loop-filled.buf c.read_at.new.buf c.loop-filled.filled c.in-Ok.count c.read_at.ensures.front
      c.loop-filled.invariant.2 c.in-Ok.ensures.bytes,
)
