use Rattle.frames.proofs.BufferPartLemmas.{kept_then}
use Rattle.frames.proofs.filling.read_some.Goals as goal

pub returns-in-Ok-clause-bytes : goal.returns-in-Ok-clause-bytes
returns-in-Ok-clause-bytes g c = (kept_then _ _ _ _ c.loop.invariant.1 c.in-Ok.ensures.bytes.0, c.in-Ok.ensures.bytes.1)
