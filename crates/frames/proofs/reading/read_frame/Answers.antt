use Rattle.frames.proofs.ReadFrameLemmas.{is_found, is_only}
use Rattle.frames.proofs.reading.read_frame.Goals as goal

pub returns-clause-found : goal.returns-clause-found
returns-clause-found g c = is_found _ _ c.read_next.result c.read_next.ensures

pub returns-clause-only : goal.returns-clause-only
returns-clause-only g c = is_only _ _ c.read_next.result c.read_next.ensures
