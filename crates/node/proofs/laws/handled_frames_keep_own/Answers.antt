use Rattle.node.proofs.AnewLemmas.{handled_frames}
use Rattle.node.proofs.laws.handled_frames_keep_own.Goals as goal

pub returns : goal.returns
returns c = handled_frames
