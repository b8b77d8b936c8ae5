use Rattle.node.proofs.AnewLemmas.{handled_frames_calls}
use Rattle.node.proofs.laws.handled_frames_keep_own_calls.Goals as goal

pub returns : goal.returns
returns c = handled_frames_calls
