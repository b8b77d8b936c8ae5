use Rattle.node.proofs.DropLemmas.{counted_once}
use Rattle.node.proofs.laws.dropped_frames_count_once.Goals as goal

pub returns : goal.returns
returns c = counted_once
