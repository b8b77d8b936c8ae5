use Rattle.soundness.proofs.Sound.DuePositionLemmas.{due_there}
use Rattle.soundness.proofs.soundness.due_positions_are_there.Goals as goal

pub returns : goal.returns
returns c =
    λ fragment object last index position call kind sound at is. due_there object sound.legal sound.shape index call at kind position is
