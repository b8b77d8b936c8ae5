use Rattle.soundness.proofs.Sound.OpenedObjectLemmas.{opening_sound}
use Rattle.soundness.proofs.soundness.opened_objects_are_sound.Goals as goal

pub returns : goal.returns
returns c = λ fragment layout delta now code lawful. opening_sound fragment code layout delta now lawful
