use Rattle.soundness.proofs.Sound.RunSoundLemmas.{step_sound}
use Rattle.soundness.proofs.soundness.steps_keep_soundness.Goals as goal

pub returns : goal.returns
returns c = λ fragment object last now step code less sound may. step_sound fragment object last now code less sound step may
