use Rattle.soundness.proofs.Sound.RunSoundLemmas.{opened_run_sound}
use Rattle.soundness.proofs.soundness.runs_are_sound.Goals as goal

pub returns : goal.returns
returns c = λ fragment layout delta start steps code lawful may. opened_run_sound fragment code layout delta start steps lawful may
