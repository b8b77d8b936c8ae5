use Rattle.soundness.proofs.Sound.RunSoundLemmas.{run_sound}
use Rattle.soundness.proofs.soundness.runs_keep_soundness.Goals as goal

pub returns : goal.returns
returns c = λ fragment object last steps code sound may. run_sound fragment code steps object last sound may
