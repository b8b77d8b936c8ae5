use Rattle.soundness.proofs.Sound.RetiredBaseSoundLemmas.{raised}
use Rattle.soundness.proofs.retiring.retiring_raises_the_base.Goals as goal

pub returns : goal.returns
returns c = λ fragment object last now less sound. raised fragment object last now less sound
