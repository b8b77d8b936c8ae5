use Rattle.record.specs.Knowledge.{IsTruePhase}
use Rattle.soundness.proofs.ListLemmas.{all_get}
use Rattle.soundness.proofs.Sound.Enough.PieceCountLemmas.{enough_not_lacking, not_lacking_enough}
use Rattle.atomicity.proofs.lacking.lacking_is_to_have_too_few.Goals as goal

pub returns : goal.returns
returns c = λ fragment object last index place call phase sound at within.
    let truth = all_get (IsTruePhase object) call.phases place phase (sound.legal.calls index call at).phases within in
    (λ enough. not_lacking_enough object phase truth enough, λ has. enough_not_lacking object phase truth has)
