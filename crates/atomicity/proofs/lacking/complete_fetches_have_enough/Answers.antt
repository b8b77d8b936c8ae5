use Rattle.record.specs.Knowledge.{IsTruePhase}
use Rattle.soundness.proofs.Sound.Enough.CompleteFetchLemmas.{fetch_has_enough}
use Rattle.soundness.proofs.ListLemmas.{all_get}
use Rattle.atomicity.proofs.lacking.complete_fetches_have_enough.Goals as goal

pub returns : goal.returns
returns c = λ fragment object last index place end call phase sound at within fetch e.
    fetch_has_enough object sound.legal sound.open_banks index place call phase at within
    (all_get (IsTruePhase object) call.phases place phase (sound.legal.calls index call at).phases within) fetch end e
