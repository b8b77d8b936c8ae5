use Rattle.soundness.proofs.Sound.LabelOriginLemmas.{labels_stepped}
use Rattle.soundness.proofs.origins.labels_come_with_their_requests.Goals as goal

pub returns : goal.returns
returns c = λ fragment object last now position member step tag label less sound.
    labels_stepped fragment object last now position member tag label less sound step
