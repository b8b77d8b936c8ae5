use Rattle.encoder.specs.Fragment.{fragment}
use Rattle.register.proofs.FragmentCodeLemmas.{fragments_determine}
use Rattle.atomicity.proofs.AtomicRunLemmas.{atomic_of_coded}
use Rattle.history.proofs.object.atomic.Goals as goal

pub returns : goal.returns
returns c =
    let state = c.args.register.now in
    let sound = c.soundness.ensures.sound in
    atomic_of_coded fragment state.object fragments_determine sound.legal sound.values sound.coded sound.settled
