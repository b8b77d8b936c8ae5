use Rattle.mail.proofs.CompletePhaseLemmas.{complete_means_quorum}
use Rattle.mail.proofs.phase.complete_means_quorum.Goals as goal

pub returns : goal.returns
returns c = complete_means_quorum
