use Rattle.soundness.proofs.Sound.SentPieceLemmas.{supply_counts}
use Rattle.soundness.proofs.soundness.wanted_pieces_fit_the_layout.Goals as goal

pub returns : goal.returns
returns c = λ object index k n call e. supply_counts object index call k n e
