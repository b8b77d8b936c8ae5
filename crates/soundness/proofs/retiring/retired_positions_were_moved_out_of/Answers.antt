use Rattle.soundness.proofs.retiring.retired_positions_were_moved_out_of.Goals as goal

pub returns : goal.returns
returns c = λ fragment object last position step sound at. (sound.legal.banks position 0).retired step at
