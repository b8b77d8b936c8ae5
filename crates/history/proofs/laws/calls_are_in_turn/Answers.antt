use Rattle.history.proofs.TagOrderLemmas.{turn_of}
use Rattle.history.proofs.laws.calls_are_in_turn.Goals as goal

pub returns : goal.returns
returns c = λ fragment object last calls sound are. turn_of object calls are sound.legal.in_turn
