use Rattle.fitting.proofs.MessageLemmas.{message_fits}
use Rattle.fitting.proofs.laws.fit_letters_are_messages.Goals as goal

pub returns : goal.returns
returns c = message_fits
