use Rattle.client_commands.proofs.TextLemmas.{printable}
use Rattle.client_commands.proofs.laws.error_texts_are_printable.Goals as goal

pub returns : goal.returns
returns c = printable
