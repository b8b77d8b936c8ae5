use Rattle.client_commands.proofs.AnswerLemmas.{framed}
use Rattle.client_commands.proofs.laws.answers_have_frames.Goals as goal

pub returns : goal.returns
returns c = framed
