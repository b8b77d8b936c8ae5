use Rattle.mail.proofs.MailBytesLemmas.{pieces_fit}
use Rattle.mail.proofs.pieces_have_room.Goals as goal

pub returns : goal.returns
returns c = pieces_fit
