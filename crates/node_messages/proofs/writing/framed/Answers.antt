use Rattle.std.proofs.Common.{refl}
use Rattle.words.proofs.PartLemmas.{no_success}
use Rattle.node_messages.proofs.FrameLemmas.{frame_made, frame_refused}
use Rattle.node_messages.proofs.writing.framed.Goals as goal

pub returns-in-Ok : goal.returns-in-Ok
returns-in-Ok c = frame_made c.args.strings.items c.in-Ok.frame c.in-Ok.ensures.made (c.in-Ok.ensures.lawful.0 refl)

pub returns-in-Err : goal.returns-in-Err
returns-in-Err c = frame_refused c.args.strings.items (λ lawful. no_success (c.in-Err.ensures.lawful.1 lawful))
