use Rattle.std.proofs.Common.{IfErr, subst}
use Rattle.frames.specs.Frame.{IsFrame}
use Rattle.node_messages.specs.Message.{IsMessage}
use Rattle.node_messages.specs.Strings.{strings_of}
use Rattle.node_effects.specs.Errors.{IsUnwritten}
use Rattle.node_keeper.proofs.post.framed_letter.Goals as goal

pub returns-clause-refused : goal.returns-clause-refused
returns-clause-refused c =
    subst (λ m. IfErr c.framed.result (IsUnwritten (IsMessage m × IsFrame (strings_of m)))) c.message_of.ensures
    c.framed.ensures.refused
