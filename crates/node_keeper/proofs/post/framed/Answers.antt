use Rattle.std.proofs.Common.{subst, sym}
use Rattle.frames.specs.Frame.{IsFrame}
use Rattle.node_messages.specs.Message.{IsMessage}
use Rattle.node_messages.specs.Strings.{strings_of}
use Rattle.node_effects.specs.Errors.{IsUnwritten}
use Rattle.node_keeper.proofs.FittingLemmas.{message_fails}
use Rattle.node_keeper.proofs.ResultLemmas.{err_is}
use Rattle.node_keeper.proofs.post.framed.Goals as goal

pub returns-in_err-frame_of-clause-refused : goal.returns-in_err-frame_of-clause-refused
returns-in_err-frame_of-clause-refused c =
    let m = c.args.message.now in
    err_is c.from_residual.result c.from_residual.ensures.1
    (λ y is. subst (λ e. IsUnwritten (IsMessage m × IsFrame (strings_of m)) e) (sym is)
    (message_fails m c.in_err-frame_of.field-0.0 c.in_err-frame_of.ensures.exact))
