use Rattle.std.proofs.Common.{subst}
use Rattle.node_messages.specs.Gives.{Agrees}
use Rattle.node_messages.specs.Reading.{message_from}
use Rattle.node_messages.proofs.MessageLemmas.{is_found, is_only}
use Rattle.node_messages.proofs.reading.read_message.Goals as goal

pub returns-clause-found : goal.returns-clause-found
returns-clause-found c =
    is_found c.args.frame.now c.read_strings.result
    (subst (λ s. Agrees c.read_strings.result (message_from s)) c.strings.ensures.strings c.read_strings.ensures)

pub returns-clause-only : goal.returns-clause-only
returns-clause-only c =
    is_only c.args.frame.now c.read_strings.result
    (subst (λ s. Agrees c.read_strings.result (message_from s)) c.strings.ensures.strings c.read_strings.ensures)

pub returns-clause-exact : goal.returns-clause-exact
returns-clause-exact c =
    subst (λ s. Agrees c.read_strings.result (message_from s)) c.strings.ensures.strings c.read_strings.ensures
