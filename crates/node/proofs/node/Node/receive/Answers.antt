use Rattle.std.proofs.lemmas.Result.{on_ok_weaker}
use Rattle.node_messages.specs.Reading.{message_from}
use Rattle.node.specs.Frames.{letter_if_read}
use Rattle.node.proofs.TellLemmas.{idle}
use Rattle.node.proofs.ServingLemmas.{peers_more}
use Rattle.fitting.proofs.ReadLemmas.{read_fit}
use Rattle.node.proofs.StayingLemmas.{unchanged}
use Rattle.node.proofs.node.Node.receive.Goals as goal

pub returns-clause-acts : goal.returns-clause-acts
returns-clause-acts c =
    let old = c.args.self.now.keeper in
    idle c.args.sender (letter_if_read old c.args.sender (message_from c.args.frame)) old c.args.work.now

pub returns-clause-serves : goal.returns-clause-serves
returns-clause-serves c = peers_more c.args.self.now _ c.args.work.now

pub returns-clause-fit : goal.returns-clause-fit
returns-clause-fit c = λ short bytes. unchanged c.args.self.now.keeper c.args.work.now

pub returns-in-Ok-clause-fit : goal.returns-in-Ok-clause-fit
returns-in-Ok-clause-fit c =
    on_ok_weaker c.admit.result
    (λ left short bytes.
    let is = read_fit c.args.frame c.in-Ok.message c.in-Ok.ensures.exact short bytes in
    left (record { name = is.0; letter = is.1 }))
    c.admit.ensures.fit
