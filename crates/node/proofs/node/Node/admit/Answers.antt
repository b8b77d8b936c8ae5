use Rattle.std.proofs.Common.{rules, sym, ◌∙◌}
use Rattle.std.proofs.lemmas.Result.{on_ok_weaker}
use Rattle.node.specs.Frames.{letter_from}
use Rattle.node.proofs.TellLemmas.{idle}
use Rattle.node.proofs.PeerLemmas.{admitted_changes}
use Rattle.node.proofs.ServingLemmas.{peers_more}
use Rattle.node.proofs.StayingLemmas.{sender_small, unchanged}
use Rattle.node.proofs.node.Node.admit.Goals as goal

pub returns-then-not-is_admitted-clause-acts : goal.returns-then-not-is_admitted-clause-acts
returns-then-not-is_admitted-clause-acts c =
    let old = c.args.self.now.keeper in
    idle c.args.sender (letter_from old c.args.sender c.args.message) old c.args.work.now

pub returns-then-not-is_admitted-clause-serves : goal.returns-then-not-is_admitted-clause-serves
returns-then-not-is_admitted-clause-serves c = peers_more c.args.self.now _ c.args.work.now

pub returns-then-ne-clause-acts : goal.returns-then-ne-clause-acts
returns-then-ne-clause-acts c =
    let old = c.args.self.now.keeper in
    on_ok_weaker c.note.result
    (λ noted. idle c.args.sender (letter_from old c.args.sender c.args.message) old c.args.work.now) c.note.ensures.noted

pub returns-then-ne-clause-serves : goal.returns-then-ne-clause-serves
returns-then-ne-clause-serves c =
    on_ok_weaker c.note.result (λ noted. peers_more c.args.self.now c.note.new.self c.args.work.now) c.note.ensures.noted

pub returns-clause-peers : goal.returns-clause-peers
returns-clause-peers c =
    let old = c.args.self.now in
    on_ok_weaker c.hear.result
    (admitted_changes old.keeper c.args.sender c.args.message old.peers c.hear.new.self.peers
    (sym c.is_admitted.ensures ∙ c.if-not-is_admitted.false)) c.hear.ensures.peers

pub returns-clause-acts : goal.returns-clause-acts
returns-clause-acts c = search rules

pub returns-then-not-is_admitted-clause-fit : goal.returns-then-not-is_admitted-clause-fit
returns-then-not-is_admitted-clause-fit c = λ is. unchanged c.args.self.now.keeper c.args.work.now

pub returns-then-ne-clause-fit : goal.returns-then-ne-clause-fit
returns-then-ne-clause-fit c =
    on_ok_weaker c.note.result (λ noted is. unchanged c.args.self.now.keeper c.args.work.now) c.note.ensures.noted

pub returns-clause-fit : goal.returns-clause-fit
returns-clause-fit c =
    let old = c.args.self.now.keeper in
    on_ok_weaker c.hear.result
    (λ left is fit. left (sender_small old c.args.sender c.args.message fit (sym c.is_admitted.ensures ∙ c.if-not-is_admitted.false)) is
    fit) c.hear.ensures.fit
