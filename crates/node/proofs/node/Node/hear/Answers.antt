use Rattle.std.proofs.Common.{ap, ◌∙◌}
use Rattle.node.specs.Peers.{after_letter, reception_of}
use Rattle.node.specs.declared.peers.Peers.{Peers}
use Rattle.node.proofs.ServingLemmas.{more_beside}
use Rattle.node.proofs.node.Node.hear.Goals as goal

pub returns-clause-serves : goal.returns-clause-serves
returns-clause-serves c =
    more_beside c.args.self.now c.deliver.new.self _ c.args.work.now c.deliver.new.work c.in_ok-reception.ensures.serves

pub returns-clause-peers : goal.returns-clause-peers
returns-clause-peers c =
    let reception = reception_of c.args.self.now.keeper c.args.it in
    c.count_letter.ensures ∙ ap (λ r. after_letter r c.deliver.new.self.peers) c.in_ok-reception.ensures.received
    ∙ ap (λ (p : Peers). after_letter reception p) c.deliver.ensures.peers
