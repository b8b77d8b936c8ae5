use Rattle.std.proofs.Common.{◌≡◌, Some, ap, sym, ◌∙◌}
use Rattle.node.specs.Moves.{heard_fault, told_fault}
use Rattle.node.proofs.MoveLemmas.{fault_of_heard}
use Rattle.node.proofs.node.Node.move_fault.Goals as goal

pub returns-in-Some-heard-clause-fault : goal.returns-in-Some-heard-clause-fault
returns-in-Some-heard-clause-fault c =
    let old = c.args.self.now in
    let number = old.keeper.ids.node in
    let layout = c.args.layout.now in
    let told : Some c.in-Some-heard.heard ≡ old.peers.heard = sym c.in-Some-heard.is in
    c.heard_fault.ensures.fault ∙ ap (λ n. heard_fault n c.in-Some-heard.heard layout) c.number.ensures.number
    ∙ ap (λ h. told_fault number h layout) told
    ∙ fault_of_heard number old.keeper.file old.peers.heard layout (sym c.is_mover.ensures ∙ c.if-not-is_mover.false)
    (sym c.first_stranger.ensures ∙ c.in_default.is)
