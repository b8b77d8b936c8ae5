use Rattle.std.proofs.Common.{◌∙◌, ap, sym, not, arith}
use Rattle.node.specs.Moves.{is_node}
use Rattle.node.proofs.MoveLemmas.{found, passed, unfound}
use Rattle.node.proofs.node.Node.first_stranger.Goals as goal

pub returns-then-not-has_node : goal.returns-then-not-has_node
returns-then-not-has_node c =
    let file = c.args.self.now.keeper.file in
    found (λ member. not (is_node file member)) c.args.layout.now.members c.loop-member.member c.member-node.result (omega arith)
    c.member-node.ensures (ap not (sym c.has_node.ensures ∙ c.if-not-has_node.true)) c.loop-member.invariant

pub loop-member-preserved : goal.loop-member-preserved
loop-member-preserved c =
    let file = c.args.self.now.keeper.file in
    passed (λ member. not (is_node file member)) c.args.layout.now.members c.loop-member.member c.member-node.result (omega arith)
    c.member-node.ensures (ap not (sym c.has_node.ensures ∙ c.if-not-has_node.false)) c.loop-member.invariant

pub returns : goal.returns
returns c =
    let file = c.args.self.now.keeper.file in
    unfound (λ member. not (is_node file member)) c.args.layout.now.members c.loop-member.member (omega arith) c.loop-member.invariant
