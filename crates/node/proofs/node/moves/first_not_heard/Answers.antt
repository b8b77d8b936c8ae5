use Rattle.std.proofs.Common.{◌∙◌, ap, sym, not, arith}
use Rattle.node.specs.Moves.{hears}
use Rattle.node.proofs.MoveLemmas.{found, passed, unfound}
use Rattle.node.proofs.node.moves.first_not_heard.Goals as goal

pub returns-then-not-hears : goal.returns-then-not-hears
returns-then-not-hears c =
    found (λ member. not (hears c.args.number c.args.heard.now member)) c.args.layout.now.members c.loop-member.member
    c.member-node.result (omega arith) c.member-node.ensures (ap not (sym c.hears.ensures ∙ c.if-not-hears.true))
    c.loop-member.invariant

pub loop-member-preserved : goal.loop-member-preserved
loop-member-preserved c =
    passed (λ member. not (hears c.args.number c.args.heard.now member)) c.args.layout.now.members c.loop-member.member
    c.member-node.result (omega arith) c.member-node.ensures (ap not (sym c.hears.ensures ∙ c.if-not-hears.false))
    c.loop-member.invariant

pub returns : goal.returns
returns c =
    unfound (λ member. not (hears c.args.number c.args.heard.now member)) c.args.layout.now.members c.loop-member.member
    (omega arith) c.loop-member.invariant
