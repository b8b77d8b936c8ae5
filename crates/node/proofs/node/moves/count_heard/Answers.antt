use Rattle.std.proofs.Common.{arith}
use Rattle.node.specs.Moves.{hears}
use Rattle.node.proofs.MoveLemmas.{all_counted, counted}
use Rattle.node.proofs.node.moves.count_heard.Goals as goal

pub loop-member-preserved : goal.loop-member-preserved
loop-member-preserved c =
    counted (hears c.args.number c.args.heard.now) c.args.layout.now.members c.loop-member.member c.member.result c.loop-member.count
    c.with_one_if-count.result c.hears-is_heard.result (omega arith) c.member.ensures c.hears-is_heard.ensures
    c.with_one_if-count.ensures c.loop-member.invariant

pub returns : goal.returns
returns c =
    all_counted (hears c.args.number c.args.heard.now) c.args.layout.now.members c.loop-member.member c.loop-member.count (omega arith)
    c.loop-member.invariant.0
