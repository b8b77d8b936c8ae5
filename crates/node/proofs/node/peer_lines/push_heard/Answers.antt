use Rattle.std.proofs.Common.{ℕ, ap, get_or}
use Rattle.node.specs.Info.{heard_line}
use Rattle.node.specs.Ready.{hears_now}
use Rattle.node.proofs.ShownLemmas.{one_more_shown}
use Rattle.node.proofs.node.peer_lines.push_heard.Goals as goal

pub loop-i-preserved : goal.loop-i-preserved
loop-i-preserved c =
    let node = get_or c.args.nodes.now c.loop-i.i 0 in
    one_more_shown (λ (it : ℕ). heard_line (hears_now c.args.number c.args.peers.now.heard it) it) c.args.nodes.now c.loop-i.i
    c.args.text.now.items c.loop-i.text.items c.push_heard_line.new.text.items (heard_line c.hears.result node) c.loop-i-test.true
    c.loop-i.invariant (ap (λ heard. heard_line heard node) c.hears.ensures) c.in_ok-push_heard_line.ensures
