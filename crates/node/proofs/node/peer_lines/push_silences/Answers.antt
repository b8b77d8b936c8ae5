use Rattle.std.proofs.Common.{ℕ, refl}
use Rattle.std.proofs.Common.{get_or}
use Rattle.node.specs.Info.{silence_line_of}
use Rattle.node.proofs.ShownLemmas.{one_more_shown}
use Rattle.node.proofs.node.peer_lines.push_silences.Goals as goal

pub loop-i-preserved : goal.loop-i-preserved
loop-i-preserved c =
    let node = get_or c.args.nodes.now c.loop-i.i 0 in
    let line = silence_line_of c.args.number c.args.peers.now.silences in
    one_more_shown line c.args.nodes.now c.loop-i.i c.args.text.now.items c.loop-i.text.items c.push_silence.new.text.items
    (line node) c.loop-i-test.true c.loop-i.invariant refl c.in_ok-push_silence.ensures
