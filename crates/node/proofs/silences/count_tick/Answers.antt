use Rattle.std.proofs.Common.{◌≡◌, ◌<◌, ◌∙◌, None, length, set, get_or, ap, refl, arith}
use Rattle.std.proofs.lemmas.List.{length-set}
use Rattle.node_strings.specs.Heard.{has_heard}
use Rattle.node.specs.Peers.{silence_after}
use Rattle.node.proofs.SilenceLemmas.{one_more_counted}
use Rattle.node.proofs.silences.count_tick.Goals as goal

pub loop-node-preserved : goal.loop-node-preserved
loop-node-preserved c =
    let heard = c.args.heard.now in
    let old = c.args.silences.now in
    let so_far = c.loop-node.silences in
    let node = c.loop-node.node in
    let silence = get_or so_far node None in
    let less : node < length old = let test = c.loop-node-test.true in let same = c.loop-node.invariant.1 in omega arith in
    let is : c.after.result ≡ silence_after (has_heard heard node) silence =
    c.after.ensures ∙ ap (λ named. silence_after named silence) c.has.ensures in (
      ap (λ s. set so_far node s) is ∙ one_more_counted heard old so_far node silence less c.loop-node.invariant.0 refl,
      length-set so_far node c.after.result ∙ c.loop-node.invariant.1,
    )
