use Rattle.std.proofs.lemmas.Result.{err_from_is_err_and}
use Rattle.cluster_file.proofs.NodeLemmas.{nodes_go_on, nodes_stop_at, nodes_end_at, apart_more}
use Rattle.cluster_file.proofs.nodes.nodes_of.Goals as goal

pub returns-in_err-node-clause-exact : goal.returns-in_err-node-clause-exact
returns-in_err-node-clause-exact c =
    let p = err_from_is_err_and c.from_residual.result c.from_residual.ensures.1 in
    let e = rw c.deref.ensures.0 at c.in_err-node.ensures.exact in
    rw (p.1, p.2) (nodes_stop_at c.args.others.now c.loop-word.nodes.items c.args.line c.loop-word.word-index c.in_err-node.field-0.0
    c.args.words.now _ _ c.loop-word-test.true e c.loop-word.invariant.0)

pub loop-word-preserved : goal.loop-word-preserved
loop-word-preserved c =
    let e = rw c.deref.ensures.0 at c.in_ok-node.ensures.exact in
    let unlisted = rw c.deref.ensures.0 at c.in_ok-node.ensures.unlisted in
    let room = rw c.deref.ensures.0 at c.in_ok-node.ensures.room in (
      nodes_go_on c.args.others.now c.loop-word.nodes.items _ c.args.line c.in_ok-node.node c.loop-word.word-index
          c.args.words.now _ _ c.loop-word-test.true e c.push.ensures.items c.loop-word.invariant.0,
      apart_more c.args.others.now c.loop-word.nodes.items _ c.in_ok-node.node c.loop-word.invariant.1 c.in_ok-node.ensures.new
          unlisted room c.push.ensures.items,
    )

pub returns-clause-exact : goal.returns-clause-exact
returns-clause-exact c =
    nodes_end_at c.args.others.now c.loop-word.nodes.items c.args.line c.loop-word.word-index c.args.words.now _
    c.loop-word-test.false c.loop-word.invariant.0
