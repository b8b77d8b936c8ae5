use Rattle.std.proofs.Common.{refl}
use Rattle.cluster_file.proofs.LineLemmas.{lines_go_on, lines_done}
use Rattle.cluster_file.proofs.lines.lines_of.Goals as goal

pub loop-index-preserved : goal.loop-index-preserved
loop-index-preserved c =
    lines_go_on c.args.texts.now c.loop-index.index _ _ _ _ _ refl c.loop-index-test.true c.in_ok-line.ensures c.in_ok-push_line.ensures
    c.loop-index.invariant

pub returns : goal.returns
returns c = lines_done c.args.texts.now c.loop-index.index _ _ c.loop-index-test.false c.loop-index.invariant
