use Rattle.std.proofs.Common.{rules}
use Rattle.soak.proofs.MadeCallLemmas.{MovesAll-more}
use Rattle.soak.proofs.moves.make_moves.Goals as goal

pub loop-number-preserved : goal.loop-number-preserved
loop-number-preserved g c =
    MovesAll-more g.L.StoreName.first c.loop-number.number c.args.admin c.loop-number.admin c.make_move.new.admin
    c.loop-number.invariant c.in_ok-make_move.ensures

pub loop-number-init : goal.loop-number-init
loop-number-init g c = search rules
