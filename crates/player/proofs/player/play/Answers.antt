use Rattle.std.proofs.Common.{refl}
use Rattle.player.proofs.CommandResultLemmas.{begun}
use Rattle.player.proofs.player.play.Goals as goal

pub returns : goal.returns
returns g c =
    begun _ _ c.args.cluster.now c.new.result c.args.command c.in-Servers.count _ c.in_default.is c.in-Servers.is c.new.ensures
    (c.print_line.ensures _ refl)
