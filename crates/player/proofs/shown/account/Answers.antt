use Rattle.std.proofs.Common.{refl}
use Rattle.player.proofs.PrintedLineLemmas.{prints_as}
use Rattle.player.proofs.shown.account.Goals as goal

pub returns : goal.returns
returns g c = prints_as _ _ _ _ _ _ refl (c.print_line.ensures _ refl)
