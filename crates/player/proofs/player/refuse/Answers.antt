use Rattle.std.proofs.Common.{refl}
use Rattle.player.proofs.player.refuse.Goals as goal

pub returns : goal.returns
returns g c = c.print_line.ensures _ refl
