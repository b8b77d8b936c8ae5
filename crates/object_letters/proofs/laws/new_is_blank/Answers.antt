use Rattle.std.proofs.Common.{◌≡◌}
use Rattle.object_letters.proofs.NewObjectLemmas.{new_blank}
use Rattle.object_letters.proofs.laws.new_is_blank.Goals as goal

pub returns : goal.returns
returns c mover local first here still alone = new_blank (local.node ≡ mover) local first here still alone
