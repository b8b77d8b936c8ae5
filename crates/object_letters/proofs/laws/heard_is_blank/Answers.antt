use Rattle.std.proofs.Common.{◌≡◌}
use Rattle.object_letters.proofs.HearingLemmas.{heard_blank}
use Rattle.object_letters.proofs.laws.heard_is_blank.Goals as goal

pub returns : goal.returns
returns c mover local first here still rebuildable = heard_blank (local.node ≡ mover) local first here still rebuildable
