use Rattle.object_letters.proofs.RebuildableLemmas.{stays_rebuildable}
use Rattle.object_letters.proofs.laws.stays_rebuildable.Goals as goal

pub returns : goal.returns
returns c = stays_rebuildable
