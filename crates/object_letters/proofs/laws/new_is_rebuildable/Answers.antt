use Rattle.object_letters.proofs.RebuildableLemmas.{new_rebuildable}
use Rattle.object_letters.proofs.laws.new_is_rebuildable.Goals as goal

pub returns : goal.returns
returns c = new_rebuildable
