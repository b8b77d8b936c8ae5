use Rattle.std.proofs.Common.{◌≡◌}
use Rattle.object_letters.proofs.ClosedCopyLemmas.{letters_lead}
use Rattle.object_letters.proofs.laws.letters_lead_back.Goals as goal

pub returns : goal.returns
returns c mover local copy rebuildable room blank = letters_lead (local.node ≡ mover) local copy rebuildable room blank
