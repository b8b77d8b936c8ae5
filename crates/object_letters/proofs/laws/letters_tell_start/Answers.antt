use Rattle.std.proofs.Common.{◌≡◌}
use Rattle.object_letters.proofs.ClosedCopyLemmas.{letters_start}
use Rattle.object_letters.proofs.laws.letters_tell_start.Goals as goal

pub returns : goal.returns
returns c mover local copy rebuildable room knows blank =
    letters_start (local.node ≡ mover) local copy rebuildable room knows blank
