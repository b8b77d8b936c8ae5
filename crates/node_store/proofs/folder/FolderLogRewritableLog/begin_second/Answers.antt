use Rattle.std.proofs.lemmas.Bool.{or_right}
use Rattle.node_store.proofs.folder.FolderLogRewritableLog.begin_second.Goals as goal

pub returns-clause-unfailed : goal.returns-clause-unfailed
returns-clause-unfailed g c = rw (← c.self.view_is) (λ is. or_right _ _ (c.in_ok-second.ensures.unfailed is))
