use Rattle.std.proofs.lemmas.Bool.{and_parts}
use Rattle.node_store.proofs.FolderLemmas.{file_tells, within_found, writes_grow}
use Rattle.node_store.proofs.folder.FolderLogLog.append.Goals as goal

pub returns-clause-within : goal.returns-clause-within
returns-clause-within g c =
    rw (← c.self.view_is)
    (λ sound. within_found (g.D.DiskFolder.other c.self.inside.folder) _ _ _ _ (writes_grow c.append.result _ _ _ c.append.ensures.written)
    (c.append.ensures.within (and_parts _ _ sound).0))

pub returns-clause-failure : goal.returns-clause-failure
returns-clause-failure g c = rw (← c.self.view_is) (file_tells c.append.result _ _ _ c.append.ensures.failure)
