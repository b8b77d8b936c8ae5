use Rattle.std.proofs.Common.{Some, None, inl, ap, sym, ◌∙◌}
use Rattle.record.specs.Journals.{entries}
use Rattle.cluster.proofs.FoundObjectLemmas.{IsFound, read_found, cause_found, none_at, if_ok}
use Rattle.cluster.proofs.RequestRoomLemmas.{only_memory}
use Rattle.cluster.proofs.cluster.Cluster.entries.Goals as goal

pub returns-in-Some : goal.returns-in-Some
returns-in-Some c =
    let found : IsFound c.args.self.now c.args.name.now c.register_at.result.now = record { here = c.register_at.ensures } in
    record {
      entries = if_ok c.entries.result (λ x e. read_found found (λ object. Some (entries object)) ∙ ap Some (sym e))
          c.entries.ensures.entries;
      cause = only_memory c.entries.result (cause_found found (λ object. None)) c.entries.ensures.refused;
    }

pub returns-in-None-clause-cause : goal.returns-in-None-clause-cause
returns-in-None-clause-cause c = inl (none_at c.args.self.now c.args.name.now (λ object. None) c.in-None.ensures)
