use Rattle.node_log.proofs.EntryLemmas.{not_damaged, one_entry}
use Rattle.node_log.proofs.CutEntryLemmas.{cut_entry, no_end}
use Rattle.node_log.proofs.laws.entries_are_read_back.Goals as goal

pub returns-clause-written : goal.returns-clause-written
returns-clause-written c chain strings rest lawful = (no_end chain strings rest lawful, not_damaged chain strings rest lawful)

pub returns-clause-cut : goal.returns-clause-cut
returns-clause-cut c = cut_entry

pub returns-clause-one : goal.returns-clause-one
returns-clause-one c = one_entry
