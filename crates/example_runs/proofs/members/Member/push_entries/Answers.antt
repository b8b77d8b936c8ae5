use Rattle.example_runs.proofs.GrowthLemmas.{grown_more}
use Rattle.example_runs.proofs.members.Member.push_entries.Goals as goal

pub loop-entry-preserved : goal.loop-entry-preserved
loop-entry-preserved c =
    grown_more c.args.self.now c.loop-entry.self c.push_entry.new.self c.args.entries.now c.loop-entry.entry-index c.entry-item.result
    c.entry-item.result c.loop-entry-test.true c.entry-item.is c.loop-entry.invariant c.in_ok-push_entry.ensures
