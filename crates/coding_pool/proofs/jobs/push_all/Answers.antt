use Rattle.std.proofs.Common.{ap, sym}
use Rattle.coding_pool.specs.declared.jobs.Known.{Known}
use Rattle.coding_pool.proofs.QueueRuleLemmas.{pushes, learns_no_more}
use Rattle.coding_pool.proofs.jobs.push_all.Goals as goal

pub push_as-requires-clause-rule : goal.push_as-requires-clause-rule
push_as-requires-clause-rule g c =
    let h = c.loop-job.invariant.pushed in
    (pushes _ _ _ _ (ap (λ (v : Known). v.parts) h) (sym (ap (λ (v : Known). v.pushed) h)), learns_no_more _ _)
