use Rattle.std.proofs.Common.{ℕ, sum_by, take}
use Rattle.mail.specs.Phase.{Phase}
use Rattle.register.specs.View.{phases_at}
use Rattle.trace.proofs.CappedSumLemmas.{capped_more, sum_at}
use Rattle.trace.proofs.sums.requests.Goals as goal

pub loop-index-preserved : goal.loop-index-preserved
loop-index-preserved c =
    let phases = phases_at c.args.register.now.object c.args.call in
    let each : Phase → ℕ = λ (p : Phase). p.members in
    capped_more c.loop-index.total (sum_by each (take c.loop-index.index phases)) _ _ _ _ c.loop-index.invariant c.asked_in.ensures
    c.saturating_add-total.ensures (sum_at each phases c.loop-index.index c.phase_at-phase.result.now c.phase_at-phase.ensures)
