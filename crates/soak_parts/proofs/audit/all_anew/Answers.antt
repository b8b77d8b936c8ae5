use Rattle.std.proofs.Common.{◌+◌, ℕ}
use Rattle.record.specs.Accounts.{stored}
use Rattle.soak_parts.proofs.AccountSumLemmas.{capped_more, sum_more}
use Rattle.soak_parts.proofs.audit.all_anew.Goals as goal

pub loop-server-preserved : goal.loop-server-preserved
loop-server-preserved c =
    let f : ℕ → ℕ = λ s. stored c.args.one.now.object s + stored c.args.other.now.object s in
    capped_more _ _ _ _ _ _ c.loop-server.invariant c.both_anew.ensures c.saturating_add-total.ensures (sum_more f c.loop-server.server)
