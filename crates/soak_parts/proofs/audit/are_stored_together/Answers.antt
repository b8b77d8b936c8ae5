use Rattle.std.proofs.Common.{◌∙◌, ◌+◌, ℕ, ap, arith}
use Rattle.record.specs.Accounts.{member_sum, stored}
use Rattle.std.specs.Io.Iter.{u64_saturate}
use Rattle.soak_parts.proofs.AccountSumLemmas.{capped_equal}
use Rattle.soak_parts.proofs.audit.are_stored_together.Goals as goal

pub returns : goal.returns
returns c =
    let f : ℕ → ℕ = λ s. stored c.args.one.now.object s + stored c.args.other.now.object s in
    capped_equal _ _ _ _ (c.all_anew.ensures ∙ ap (λ n. u64_saturate (member_sum f 0 n)) c.servers.ensures) c.stored_all.ensures.value
    (omega (arith, c.stored_all.ensures.value, c.stored_all.ensures.within))
