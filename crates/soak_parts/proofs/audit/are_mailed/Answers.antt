use Rattle.std.proofs.Common.{arith, refl}
use Rattle.soak_parts.proofs.AccountSumLemmas.{capped_equal, capped_more}
use Rattle.soak_parts.proofs.audit.are_mailed.Goals as goal

pub returns : goal.returns
returns c =
    capped_equal _ _ _ _ (capped_more _ _ _ _ _ _ c.mailed_anew.ensures c.mailed_anew-2.ensures c.saturating_add.ensures refl)
    c.mailed.ensures.value
    (omega (arith, c.mailed.ensures.value, c.mailed.ensures.within))
