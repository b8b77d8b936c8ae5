use Rattle.std.proofs.Common.{◌≡◌, arith, rules}
use Rattle.std.specs.Prelude.{slice_get, Some}
use Rattle.mail.specs.Message.{message_bytes}
use Rattle.soak_parts.proofs.AccountSumLemmas.{capped_more, sum_at, capped_small}
use Rattle.soak_parts.proofs.audit.mailed_anew.Goals as goal

pub loop-place-preserved : goal.loop-place-preserved
loop-place-preserved c =
    let at : slice_get c.args.register.now.object.mail c.loop-place.place ≡ Some c.at.result.now = search rules in
    capped_more _ _ _ _ _ _ c.loop-place.invariant
    (capped_small _ _ c.bytes.ensures.value (omega (arith, c.bytes.ensures.bound, c.bytes.ensures.value)))
    c.saturating_add-total.ensures
    (sum_at message_bytes c.args.register.now.object.mail c.loop-place.place _ at)
