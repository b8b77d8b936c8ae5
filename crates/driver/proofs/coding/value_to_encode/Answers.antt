use Rattle.std.proofs.lemmas.Result.{IfOk-weaker}
use Rattle.driver.proofs.CodingJobLemmas.{to_encode, value_by}
use Rattle.driver.proofs.ObjectIndexLemmas.{missing_by}
use Rattle.driver.proofs.coding.value_to_encode.Goals as goal

pub returns-in_err-may_supply_at-clause-cause : goal.returns-in_err-may_supply_at-clause-cause
returns-in_err-may_supply_at-clause-cause c =
    missing_by _ _ _ c.from_residual.ensures.1 c.in_err-may_supply_at.ensures.cause

pub returns-clause-value : goal.returns-clause-value
returns-clause-value c =
    IfOk-weaker c.value_to_code_at.result _ _
    (λ r e. to_encode c.args.cluster.now c.args.name.now c.args.call c.register_at.result.now r.1 r.2 r.0
    c.register_at.ensures c.soundness.ensures.sound c.in_ok-may_supply_at.ensures.cause e)
    c.value_to_code_at.ensures.value

pub returns-clause-cause : goal.returns-clause-cause
returns-clause-cause c =
    value_by c.args.cluster.now c.args.name.now c.args.call c.value_to_code_at.result c.in_ok-may_supply_at.ensures.cause
    c.value_to_code_at.ensures.cause
