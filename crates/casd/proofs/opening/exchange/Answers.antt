use Rattle.std.proofs.Common.{Some, arith}
use Rattle.casd.proofs.LogFaultLemmas.{told_failed, told_since}
use Rattle.casd.proofs.opening.exchange.Goals as goal

pub returns-in-Ok-Done-clause-rewritten : goal.returns-in-Ok-Done-clause-rewritten
returns-in-Ok-Done-clause-rewritten g c =
    λ node anew. (Some c.args.entries.now, anew, rw c.in-Ok-Done.field-0-is at c.in-Ok-Done.ensures.kept)

pub returns-in-Ok-Done-clause-failure : goal.returns-in-Ok-Done-clause-failure
returns-in-Ok-Done-clause-failure g c = told_since _ _ _ c.in-Ok-Done.ensures.failure (λ three. omega (arith, three))

pub returns-in-Ok-GivenUp-clause-failure : goal.returns-in-Ok-GivenUp-clause-failure
returns-in-Ok-GivenUp-clause-failure g c =
    told_since _ _ _ c.in-Ok-GivenUp.ensures.failure (λ three. omega (arith, three))

pub returns-in-Err-clause-failure : goal.returns-in-Err-clause-failure
returns-in-Err-clause-failure g c = told_failed _ _ c.in-Err.ensures.failure
