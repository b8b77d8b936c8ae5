use Rattle.std.proofs.Common.{arith, sym, ◌∙◌}
use Rattle.casd.proofs.LogFaultLemmas.{told_same, told_then}
use Rattle.casd.proofs.opening.write_anew.Goals as goal

pub returns-then-not-is_worth_rewriting-clause-failure : goal.returns-then-not-is_worth_rewriting-clause-failure
returns-then-not-is_worth_rewriting-clause-failure g c =
    told_same _ _ _ c.remove_second.ensures.failure (λ three. omega (arith, three))

pub returns-in-Ok-Some-clause-failure : goal.returns-in-Ok-Some-clause-failure
returns-in-Ok-Some-clause-failure g c =
    told_then _ _ _ _ (λ failed. sym c.remove_second.ensures.failure ∙ failed) c.exchange.ensures.failure

pub returns-in-Ok-None-clause-failure : goal.returns-in-Ok-None-clause-failure
returns-in-Ok-None-clause-failure g c =
    told_same _ _ _ c.remove_second.ensures.failure (λ three. omega (arith, three))

pub returns-in-Err-clause-failure : goal.returns-in-Err-clause-failure
returns-in-Err-clause-failure g c = told_same _ _ _ c.remove_second.ensures.failure (λ three. omega (arith, three))
