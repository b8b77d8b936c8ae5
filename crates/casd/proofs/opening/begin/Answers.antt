use Rattle.std.proofs.Common.{arith, refl}
use Rattle.casd.proofs.LogFaultLemmas.{told_failed, told_same}
use Rattle.casd.proofs.opening.begin.Goals as goal

pub returns-in-Err-clause-failure : goal.returns-in-Err-clause-failure
returns-in-Err-clause-failure g c = told_same _ _ _ refl (λ three. omega (arith, three))

pub returns-then-is_err-clause-failure : goal.returns-then-is_err-clause-failure
returns-then-is_err-clause-failure g c = told_same _ _ _ refl (λ three. omega (arith, three))

pub returns-in-Ok-append_bytes-clause-failure : goal.returns-in-Ok-append_bytes-clause-failure
returns-in-Ok-append_bytes-clause-failure g c =
    told_same _ _ _ c.in-Ok-append_bytes.ensures.failure (λ three. omega (arith, three))
