use Rattle.std.proofs.Common.{inr}
use Rattle.node.proofs.FailureLemmas.{same_error}
use Rattle.node.proofs.node.Node.finish.Goals as goal

pub returns-in_err-go_a_step-clause-refused : goal.returns-in_err-go_a_step-clause-refused
returns-in_err-go_a_step-clause-refused c =
    same_error _ c.from_residual.result c.in_err-go_a_step.field-0.0 c.from_residual.ensures.1
    (inr (λ asker got came first acted served fit. record {
      middle = c.loop.self;
      work = c.loop.work;
      acted = c.loop.invariant.acted asker got first.keeper acted;
      served = c.loop.invariant.served came first served;
      fit = λ bytes whole. c.loop.invariant.fit (fit bytes whole);
      fails = c.in_err-go_a_step.ensures.refused;
    }))
