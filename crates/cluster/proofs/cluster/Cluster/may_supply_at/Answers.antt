use Rattle.std.proofs.Common.{sym, ap, subst, ◌∙◌, arith}
use Rattle.tag.specs.Refusal.{IsExactlyByCause}
use Rattle.register.specs.Causes.{supplying_cause}
use Rattle.cluster.proofs.FoundObjectLemmas.{IsFound, cause_found}
use Rattle.cluster.proofs.ObjectStepLemmas.{next_is}
use Rattle.cluster.proofs.StepInvariantLemmas.{placed}
use Rattle.cluster.proofs.cluster.Cluster.may_supply_at.Goals as goal

pub may_supply-requires : goal.may_supply-requires
may_supply-requires c =
    let p = placed c.args.name.now c.register_at.result.now c.self.invariant.kept (rw (← c.self.view_is) at c.register_at.ensures) in
    let past = p.1.past in
    record { after = omega (arith, past) }

pub returns : goal.returns
returns c =
    let found : IsFound c.args.self.now c.args.name.now c.register_at.result.now = record { here = c.register_at.ensures } in
    record {
      cause = subst (λ o. IsExactlyByCause o c.may_supply.result)
          (sym (cause_found found _ ∙ ap (λ n. supplying_cause n c.register_at.result.now.object c.args.call) (next_is c.self.view_is)))
          c.may_supply.ensures.cause;
    }
