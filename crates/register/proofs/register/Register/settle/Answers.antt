use Rattle.std.proofs.Common.{◌≡◌, None, sym, subst}
use Rattle.register.specs.Act.{act_cause}
use Rattle.register.specs.declared.act.Act.TheVariants as act
use Rattle.register.specs.State.{State}
use Rattle.register.proofs.FoundCallLemmas.{found_at}
use Rattle.register.proofs.PreconditionLemmas.{may_act}
use Rattle.register.proofs.SettleLemmas.{settle_is, settle_kept, settled_as}
use Rattle.register.proofs.register.Register.settle.Goals as goal

pub returns-clause-step : goal.returns-clause-step
returns-clause-step c =
    let f = found_at c.self.invariant c.self.view_is c.in_ok-index.ensures.place c.index_mut.ensures.value in
    let new = settled_as f c.index_mut.ensures.value c.settle.ensures c.into_value.ensures in
    rw (← c.self.view_is) (settle_is f c.args.decoded.value c.args.now new)

pub invariant_of-self : goal.invariant_of-self
invariant_of-self c =
    let e = c.in_ok-index.ensures in
    let f = found_at c.self.invariant c.self.view_is e.place c.index_mut.ensures.value in
    let new = settled_as f c.index_mut.ensures.value c.settle.ensures c.into_value.ensures in
    let asked = act.Settle c.args.call c.args.decoded in
    let none = subst (λ (s : State). act_cause asked c.args.now s.object ≡ None) (sym c.self.view_is) e.cause in
    settle_kept f c.args.decoded.value c.args.now new c.self.view_is c.requires.after
    (may_act _ c.self.invariant c.args.now asked e.decoded none)
