use Rattle.std.proofs.Common.{ap, ◌∙◌, arith}
use Rattle.record.specs.Accounts.{base_bytes}
use Rattle.register.specs.State.{State}
use Rattle.register.proofs.RetireLemmas.{base_part, freed_is, retire_kept, retire_step, retiring}
use Rattle.register.proofs.StepInvariantLemmas.{base_within, few_positions}
use Rattle.register.proofs.register.Register.retire.Goals as goal

pub index_mut-requires : goal.index_mut-requires
index_mut-requires c = let within = base_within _ c.self.invariant in omega (arith, within)

pub retire-freed-requires : goal.retire-freed-requires
retire-freed-requires c =
    let part = base_part c.self.invariant c.index_mut.ensures.value in
    omega (arith, part, c.self.invariant.limits.stored, c.self.invariant.stored)

pub overflow_sub-self : goal.overflow_sub-self
overflow_sub-self c =
    omega (arith, base_part c.self.invariant c.index_mut.ensures.value, c.retire-freed.ensures.freed)

pub overflow_add-self : goal.overflow_add-self
overflow_add-self c =
    let within = base_within _ c.self.invariant in
    let few = few_positions _ c.self.invariant in
    omega (arith, within, few)

pub invariant_of-self : goal.invariant_of-self
invariant_of-self c =
    let r = retiring c.args.position c.args.now c.self.invariant c.self.view_is c.in_ok-may_retire.ensures.cause c.index_mut.ensures.value
    c.retire-freed.ensures.layout c.retire-freed.ensures.banks in
    retire_kept r c.retire-freed.ensures.freed c.self.view_is c.requires.after

pub returns-clause-step : goal.returns-clause-step
returns-clause-step c =
    let r = retiring c.args.position c.args.now c.self.invariant c.self.view_is c.in_ok-may_retire.ensures.cause c.index_mut.ensures.value
    c.retire-freed.ensures.layout c.retire-freed.ensures.banks in
    rw (← c.self.view_is) (retire_step r c.retire-freed.ensures.freed)

pub returns-clause-freed : goal.returns-clause-freed
returns-clause-freed c =
    let r = retiring c.args.position c.args.now c.self.invariant c.self.view_is c.in_ok-may_retire.ensures.cause c.index_mut.ensures.value
    c.retire-freed.ensures.layout c.retire-freed.ensures.banks in
    freed_is r c.retire-freed.ensures.freed ∙ ap (λ (s : State). base_bytes s.object) c.self.view_is
