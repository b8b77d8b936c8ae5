use Rattle.std.proofs.Common.{Option, is_some, inl, refl, sym, ap, ◌∙◌, arith}
use Rattle.register.proofs.RoomLemmas.{for_memory, handed_on, same_cause}
use Rattle.register.specs.State.{State}
use Rattle.cluster.proofs.CreationLemmas.{create_allowed, created_is, created_counted}
use Rattle.cluster.proofs.LookupLemmas.{named_is}
use Rattle.cluster.proofs.MoveRefusalLemmas.{is_layout, layout_within}
use Rattle.cluster.proofs.cluster.Cluster.create_with.Goals as goal

pub returns-in_err-may_create-clause-cause : goal.returns-in_err-may_create-clause-cause
returns-in_err-may_create-clause-cause c =
    same_cause _ c.from_residual.result _ c.from_residual.ensures.1 (inl c.in_err-may_create.ensures.cause)

pub index-layout-requires : goal.index-layout-requires
index-layout-requires c =
    let m = create_allowed c.args.name.now c.args.id c.self.view_is c.in_ok-may_create.ensures.cause in
    let within = layout_within m.there in
    let len = c.self.inside.layouts.ok.0 in
    omega (arith, within, len)

-- the copy of a layout is never refused
pub returns-in_err-clone-clause-cause : goal.returns-in_err-clone-clause-cause
returns-in_err-clone-clause-cause c = absurd (c.in_err-clone.ensures.cases tt)

pub returns-in_err-register-clause-cause : goal.returns-in_err-register-clause-cause
returns-in_err-register-clause-cause c =
    handed_on _ c.from_residual-in_err-register.result _ c.in_ok-may_create.ensures.cause c.from_residual-in_err-register.ensures.1
    c.in_err-register.ensures.refused

pub returns-in_err-name-clause-cause : goal.returns-in_err-name-clause-cause
returns-in_err-name-clause-cause c =
    for_memory _ c.from_residual-in_err-name.result c.in_ok-may_create.ensures.cause c.from_residual-in_err-name.ensures.1

pub returns-in_err-insert-clause-cause : goal.returns-in_err-insert-clause-cause
returns-in_err-insert-clause-cause c =
    for_memory _ c.from_residual-in_err-insert.result c.in_ok-may_create.ensures.cause c.from_residual-in_err-insert.ensures.1

pub invariant_of-self-2 : goal.invariant_of-self-2
invariant_of-self-2 c =
    let m = create_allowed c.args.name.now c.args.id c.self.view_is c.in_ok-may_create.ensures.cause in
    let found = is_layout refl (layout_within m.there) c.index-layout.ensures c.in_ok-clone.ensures.cases in
    let fresh = sym (ap (λ (o : Option State). is_some o) (named_is c.self.inside.objects.entries c.args.name.now)) ∙ m.fresh in
    created_counted c.args.delta (record {
      key = c.in_ok-name.name;
      value = c.in_ok-register.register;
      inserted = c.in_ok-insert.ensures.entries;
      called = c.in_ok-name.ensures.ok;
      opened = c.in_ok-register.ensures.made;
      fresh = fresh;
    }) c.args.id found m.few m.few_objects c.self.invariant

pub returns : goal.returns
returns c =
    let m = create_allowed c.args.name.now c.args.id c.self.view_is c.in_ok-may_create.ensures.cause in
    let found = is_layout refl (layout_within m.there) c.index-layout.ensures c.in_ok-clone.ensures.cases in
    let fresh = sym (ap (λ (o : Option State). is_some o) (named_is c.self.inside.objects.entries c.args.name.now)) ∙ m.fresh in
    record {
      step = created_is c.args.delta (record {
        key = c.in_ok-name.name;
        value = c.in_ok-register.register;
        inserted = c.in_ok-insert.ensures.entries;
        called = c.in_ok-name.ensures.ok;
        opened = c.in_ok-register.ensures.made;
        fresh = fresh;
      }) c.args.id c.self.view_is found;
      cause = c.in_ok-may_create.ensures.cause;
      unchanged = tt;
    }
