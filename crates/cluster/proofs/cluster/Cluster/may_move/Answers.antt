use Rattle.std.proofs.Common.{◌<◌, ◌≤◌, length, refl, sym, ap, subst, ◌∙◌, arith}
use Rattle.tag.specs.Refusal.{IsExactlyByCause}
use Rattle.register.proofs.ListLemmas.{found}
use Rattle.cluster.specs.Causes.{moving_cause}
use Rattle.cluster.specs.Cluster.{Cluster, named}
use Rattle.cluster.proofs.FoundObjectLemmas.{IsFound, cause_found, none_at}
use Rattle.cluster.proofs.MoveRefusalLemmas.{IsLayout, move_pending, move_nowhere, move_to}
use Rattle.cluster.proofs.StepInvariantLemmas.{placed}
use Rattle.cluster.proofs.cluster.Cluster.may_move.Goals as goal

pub returns-in_default : goal.returns-in_default
returns-in_default c =
    record { cause = none_at c.args.self.now c.args.name.now (moving_cause c.args.self.now c.args.id) c.in_default.ensures }

pub returns-then-is_moving : goal.returns-then-is_moving
returns-then-is_moving c =
    let now = c.args.self.now in
    let found : IsFound c.args.self.now c.args.name.now c.register_at-register.result.now =
    record { here = c.register_at-register.ensures } in
    record {
      cause = cause_found found (moving_cause c.args.self.now c.args.id)
          ∙ move_pending {servers = now.servers} {layouts = now.layouts} {objects = now.objects} {counter = now.counter} {now = now} refl
          c.args.id
          c.register_at-register.result.now.object (sym c.is_moving.ensures ∙ c.if-is_moving.true);
    }

pub returns-then-id-len : goal.returns-then-id-len
returns-then-id-len c =
    let found : IsFound c.args.self.now c.args.name.now c.register_at-register.result.now =
    record { here = c.register_at-register.ensures } in
    let past : length c.self.inside.layouts.items ≤ c.args.id = omega (arith, c.len.ensures, c.if-id-len.true) in
    record {
      cause = cause_found found (moving_cause c.args.self.now c.args.id)
          ∙ move_nowhere c.self.view_is c.args.id c.register_at-register.result.now.object
          (sym c.is_moving.ensures ∙ c.if-is_moving.false) refl past;
    }

pub may_move-requires : goal.may_move-requires
may_move-requires c =
    let here = ap (λ (k : Cluster). named k.objects c.args.name.now) c.self.view_is ∙ c.register_at-register.ensures in
    let p = placed c.args.name.now c.register_at-register.result.now c.self.invariant.kept here in
    let past = p.1.past in
    record { after = omega (arith, past) }

pub returns : goal.returns
returns c =
    let found_object : IsFound c.args.self.now c.args.name.now c.register_at-register.result.now =
    record { here = c.register_at-register.ensures } in
    let within : c.args.id < length c.self.inside.layouts.items = omega (arith, c.len.ensures, c.if-id-len.false) in
    let there = found c.self.inside.layouts.items c.args.id within in
    let is : IsLayout c.self.inside.layouts.items c.args.id there.0 = record { here = there.1 } in
    record {
      cause = subst (λ o. IsExactlyByCause o c.may_move.result)
          (sym (cause_found found_object (moving_cause c.args.self.now c.args.id)
          ∙ move_to c.self.view_is c.args.id c.register_at-register.result.now.object there.0 is
          (sym c.is_moving.ensures ∙ c.if-is_moving.false)))
          (c.may_move.ensures.cause there.0);
    }
