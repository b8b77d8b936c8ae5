use Rattle.std.proofs.Common.{nat_le, ◌<◌, ◌≤◌, sym, ap, subst, ◌∙◌, arith}
use Rattle.tag.specs.Refusal.{IsExactlyByCause}
use Rattle.tag.specs.declared.limits.TheConstants.{LONGEST_VALUE}
use Rattle.tag.specs.declared.refusal.Refusal.TheVariants.{TooLong}
use Rattle.register.proofs.RoomLemmas.{is_le, not_le}
use Rattle.register.specs.Causes.{unless, read_cause}
use Rattle.cluster.specs.Causes.{next}
use Rattle.cluster.specs.Cluster.{Cluster, named}
use Rattle.cluster.proofs.FoundObjectLemmas.{IsFound, cause_found, none_at}
use Rattle.cluster.proofs.ObjectStepLemmas.{next_is}
use Rattle.cluster.proofs.StepInvariantLemmas.{placed}
use Rattle.cluster.proofs.cluster.Cluster.may_call.Goals as goal

pub returns-in_default : goal.returns-in_default
returns-in_default c =
    record {
      cause = none_at c.args.self.now c.args.name.now (λ object.
          unless (nat_le c.args.len LONGEST_VALUE) TooLong (read_cause (next c.args.self.now) object)) c.in_default.ensures;
    }

pub returns-then-len-gt-LONGEST_VALUE : goal.returns-then-len-gt-LONGEST_VALUE
returns-then-len-gt-LONGEST_VALUE c =
    let found : IsFound c.args.self.now c.args.name.now c.register_at-register.result.now =
    record { here = c.register_at-register.ensures } in
    let long : LONGEST_VALUE < c.args.len = omega (arith, c.if-len-gt-LONGEST_VALUE.true) in
    record {
      cause = cause_found found _
          ∙ ap (λ b. unless b TooLong (read_cause (next c.args.self.now) c.register_at-register.result.now.object))
          (not_le c.args.len LONGEST_VALUE long);
    }

pub may_call-requires : goal.may_call-requires
may_call-requires c =
    let here = ap (λ (k : Cluster). named k.objects c.args.name.now) c.self.view_is ∙ c.register_at-register.ensures in
    let p = placed c.args.name.now c.register_at-register.result.now c.self.invariant.kept here in
    let past = p.1.past in
    record { after = omega (arith, past) }

pub returns : goal.returns
returns c =
    let found : IsFound c.args.self.now c.args.name.now c.register_at-register.result.now =
    record { here = c.register_at-register.ensures } in
    let short : c.args.len ≤ LONGEST_VALUE = omega (arith, c.if-len-gt-LONGEST_VALUE.false) in
    record {
      cause = subst (λ o. IsExactlyByCause o c.may_call.result)
          (sym (cause_found found _
          ∙ ap (λ b. unless b TooLong (read_cause (next c.args.self.now) c.register_at-register.result.now.object))
          (is_le c.args.len LONGEST_VALUE short)
          ∙ ap (λ n. read_cause n c.register_at-register.result.now.object) (next_is c.self.view_is))) c.may_call.ensures.cause;
    }
