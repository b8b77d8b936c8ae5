use Rattle.std.proofs.Common.{suc, length, Some, sym, ap, ◌∙◌}
use Rattle.register.specs.Act.{act_cause}
use Rattle.cluster.specs.Causes.{next, if_object}
use Rattle.cluster.specs.Cluster.{if_some}
use Rattle.cluster.proofs.ActLemmas.{act_ok, act_err, act_some}
use Rattle.cluster.proofs.cluster.Cluster.begin.Goals as goal

pub returns-in_default-clause-cause : goal.returns-in_default-clause-cause
returns-in_default-clause-cause c =
    act_some _ c.args.act (ap (λ o. if_object o (act_cause c.args.act (next c.args.self.now))) c.in_default.ensures)

pub returns : goal.returns
returns c = record {
  step = c.in_ok-make_at.ensures.step;
  may = c.in_ok-make_at.ensures.may;
  number = ap (λ o. if_some o (λ object. Some (suc (length object.calls)))) c.register_at.ensures
      ∙ ap Some (sym c.next_call-number.ensures);
  cause = act_ok _ tt c.next_call-number.result c.args.act c.in_ok-make_at.ensures.cause;
  unchanged = tt;
}

pub returns-in_err-make_at-clause-cause : goal.returns-in_err-make_at-clause-cause
returns-in_err-make_at-clause-cause c =
    act_err _ _ _ c.args.act c.from_residual.result c.from_residual.ensures.1 c.in_err-make_at.ensures.cause
