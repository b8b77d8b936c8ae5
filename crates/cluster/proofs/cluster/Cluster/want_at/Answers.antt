use Rattle.std.proofs.Common.{sym, subst, ◌∙◌}
use Rattle.tag.specs.Refusal.{IsExactlyByCause}
use Rattle.register.specs.Causes.{number_cause}
use Rattle.register.specs.View.{want_at}
use Rattle.cluster.proofs.FoundObjectLemmas.{IsFound, read_found, cause_found, if_ok}
use Rattle.cluster.proofs.cluster.Cluster.want_at.Goals as goal

pub returns : goal.returns
returns c =
    let found : IsFound c.args.self.now c.args.name.now c.register_at.result.now = record { here = c.register_at.ensures } in
    record {
      want = if_ok c.want.result (λ x e. read_found found (λ object. want_at object c.args.call) ∙ e) c.want.ensures.want;
      cause = subst (λ o. IsExactlyByCause o c.want.result)
          (sym (cause_found found (λ object. number_cause object c.args.call))) c.want.ensures.cause;
    }
