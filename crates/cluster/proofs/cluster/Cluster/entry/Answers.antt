use Rattle.std.proofs.Common.{inl, sym, ap, subst, ◌∙◌}
use Rattle.std.specs.Prelude.{option_map}
use Rattle.tag.specs.Refusal.{IsByCause}
use Rattle.record.specs.Journals.{entry_of}
use Rattle.register.specs.Causes.{call_at, number_cause}
use Rattle.cluster.specs.Causes.{if_object}
use Rattle.cluster.specs.Cluster.{if_some}
use Rattle.cluster.proofs.FoundObjectLemmas.{if_ok}
use Rattle.cluster.proofs.ObjectAtPlaceLemmas.{placed_found, placed_none}
use Rattle.cluster.proofs.cluster.Cluster.entry.Goals as goal

pub returns-in-Some : goal.returns-in-Some
returns-in-Some c =
    let there = placed_found c.self.inside.objects.entries c.args.object c.self.view_is
    (c.in-Some.field-0-0.now, c.in-Some.register.now) c.in-Some.ensures.entry in
    record {
      entry = if_ok c.entry.result (λ x e. ap
          (λ o. if_some o (λ object. option_map (entry_of c.args.call) (call_at object c.args.call))) there
          ∙ e) c.entry.ensures.entry;
      cause = subst (λ o. IsByCause o c.entry.result)
          (sym (ap (λ o. if_object o (λ object. number_cause object c.args.call)) there)) c.entry.ensures.cause;
    }

pub returns-in-None-clause-cause : goal.returns-in-None-clause-cause
returns-in-None-clause-cause c =
    let there = placed_none c.self.inside.objects.entries c.args.object c.self.view_is c.in-None.ensures.entry in
    inl (ap (λ o. if_object o (λ object. number_cause object c.args.call)) there)
