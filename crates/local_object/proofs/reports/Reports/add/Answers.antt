use Rattle.std.proofs.Common.{◌≡◌, [], ◌∷◌, ◌++◌, false, List, sym, subst, ap, ◌∙◌}
use Rattle.std.specs.List.{list_any}
use Rattle.local_object.specs.declared.report.Report.{Report}
use Rattle.local_object.specs.Distinct.{DifferInMembers}
use Rattle.local_object.specs.Reports.{is_kept_beside, is_same}
use Rattle.local_object.proofs.ApartReportLemmas.{differ_beside, differ_kept}
use Rattle.local_object.proofs.reports.Reports.add.Goals as goal

pub invariant_of-self : goal.invariant_of-self
invariant_of-self c =
    let report = c.args.report in
    let old = c.self.inside.reports.items in record {
      apart = subst DifferInMembers (sym (c.in_err-push.ensures.items ∙ c.keep_beside.ensures))
          (differ_kept (is_kept_beside report) old c.self.invariant.apart);
    }

pub invariant_of-self-2 : goal.invariant_of-self-2
invariant_of-self-2 c =
    let report = c.args.report in
    let old = c.self.inside.reports.items in
    let none : list_any (is_same report) old ≡ false =
    ap (λ (reports : List Report). list_any (is_same report) reports) (sym c.deref.ensures.value) ∙ sym c.has_same.ensures
    ∙ c.if-has_same.false in record {
      apart = subst DifferInMembers (sym (c.in_ok-push.ensures.items ∙ ap (λ (reports : List Report). reports ++ report ∷ [])
          c.keep_beside.ensures)) (differ_beside report old c.self.invariant.apart none);
    }
