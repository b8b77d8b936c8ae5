use Rattle.std.proofs.Common.{◌≡◌, eqb, filter, not, rules, sym, subst, ap, ◌∙◌}
use Rattle.std.proofs.lemmas.Fn.{filter_same}
use Rattle.local_object.specs.declared.report.Report.{Report}
use Rattle.local_object.specs.Distinct.{DifferInMembers}
use Rattle.local_object.specs.Reports.{without_reports}
use Rattle.local_object.proofs.ApartReportLemmas.{differ_kept}
use Rattle.local_object.proofs.reports.Reports.forget.Goals as goal

pub invariant_of-self : goal.invariant_of-self
invariant_of-self c =
    let reports = c.self.inside.reports.items in
    let other = λ (r : Report). not (eqb r.call c.args.call) in
    let kept : c.retain.new.self.items ≡ filter other reports =
    filter_same _ _ _ (λ x b f' k. search rules) _ _ c.retain.ensures.filtered in
    record { apart = subst DifferInMembers (sym kept) (differ_kept other reports c.self.invariant.apart) }

pub returns : goal.returns
returns c =
    let reports = c.self.inside.reports.items in
    let kept : c.retain.new.self.items ≡ filter (λ (r : Report). not (eqb r.call c.args.call)) reports =
    filter_same _ _ _ (λ x b f' k. search rules) _ _ c.retain.ensures.filtered in
    kept ∙ ap (without_reports c.args.call) c.self.view_is
