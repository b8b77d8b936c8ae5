use Rattle.std.proofs.Common.{◌≡◌, ◌+◌, take, ap, sym, ◌∙◌, add-one}
use Rattle.tag.specs.Tag.{opening_tag}
use Rattle.local_object.specs.Reports.{greatest_told, later_told}
use Rattle.local_object.proofs.ReportLemmas.{greatest_more}
use Rattle.local_object.proofs.reports.greatest_told.Goals as goal

pub loop-report-preserved : goal.loop-report-preserved
loop-report-preserved c =
    let reports = c.args.reports.now in
    let call = c.args.call in
    let phase = c.args.phase in
    let i = c.loop-report.report-index in
    let report = c.report-item.result in
    let more : greatest_told call phase (take (i + 1) reports) opening_tag
    ≡ later_told call phase (greatest_told call phase (take i reports) opening_tag) report =
    rw add-one (greatest_more call phase reports i opening_tag report c.loop-report-test.true c.report-item.is) in
    c.later_told-greatest.ensures
    ∙ ap (λ g. later_told call phase g report) c.loop-report.invariant
    ∙ sym more
