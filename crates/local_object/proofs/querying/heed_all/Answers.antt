use Rattle.std.proofs.Common.{take, ap, sym, ◌∙◌, add-one}
use Rattle.call.specs.Call.{OpenCall as Machine}
use Rattle.local_object.specs.Queried.{heeding, heeding_all}
use Rattle.local_object.proofs.HeedingLemmas.{heeding_more}
use Rattle.local_object.proofs.querying.heed_all.Goals as goal

pub loop-report-preserved : goal.loop-report-preserved
loop-report-preserved c =
    let reports = c.args.reports.now in
    let id = c.args.id in
    let phase = c.args.phase in
    let position = c.args.position in
    let old = c.args.call.now in
    let i = c.loop-report.report-index in
    let report = c.report-item.result in
    c.heed.ensures
    ∙ ap (λ (m : Machine). heeding id phase position m report) c.loop-report.invariant
    ∙ sym (heeding_more id phase position old reports i report c.loop-report-test.true c.report-item.is)
    ∙ ap (λ n. heeding_all id phase position old (take n reports)) (sym (add-one i))
