use Rattle.std.proofs.Common.{◌≡◌, ◌+◌, ◌++◌, take, ap, sym, ◌∙◌, add-one}
use Rattle.std.specs.Option.{option_to_list}
use Rattle.local_object.specs.Reports.{told_piece, told_pieces}
use Rattle.local_object.proofs.ReportLemmas.{told_more}
use Rattle.local_object.proofs.pieces.first_told.Goals as goal

pub loop-report-preserved : goal.loop-report-preserved
loop-report-preserved c =
    let reports = c.args.reports.now in
    let tag = c.args.tag in
    let call = c.args.call in
    let phase = c.args.phase in
    let i = c.loop-report.report-index in
    let report = c.report-item.result in
    let more : told_pieces tag call phase (take (i + 1) reports)
    ≡ told_pieces tag call phase (take i reports) ++ option_to_list (told_piece tag call phase report) =
    rw add-one (told_more tag call phase reports i report c.loop-report-test.true c.report-item.is) in
    c.in_ok-add_piece.ensures.added (told_pieces tag call phase (take i reports)) c.loop-report.invariant
    ∙ ap (λ o. take c.args.k (told_pieces tag call phase (take i reports) ++ option_to_list o)) c.told_piece.ensures
    ∙ sym (ap (take c.args.k) more)
