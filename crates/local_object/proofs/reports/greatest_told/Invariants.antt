use Rattle.std.proofs.Common.{◌≡◌, take}
use Rattle.tag.specs.Tag.{opening_tag}
use Rattle.local_object.specs.Reports.{greatest_told}
use Rattle.local_object.proofs.reports.greatest_told.Given as goal

abbrev pub invariant-loop-report : goal.invariant-loop-report
invariant-loop-report l = l.greatest ≡ greatest_told l.call l.phase (take l.report-index l.reports) opening_tag
