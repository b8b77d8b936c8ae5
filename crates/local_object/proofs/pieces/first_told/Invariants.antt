use Rattle.std.proofs.Common.{◌≡◌, take}
use Rattle.local_object.specs.Reports.{first_told}
use Rattle.local_object.proofs.pieces.first_told.Given as goal

abbrev pub invariant-loop-report : goal.invariant-loop-report
invariant-loop-report l = l.pieces.items ≡ first_told l.k l.tag l.call l.phase (take l.report-index l.reports)
