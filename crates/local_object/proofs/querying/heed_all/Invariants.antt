use Rattle.std.proofs.Common.{◌≡◌, take}
use Rattle.local_object.specs.Queried.{heeding_all}
use Rattle.local_object.proofs.querying.heed_all.Given as goal

abbrev pub invariant-loop-report : goal.invariant-loop-report
invariant-loop-report l = l.call ≡ heeding_all l.id l.phase l.position l.fn.call (take l.report-index l.reports)
