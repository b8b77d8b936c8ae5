use Rattle.std.proofs.Common.{◌≡◌, ◌≤◌, take, count_by}
use Rattle.history.specs.Check.{must_stand, entries_listed}
use Rattle.history.proofs.certificate.answered_in.Given as goal

abbrev pub invariant-loop-call : goal.invariant-loop-call
invariant-loop-call l =
    record { few : l.count ≤ l.call-index; counted : l.count ≡ count_by must_stand (entries_listed l.entries (take l.call-index l.order)) }
