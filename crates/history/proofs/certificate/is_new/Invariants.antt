use Rattle.std.proofs.Common.{ℕ, ◌<◌, ◌≤◌, ◌≢◌, get_or}
use Rattle.history.proofs.certificate.is_new.Given as goal

abbrev pub invariant-loop-rest : goal.invariant-loop-rest
invariant-loop-rest l =
    (l.rest ≤ l.place) × ((earlier : ℕ) → l.rest ≤ earlier → earlier < l.place → get_or l.order earlier 0 ≢ l.call)

abbrev pub decreases-loop-rest : goal.decreases-loop-rest
decreases-loop-rest l = l.rest
