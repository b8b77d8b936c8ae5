-- The contracts that docs/trusted.md lists do not depend on this file; other contracts and proofs do.
-- Why the program ends early, and with which exit status.
use Rattle.std.specs.Prelude.{ℕ}
use Rattle.player.specs.Script.{exit_status_of_end}
use Rattle.trace.specs.declared.fault.Fault.{Fault}
use Rattle.trace.specs.declared.fault.Fault.TheVariants as fault

-- the exit status of each fault
abbrev pub exit_status_of_fault : Fault → ℕ
exit_status_of_fault fault.NotText = 2
exit_status_of_fault fault.Usage = 2
exit_status_of_fault (fault.Ended end) = exit_status_of_end end
exit_status_of_fault (fault.Refused refusal) = 1
exit_status_of_fault fault.OutputLost = 1
