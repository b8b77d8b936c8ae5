-- The contracts that docs/trusted.md lists do not depend on this file; other contracts and proofs do.
-- The exit statuses of the faults.
use Rattle.std.specs.Prelude.{ℕ}
use Rattle.coding_commands.specs.declared.fault.Fault.{Fault}
use Rattle.coding_commands.specs.declared.fault.Fault.TheVariants.{NotText, Usage, BadArgument, Refused, OutputLost}

-- the exit status of each fault
abbrev pub exit_status_of : Fault → ℕ
exit_status_of NotText = 2
exit_status_of Usage = 2
exit_status_of BadArgument = 2
exit_status_of (Refused refusal) = 1
exit_status_of OutputLost = 1
