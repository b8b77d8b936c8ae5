-- The contracts that docs/trusted.md lists do not depend on this file; other contracts and proofs do.
-- A start of a node program that fails, as events of its process.
use Rattle.std.specs.Prelude.{◌≡◌, ◌⊎◌, ℕ, List, [], Option, None, Some}
use Rattle.node_store.specs.Laws.{IsLeft}
use Rattle.node_store.specs.Steps.{IsFront}
use Rattle.processes.specs.Loops.{HaveEvents}
use Rattle.processes.specs.Processes.{Process, Processes}
use Rattle.processes.specs.Programs.{IsStoppedStart}
use Rattle.processes.specs.Runs.{AreReached}

-- the process is stopped, and what its log keeps is what a stop may leave of it
abbrev pub IsStoppedWith : Process → (keeps : Option (List ℕ)) → Type 0
IsStoppedWith process keeps =
    (process.running ≡ None) × ((disk : List ℕ) × (keeps ≡ Some disk) × IsLeft process.log process.synced disk)

-- A start that fails is a list of events of the process, perhaps of none, which write nothing and end with a process
-- that is stopped, and what the log then keeps is what a stop may leave of the process's log. A stop may have left the
-- bytes that were found, and also those that were kept when the log was opened; and the one begins with the other.
abbrev pub StoppedStartsAreEvents : Type 0
StoppedStartsAreEvents = (processes : Processes) (reached : AreReached processes) (number : ℕ) (disk kept : List ℕ)
    (keeps : Option (List ℕ)) →
    (processes.at number).running ≡ None → IsLeft (processes.at number).log (processes.at number).synced disk →
    IsLeft (processes.at number).log (processes.at number).synced kept → (IsFront kept disk ⊎ IsFront disk kept) →
    IsStoppedStart reached.names number disk (Some kept) keeps →
    HaveEvents reached.names number processes (λ written process. (written ≡ []) × IsStoppedWith process keeps)
