-- The contracts that docs/trusted.md lists do not depend on this file; other contracts and proofs do.
-- The moves in the logs of processes, and what the desk of a node has of them after a start.
use Rattle.std.specs.Prelude.{ℕ, nat_eq, List, Option}
use Rattle.std.specs.List.{AllByRecursion, IsDistinct}
use Rattle.node_strings.specs.Strings.{Strings}
use Rattle.node.specs.OpenMoves.{HasOpenMoves, moved_ids}
use Rattle.node.specs.declared.node.Node.{Node}
use Rattle.node_log.specs.Entry.{first_chain}
use Rattle.node_log.specs.Reading.{IsEnd}
use Rattle.node_store.specs.Laws.{IsLeft}
use Rattle.node_store.specs.Recovery.{BeginsWith, IsWholeEntry}
use Rattle.processes.specs.Events.{MayStart}
use Rattle.processes.specs.Processes.{Processes}
use Rattle.processes.specs.Runs.{AreReached}

-- at each moment, no two of the moves that a process's log says began have the same id
abbrev pub LogsHaveDistinctMoves : Type 0
LogsHaveDistinctMoves = (processes : Processes) → AreReached processes → (number : ℕ) →
    IsDistinct nat_eq (moved_ids (processes.at number).log)

-- nor do two of those in the entries that are read from the bytes that a stop leaves of it at that moment
abbrev pub LeftLogsHaveDistinctMoves : Type 0
LeftLogsHaveDistinctMoves = (processes : Processes) → AreReached processes → (number : ℕ) (disk : List ℕ)
    (read : List Strings) → IsLeft (processes.at number).log (processes.at number).synced disk →
    AllByRecursion IsWholeEntry read → BeginsWith first_chain read IsEnd disk → IsDistinct nat_eq (moved_ids read)

-- Whenever a process starts, the desk of its node has exactly the moves that are open at the node's objects, and no
-- other call.
abbrev pub StartsHaveTheOpenMoves : Type 0
StartsHaveTheOpenMoves = (processes : Processes) (reached : AreReached processes) (number : ℕ) (read : List Strings)
    (anew : Option (List Strings)) (new copy after : Node) →
    MayStart reached.names number (processes.at number) read anew new copy after → HasOpenMoves after
