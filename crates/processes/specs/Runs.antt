-- What processes reach by events that may happen, and which events are those of programs.
use Rattle.std.specs.Prelude.{◌≡◌, ⊤, ℕ, List, [], ◌∷◌}
use Rattle.cluster_file.specs.File.{FileContents, IsLawfulFile}
use Rattle.deeds.specs.Kept.{FileOfNames}
use Rattle.node_clients.specs.Desk.{NoneWaits}
use Rattle.node_keeper.specs.Keeping.{names_of}
use Rattle.processes.specs.Events.{MayHappenTo, ProcessEvent, number_of, processes_after}
use Rattle.processes.specs.Processes.{Processes, new_processes}

-- the processes after these events
abbrev pub processes_run : List ProcessEvent → Processes → Processes
processes_run [] processes = processes
processes_run (event ∷ events) processes = processes_run events (processes_after processes event)

-- these events may happen one after another
abbrev pub MayAllHappenTo : FileOfNames → List ProcessEvent → Processes → Type 0
MayAllHappenTo names [] processes = ⊤
MayAllHappenTo names (event ∷ events) processes =
    MayHappenTo names processes event × MayAllHappenTo names events (processes_after processes event)

-- the processes of a cluster have come this far, from before the first start, by events that may happen; the cluster
-- files of all nodes have the settings of one lawful file
pub record AreReached (processes : Processes) : Type 0 where
  pub file : FileContents
  pub lawful : IsLawfulFile file
  pub names : FileOfNames
  pub same : names_of file ≡ names
  pub events : List ProcessEvent
  pub may : MayAllHappenTo names events new_processes
  pub result : processes_run events new_processes ≡ processes

-- Events of programs

-- An event is such as the laws of programs find it: a new node has no command that waits and may be carried out, and a
-- log is written anew only when no answer waits.
abbrev pub IsOfPrograms : Processes → ProcessEvent → Type 0
IsOfPrograms processes (ProcessEvent.Starts number read anew new copy after) = NoneWaits new.desk.clients []
IsOfPrograms processes (ProcessEvent.Rewrites number entries) = (processes.at number).answers ≡ []
IsOfPrograms processes event = ⊤

-- those of these events, one after another, that happen to the process of the node of this number are such
abbrev pub AreOfPrograms : (number : ℕ) → List ProcessEvent → Processes → Type 0
AreOfPrograms number [] processes = ⊤
AreOfPrograms number (event ∷ events) processes = (number_of event ≡ number → IsOfPrograms processes event)
    × AreOfPrograms number events (processes_after processes event)
