-- The contracts that docs/trusted.md lists do not depend on this file; other contracts and proofs do.
-- Which processes a run has, and when it is one that `processes` defines.
use Rattle.std.specs.Prelude.{◌≡◌, ℕ, List, [], length, Ok, Some, slice_get}
use Rattle.cluster_file.specs.File.{FileContents}
use Rattle.cluster_file.specs.Reading.{file_of}
use Rattle.node_effects.specs.Seen.{all_seen}
use Rattle.node_keeper.specs.Keeping.{names_of}
use Rattle.node_log.specs.Entry.{chain_behind, first_chain}
use Rattle.node_store.specs.Recovery.{log_bytes}
use Rattle.processes.specs.Events.{ProcessEvent}
use Rattle.processes.specs.Processes.{Process, Processes, new_processes}
use Rattle.processes.specs.Runs.{AreOfPrograms, AreReached, MayAllHappenTo, processes_run}
use Rattle.example_runs.specs.declared.members.Member.{Member}
use Rattle.example_runs.specs.declared.process_run.ProcessRun.{ProcessRun}

-- a process is as this one of the run: it runs the same node, its log has these bytes, and is synced; no answers wait
pub record IsAt (process : Process) (member : Member) : Type 0 where
  pub runs : process.running ≡ member.node
  pub synced : process.synced ≡ length process.log
  pub told : process.answers ≡ []
  pub bytes : member.log.items ≡ log_bytes first_chain process.log
  pub chained : member.chain.state ≡ chain_behind first_chain process.log

-- these are the processes of the run; what they wrote to nodes, and what their clients saw, is what the run says
pub record AreIn (processes : Processes) (run : ProcessRun) : Type 0 where
  pub at : (number : ℕ) (member : Member) → slice_get run.members.items number ≡ Some member →
      IsAt (processes.at number) member
  pub sent : run.sent.items ≡ processes.sent
  pub seen : all_seen run.seen.items ≡ processes.seen

-- processes are reached by events that may happen, with the cluster file that the text writes
pub record AreReachedBy (text : List ℕ) (processes : Processes) : Type 0 where
  pub reached : AreReached processes
  pub file : FileContents
  pub read : file_of text ≡ Ok file
  pub names : reached.names ≡ names_of file

-- the run is one of processes: those that it has are reached by events that may happen, and that are such as programs
-- make
pub record IsReached (run : ProcessRun) : Type 0 where
  pub processes : Processes
  pub reached : AreReachedBy run.text processes
  pub programs : (number : ℕ) → AreOfPrograms number reached.reached.events new_processes
  pub are : AreIn processes run

-- Whatever processes the one run has, events may happen to them, one after another, that are such as programs make, and
-- that make them those of the other.
abbrev pub LeadsOn : (old new : ProcessRun) → Type 0
LeadsOn old new = (new.text ≡ old.text)
    × ((processes : Processes) (by : AreReachedBy old.text processes) → AreIn processes old →
    (events : List ProcessEvent) × MayAllHappenTo by.reached.names events processes
    × ((number : ℕ) → AreOfPrograms number events processes) × AreIn (processes_run events processes) new)
