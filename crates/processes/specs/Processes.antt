-- The processes of a cluster: what each has in its memory, what its log has, and what may leave it.
use Rattle.std.specs.Prelude.{ℕ, suc, ◌==◌, if◌then◌else◌, List, [], ◌∷◌, Option, None}
use Rattle.deeds.specs.Deeds.{Notice}
use Rattle.node_strings.specs.Strings.{Strings}
use Rattle.node_effects.specs.declared.output.Output.{Output}
use Rattle.node_effects.specs.declared.output.Output.TheVariants as output
use Rattle.node.specs.declared.node.Node.{Node}

-- a frame to a node, which may go out once this many first entries of the log are synced
pub record WaitingFrame : Type 0 where
  pub behind : ℕ
  pub frame : Strings

-- the answers to clients that came of one frame, which may go out once this many first entries of the log are synced;
-- and what clients are told by them
pub record WaitingAnswers : Type 0 where
  pub behind : ℕ
  pub frames : List Strings
  pub told : List Notice

-- a process: its node, while it runs; the entries of its log, also those that are wanted but not yet written; how many
-- first entries are synced; and what waits to go out
pub record Process : Type 0 where
  pub running : Option Node
  pub log : List Strings
  pub synced : ℕ
  pub frames : List WaitingFrame
  pub answers : List WaitingAnswers

-- a process that has never been started
abbrev pub new_process : Process
new_process = record { running = None; log = []; synced = 0; frames = []; answers = [] }

-- a frame that a process wrote: the number of its node, and the frame, whose first string is the address
pub record SentFrame : Type 0 where
  pub sender : ℕ
  pub frame : Strings

-- all processes of a cluster: the process of the node of each number, all frames to nodes that were ever written, and
-- what clients saw: each call as it began, and each answer as it was written
pub record Processes : Type 0 where
  pub at : (number : ℕ) → Process
  pub sent : List SentFrame
  pub seen : List Notice

-- all processes before the first start
abbrev pub new_processes : Processes
new_processes = record { at = λ number. new_process; sent = []; seen = [] }

-- the processes, with this one for the node of one number
abbrev pub with_process : (at : ℕ → Process) → (number : ℕ) → Process → (other : ℕ) → Process
with_process at number process other = if other == number then process else at other

-- What a node wants

-- the frames to nodes among these outputs, each behind the entries that stand before it; the log has so many before all
abbrev pub frames_behind : (entries : ℕ) → List Output → List WaitingFrame
frames_behind entries [] = []
frames_behind entries (output.Log entry ∷ outputs) = frames_behind (suc entries) outputs
frames_behind entries (output.Send frame ∷ outputs) =
    record { behind = entries; frame = frame } ∷ frames_behind entries outputs
