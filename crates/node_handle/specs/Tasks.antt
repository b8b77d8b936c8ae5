-- The contracts that docs/trusted.md lists do not depend on this file; other contracts and proofs do.
-- What a program has to do for a node, task by task.
use Rattle.std.specs.Prelude.{[], ◌∷◌, ℕ, List, map, length, Option, None, Some, slice_get}
use Rattle.node_store.specs.Steps.{Step as Deed}
use Rattle.node_core.specs.Rounds.{steps_for}
use Rattle.node_handle.specs.declared.task.Task.{Task as Given}
use Rattle.node_handle.specs.declared.task.Task.TheVariants as given
use Rattle.node_handle.specs.declared.task.Work.{Work}
use Rattle.node_handle.specs.declared.task.Work.TheVariants as works

-- one task: frames are sent; bytes are appended to the log; the log is synced; it is cut behind so many bytes; a file
-- with these bytes takes its place
pub data Task : Type 0 where
  Sends : (bytes : List ℕ) → Task
  Appends : (bytes : List ℕ) → Task
  Syncs : Task
  Cuts : (count : ℕ) → Task
  Replaces : (bytes : List ℕ) → Task

-- a step of a round, as a task
abbrev pub step_task : Deed → Task
step_task (Deed.Sends bytes) = Task.Sends bytes
step_task (Deed.Appends bytes) = Task.Appends bytes
step_task Deed.Syncs = Task.Syncs

-- what is to be done after a start, in this order
abbrev pub start_tasks : (length : ℕ) → (entries : List ℕ) → List Task
start_tasks length entries = Task.Cuts length ∷ Task.Syncs ∷ Task.Appends entries ∷ Task.Syncs ∷ []

-- what a node wants done, in this order
abbrev pub tasks_of : Work → List Task
tasks_of works.Idle = []
tasks_of (works.Start length entries) = start_tasks length entries
tasks_of (works.Round batch) = map step_task (steps_for batch)
tasks_of (works.Rewriting bytes) = Task.Replaces bytes ∷ []

-- a task as the code gives it
abbrev pub the_task : Given → Task
the_task (given.Send bytes) = Task.Sends bytes.now
the_task (given.Append bytes) = Task.Appends bytes.now
the_task given.Sync = Task.Syncs
the_task (given.Cut count) = Task.Cuts count
the_task (given.Replace bytes) = Task.Replaces bytes.now

-- the task in this place, from 0
abbrev pub task_at : Work → (place : ℕ) → Option Task
task_at work place = slice_get (tasks_of work) place

-- the bytes of a task
abbrev pub bytes_of : Option Task → List ℕ
bytes_of (Some (Task.Sends bytes)) = bytes
bytes_of (Some (Task.Appends bytes)) = bytes
bytes_of (Some (Task.Replaces bytes)) = bytes
bytes_of _ = []

-- how many bytes the task has; of a cut, how many bytes of the log stay
abbrev pub length_of : Option Task → ℕ
length_of (Some (Task.Cuts count)) = count
length_of task = length (bytes_of task)

-- the number of a kind of tasks; 0 where there is no task
abbrev pub kind_of : Option Task → ℕ
kind_of None = 0
kind_of (Some (Task.Sends bytes)) = 1
kind_of (Some (Task.Appends bytes)) = 2
kind_of (Some Task.Syncs) = 3
kind_of (Some (Task.Cuts count)) = 4
kind_of (Some (Task.Replaces bytes)) = 5
