-- What the clients of a node are sent.
use Rattle.std.specs.Prelude.{ℕ, ◌==◌, Bool, if◌then◌else◌, List, [], ◌∷◌, length, Option, None, Some}
use Rattle.std.specs.List.{AllByRecursion}
use Rattle.frames.specs.Frame.{IsShort}
use Rattle.record.specs.Sending.{value_or_empty}
use Rattle.record.specs.declared.call.Operation.{Operation}
use Rattle.record.specs.declared.call.Operation.TheVariants as operation
use Rattle.local_object.specs.declared.progress.Ended.{Ended}
use Rattle.client_commands.specs.Answers.{sent_strings}
use Rattle.client_commands.specs.Deletion.{count_of}
use Rattle.client_commands.specs.declared.answer.Answer.{Answer}
use Rattle.client_commands.specs.declared.answer.Answer.TheVariants as answer
use Rattle.client_commands.specs.declared.command.Wanted.{Wanted}
use Rattle.client_commands.specs.declared.command.Wanted.TheVariants as wanted
use Rattle.client_commands.specs.Deletion.{Deletion}
use Rattle.node_strings.specs.Arrival.{client_address}
use Rattle.node_effects.specs.Work.{Growth, IsGrown, no_growth}
use Rattle.node_effects.specs.declared.work.Work.{Work}

-- the frame of an answer to a client
abbrev pub answer_frame : (client : ℕ) → Answer → List (List ℕ)
answer_frame client answer = client_address client ∷ sent_strings answer

-- the answer can be sent: each of its strings fits into a frame
abbrev pub CanBeSent : Answer → Type 0
CanBeSent answer = AllByRecursion IsShort (sent_strings answer)

-- what is added to a node's work when a client is sent an answer: the frame, and that its next command is due
abbrev pub answer_sent : (client : ℕ) → Answer → Growth
answer_sent client answer = record no_growth { to_clients = answer_frame client answer ∷ []; due = client ∷ [] }

-- what is added to a node's work for an answer to a client: nothing if the client's connection is not there
abbrev pub answer_growth : (is_there : Bool) → (client : ℕ) → Answer → Growth
answer_growth is_there client answer = if is_there then answer_sent client answer else no_growth

-- what is added when a client quits: the answer `OK`, and the frame that tells the host to close the connection
abbrev pub quit_growth : (client : ℕ) → Growth
quit_growth client =
    record no_growth { to_clients = answer_frame client answer.Ok ∷ (client_address client ∷ []) ∷ [] }

-- what is added to a node's work when a client's connection, if it is there, is due and its client is sent nothing
abbrev pub due_growth : (is_there : Bool) → (client : ℕ) → Growth
due_growth is_there client = if is_there then record no_growth { due = client ∷ [] } else no_growth

-- the work grew by frames to clients and by connections whose next command is due, and by nothing else
pub record TellsClients (before after : Work) : Type 0 where
  pub frames : List (List (List ℕ))
  pub due : List ℕ
  pub grown : IsGrown before after (record no_growth { to_clients = frames; due = due })

-- What a client is told of a value that it reads. The empty value, with which each object begins, counts as none: it is
-- told as nil, as the length 0, and as no existence. A client that wants nothing of the value is told `OK`.
abbrev pub told_value : Wanted → List ℕ → Answer
told_value wanted.Value value = if length value == 0 then answer.Nil else answer.Value value
told_value wanted.Length value = answer.Number (length value)
told_value wanted.Existence value = if length value == 0 then answer.Number 0 else answer.Number 1
told_value wanted.Nothing value = answer.Ok

-- the answer to a call of this kind with this value: for a read what is wanted of the value, which is the empty one if
-- nothing was ever written; for a write and a move `OK`
abbrev pub kind_answer : Wanted → Operation → Option (List ℕ) → Answer
kind_answer what operation.Read value = told_value what (value_or_empty value)
kind_answer what operation.Write value = answer.Ok
kind_answer what operation.Move value = answer.Ok

-- the answer that the client of an answered call gets, who wants this of the value of a read
abbrev pub ended_answer : Wanted → Ended → Answer
ended_answer what ended = kind_answer what ended.kind ended.value

-- the answer to a command of which a call was the last one: to a DEL, the number of its names, and otherwise this one
abbrev pub last_answer : Option Deletion → Answer → Answer
last_answer None otherwise = otherwise
last_answer (Some deletion) otherwise = answer.Number (count_of deletion)
