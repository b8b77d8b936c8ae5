-- The answers that clients get: each is the answer to the client's own command.
use Rattle.std.specs.Prelude.{◌≡◌, ◌⊎◌, ◌<◌, ◌≤◌, ◌==◌, ◌||◌, ◌^◌, ⊤, if◌then◌else◌, ℕ, zero, suc, Bool, true, false}
use Rattle.std.specs.Prelude.{List, [], ◌∷◌, ◌++◌, length, map, Option, None, Some, IsSome, Ok, slice_get}
use Rattle.std.specs.List.{flat_map}
use Rattle.std.specs.Str.{bytes_eq}
use Rattle.atomicity.specs.Atomic.{IsAtomic}
use Rattle.client_commands.specs.Answers.{sent_strings}
use Rattle.client_commands.specs.Deletion.{Deletion, count_of, left_over, name_now}
use Rattle.client_commands.specs.Reading.{Found, command_at}
use Rattle.client_commands.specs.declared.answer.Answer.{Answer}
use Rattle.client_commands.specs.declared.answer.Answer.TheVariants as answers
use Rattle.client_commands.specs.declared.answer.AnswerError.TheVariants as errors
use Rattle.client_commands.specs.declared.command.Command.{Command}
use Rattle.client_commands.specs.declared.command.Command.TheVariants as ask
use Rattle.cluster_file.specs.File.{FileContents}
use Rattle.deeds.specs.Deeds.{Notice}
use Rattle.local_object.specs.declared.progress.Ended.{Ended}
use Rattle.node.specs.Replies.{IsReplyTo}
use Rattle.node_clients.specs.Answers.{told_value}
use Rattle.node_clients.specs.Served.{call_begun}
use Rattle.node_strings.specs.Arrival.{arrival_at, client_address}
use Rattle.node_strings.specs.Strings.{Strings}
use Rattle.node_strings.specs.declared.arrival.Arrival.{Arrival}
use Rattle.node_strings.specs.declared.arrival.Arrival.TheVariants as came
use Rattle.record.specs.Sending.{value_or_empty}
use Rattle.record.specs.declared.call.Entry.{Entry}
use Rattle.record.specs.declared.call.Operation.{Operation}
use Rattle.record.specs.declared.call.Operation.TheVariants as operation
use Rattle.refinement.specs.SeenHistories.{IsHistoryOfSeen}
use Rattle.processes.specs.Events.{ProcessEvent, first_told, number_of, processes_after}
use Rattle.processes.specs.Loops.{first_frames}
use Rattle.processes.specs.Processes.{Processes, new_processes}
use Rattle.processes.specs.Runs.{AreOfPrograms, AreReached}

-- What passes on a connection

-- strings that passed on a connection, and when: how much clients had seen before a command came in, and how much they
-- had seen when an answer was written
pub record Passed : Type 0 where
  pub strings : Strings
  pub time : ℕ

-- What has passed on the connection of a client since the process was started: the commands that came in, and the
-- answers that were written. Also whether the connection has ended, and whether a command came in after that, so that
-- its number was used twice; and which cluster file the node has, once it was started.
pub record Talk : Type 0 where
  pub commands : List Passed
  pub answers : List Passed
  pub ended : Bool
  pub reused : Bool
  pub file : Option FileContents

-- nothing has passed yet
abbrev pub new_talk : Talk
new_talk = record { commands = []; answers = []; ended = false; reused = false; file = None }

-- each of these strings, at this time
abbrev pub passed_at : (time : ℕ) → List Strings → List Passed
passed_at time all = map (λ strings. let it : Passed = record { strings = strings; time = time } in it) all

-- what has passed on the connection of this client, after something has come at this time
abbrev pub heard_talk : (client time : ℕ) → Option Arrival → Talk → Talk
heard_talk client time (Some (came.Command other command)) talk =
    if other == client
    then record talk {
      commands = talk.commands ++ passed_at time (command ∷ []);
      reused = talk.reused || talk.ended;
    }
    else talk
heard_talk client time (Some (came.Left other)) talk = if other == client then record talk { ended = true } else talk
heard_talk client time arrival talk = talk

-- the strings of an answer to this client, if the frame is one; a frame that has only its address has the host close
-- the connection
abbrev pub answer_to : (client : ℕ) → Strings → List Strings
answer_to client [] = []
answer_to client (address ∷ []) = []
answer_to client (address ∷ first ∷ rest) =
    if bytes_eq address (client_address client) then (first ∷ rest) ∷ [] else []

-- the answers to this client among these frames
abbrev pub answers_to : (client : ℕ) → List Strings → List Strings
answers_to client frames = flat_map (answer_to client) frames

-- what has passed on the connection of this client after an event of its process, which happens to these processes
abbrev pub own_talk_after : (client : ℕ) → Processes → ProcessEvent → Talk → Talk
own_talk_after client processes (ProcessEvent.Starts number read anew new copy after) talk =
    record new_talk { file = Some after.keeper.file }
own_talk_after client processes (ProcessEvent.Handles number frame effects after) talk =
    heard_talk client (length processes.seen) (arrival_at frame) talk
own_talk_after client processes (ProcessEvent.Tells number) talk =
    let waiting = (processes.at number).answers in
    record talk {
      answers = talk.answers
          ++ passed_at (length (processes.seen ++ first_told waiting)) (answers_to client (first_frames waiting));
    }
own_talk_after client processes event talk = talk

-- what has passed on the connection of this client at the process of this number, after an event of any process
abbrev pub talk_after : (number client : ℕ) → Processes → ProcessEvent → Talk → Talk
talk_after number client processes event talk =
    if number_of event == number then own_talk_after client processes event talk else talk

-- the same after these events, one after another
abbrev pub talk_of : (number client : ℕ) → List ProcessEvent → Processes → Talk → Talk
talk_of number client [] processes talk = talk
talk_of number client (event ∷ events) processes talk =
    talk_of number client events (processes_after processes event) (talk_after number client processes event talk)

-- what has passed on the connection of a client since its process started, in all that has happened
abbrev pub talk_in : (processes : Processes) → AreReached processes → (number client : ℕ) → Talk
talk_in processes reached number client = talk_of number client reached.events new_processes new_talk

-- What answers say

-- an atomic history of what clients saw of the object of a name
pub record SeenHistory (seen : List Notice) (name : List ℕ) : Type 0 where
  pub calls : List Entry
  pub of : IsHistoryOfSeen name seen calls
  pub atomic : IsAtomic calls

module _ (seen : List Notice) (histories : (name : List ℕ) → SeenHistory seen name) where
  -- The history of this name has a call of this kind, with this value. It began no earlier than at the one time. Its
  -- answer, with this value, was told before the other time.
  pub record IsCallOf (name : List ℕ) (from to : ℕ) (kind : Operation) (value : Option (List ℕ)) : Type 0 where
    pub index : ℕ
    pub entry : Entry
    pub at : slice_get (histories name).calls index ≡ Some entry
    pub is_kind : entry.kind ≡ kind
    pub is_value : entry.value ≡ value
    pub answered : IsSome entry.answered
    pub began : from ≤ (histories name).of.begins index
    pub place : ℕ
    pub ended : Ended
    pub told : slice_get seen place ≡ Some (Notice.Tells name ended)
    pub same_id : ended.id ≡ entry.call
    pub same_value : ended.value ≡ entry.value
    pub in_time : place < to

  -- a DEL wrote the empty value to its names: so many times, by one write after another, each of them as `left_over`
  -- says, until nothing was left
  abbrev pub AreWritten : (delta : Option ℕ) → (from to count : ℕ) → Option Deletion → Type 0
  AreWritten delta from to zero None = ⊤
  AreWritten delta from to zero (Some deletion) = ⊥
  AreWritten delta from to (suc count) None = ⊥
  AreWritten delta from to (suc count) (Some deletion) =
      IsCallOf (name_now deletion) from to operation.Write (Some [])
      × AreWritten delta from to count (left_over delta deletion)

  -- The answer is the result of the command. That of a read says of the value that a read of the history returned what
  -- the client wants to know. A SET is answered OK if the history has the write of its value, a MOVE if it has the
  -- move, and a DEL with the number of its names if it has all writes.
  abbrev pub IsResult : (delta : Option ℕ) → (from to : ℕ) → Command → Answer → Type 0
  IsResult delta from to (ask.Read wanted name) answer =
      (value : Option (List ℕ)) × IsCallOf name from to operation.Read value
      × (answer ≡ told_value wanted (value_or_empty value))
  IsResult delta from to (ask.Set name value) answer =
      IsCallOf name from to operation.Write (Some value) × (answer ≡ answers.Ok)
  IsResult delta from to (ask.Move name layout) answer =
      (value : Option (List ℕ)) × IsCallOf name from to operation.Move value × (answer ≡ answers.Ok)
  IsResult delta from to (ask.Delete deletion) answer =
      (count : ℕ) × AreWritten delta from to count (Some deletion) × (answer ≡ answers.Number (count_of deletion))
  IsResult delta from to ask.Quit answer = answer ≡ answers.Ok
  IsResult delta from to command answer = ⊥

  -- no quorum answered in time, and the command is one that begins a call
  abbrev pub IsGivenUp : (client : ℕ) → Command → Answer → Type 0
  IsGivenUp client command answer = IsSome (call_begun client command) × (answer ≡ answers.Error errors.NoQuorum)

  -- The answer is one to what a client asked: it is the result of the command; or no quorum answered in time; or it is
  -- the reply without a call that `IsReplyTo` of `node` allows, as for a frame that is no command, a call that its
  -- object refuses, or a PING.
  abbrev pub IsAnswerTo : (number client : ℕ) → FileContents → (from to : ℕ) → Found → Answer → Type 0
  IsAnswerTo number client file from to found answer =
      ((command : Command) × (found ≡ Ok command)
      × (IsResult file.fixed.delta from to command answer ⊎ IsGivenUp client command answer))
      ⊎ IsReplyTo number file client found answer

  -- what was written is an answer to this command, which a node with this cluster file carried out
  pub record IsAnswered (number client : ℕ) (given : Option FileContents) (command written : Passed) : Type 0 where
    pub file : FileContents
    pub is_given : (own : FileContents) → given ≡ Some own → file ≡ own
    pub answer : Answer
    pub sent : written.strings ≡ sent_strings answer
    pub right : IsAnswerTo number client file command.time written.time (command_at command.strings) answer

  -- the first answer is one to the first command, the second one to the second, and so on: each answer has its command,
  -- and no command has two
  abbrev pub AnswersItsCommands : (number client : ℕ) → Talk → Type 0
  AnswersItsCommands number client talk = (place : ℕ) (written : Passed) → slice_get talk.answers place ≡ Some written →
      (command : Passed) × (slice_get talk.commands place ≡ Some command)
      × IsAnswered number client talk.file command written

-- The law

-- Whatever the processes of a cluster do and wherever they stop, for each name there is an atomic history of what their
-- clients saw, and each answer that is written to a client is one to the client's own command: at a process that does
-- what programs do, and that uses the number of no connection twice, the answers on each connection are those to its
-- commands, in their order, and what they say of reads and writes is what these histories say.
abbrev pub ClientsGetTheirAnswers : Type 0
ClientsGetTheirAnswers = (processes : Processes) (reached : AreReached processes) →
    (histories : (name : List ℕ) → SeenHistory processes.seen name)
    × ((number : ℕ) → AreOfPrograms number reached.events new_processes →
    ((client : ℕ) → (talk_in processes reached number client).reused ≡ false) →
    (client : ℕ) → client < 2 ^ 64 →
    AnswersItsCommands processes.seen histories number client (talk_in processes reached number client))
