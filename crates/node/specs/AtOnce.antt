-- What a node does with a command that it carries out at once, by what it keeps before the command comes.
use Rattle.std.specs.Prelude.{◌≡◌, ◌⊎◌, ⊤, ℕ, List, [], ◌∷◌, length, Option, None, Some, Ok, Err}
use Rattle.indexmap.specs.IndexMap.{index_map_len}
use Rattle.tag.specs.declared.refusal.Refusal.{Refusal}
use Rattle.deeds.specs.CallId.{CallIds, next_given_id, with_next_epoch}
use Rattle.node_clients.specs.Connections.{asked, doing, waiting_on}
use Rattle.node_clients.specs.declared.connection.Connection.{Connection}
use Rattle.node_clients.specs.declared.connection.State.TheVariants.{Idle}
use Rattle.local_object.specs.Doing.{move_refusal, read_refusal, write_refusal}
use Rattle.local_object.specs.Local.{LocalObject}
use Rattle.client_commands.specs.Deletion.{name_now}
use Rattle.client_commands.specs.Reading.{Found}
use Rattle.client_commands.specs.declared.answer.Answer.{Answer}
use Rattle.client_commands.specs.declared.answer.Answer.TheVariants as answers
use Rattle.client_commands.specs.declared.answer.AnswerError.{AnswerError}
use Rattle.client_commands.specs.declared.answer.AnswerError.TheVariants as errors
use Rattle.client_commands.specs.declared.command.Command.{Command}
use Rattle.client_commands.specs.declared.command.Command.TheVariants as ask
use Rattle.client_commands.specs.declared.sections.Sections.{Sections}
use Rattle.node_clients.specs.declared.next.Next.{Next}
use Rattle.node_clients.specs.declared.next.Next.TheVariants.{Came}
use Rattle.node_strings.specs.declared.arrival.Arrival.{Arrival}
use Rattle.node_strings.specs.declared.arrival.Arrival.TheVariants as came
use Rattle.node_keeper.specs.Objects.{objects_of}
use Rattle.node_keeper.specs.Written.{written_names}
use Rattle.node_clients.specs.Desk.{connection_of}
use Rattle.node_clients.specs.Services.{Service}
use Rattle.node_clients.specs.declared.counts.Counts.{Counts}
use Rattle.node_clients.specs.declared.desk.Desk.{Desk}
use Rattle.node_keeper.specs.declared.keeper.Keeper.{Keeper}
use Rattle.node.specs.Info.{info_lines}
use Rattle.node.specs.Moves.{move_fault}
use Rattle.node.specs.Shown.{IsLayoutHere, IsPageHere}
use Rattle.node.specs.declared.peers.Peers.{Peers}

-- this is the id that a node gives next: the next one of its epoch, or the first one of the next epoch
abbrev pub IsNextGiven : CallIds → (id : ℕ) → Type 0
IsNextGiven ids id = (next_given_id ids ≡ Some id) ⊎ (next_given_id (with_next_epoch ids) ≡ Some id)

-- the object of this name refuses the call with the next id, and the answer has the object's reason
abbrev pub IsRefusedHere : Keeper → (name : List ℕ) → (LocalObject → (id : ℕ) → Option Refusal) → Answer → Type 0
IsRefusedHere keeper name refusal answer =
    (id : ℕ) × IsNextGiven keeper.ids id × (why : Refusal)
    × (refusal (objects_of keeper.objects name) id ≡ Some why) × (answer ≡ answers.Error (errors.Refused why))

-- the call gets the next id, and the object of this name has no reason to refuse it
abbrev pub IsBegunHere : Keeper → (name : List ℕ) → (LocalObject → (id : ℕ) → Option Refusal) → (id : ℕ) → Type 0
IsBegunHere keeper name refusal id =
    IsNextGiven keeper.ids id × (refusal (objects_of keeper.objects name) id ≡ None)

-- INFO

-- the answer to INFO for these sections: its text, with some number of connections and some number of open moves
abbrev pub IsInfoHere : Sections → Keeper → Peers → (calls : ℕ) → Counts → Answer → Type 0
IsInfoHere asked keeper peers calls counts answer =
    (clients moves : ℕ) × (answer ≡ answers.Value (info_lines asked keeper peers clients calls moves counts))

-- Commands

-- how a move is refused: with its fault, if it has one, and otherwise with the reason of the object of this name
abbrev pub IsMoveRefusedHere : Option AnswerError → Keeper → (name : List ℕ) → Answer → Type 0
IsMoveRefusedHere (Some fault) keeper name answer = answer ≡ answers.Error fault
IsMoveRefusedHere None keeper name answer = IsRefusedHere keeper name move_refusal answer

-- how a command that begins no call is answered: INFO by its lines, DBSIZE by the number of names of whose objects the
-- node keeps a written version, LAYOUT by the last layout that the node knows, and SCAN by the next such names; for any
-- other command this says nothing
abbrev pub IsPlainHere : Keeper → Peers → (calls : ℕ) → Counts → Command → Answer → Type 0
IsPlainHere keeper peers calls counts (ask.Info asked) answer = IsInfoHere asked keeper peers calls counts answer
IsPlainHere keeper peers calls counts ask.CountWritten answer =
    answer ≡ answers.Number (length (written_names keeper.objects))
IsPlainHere keeper peers calls counts (ask.ShowLayout name) answer = IsLayoutHere keeper.objects name answer
IsPlainHere keeper peers calls counts (ask.Scan cursor options) answer =
    IsPageHere keeper.objects cursor options answer
IsPlainHere keeper peers calls counts command answer = ⊤

-- how a command that begins no call is answered, by what the node keeps; this says nothing of an answer that depends on
-- the command alone
abbrev pub IsReplyHere : Keeper → Peers → (calls : ℕ) → Counts → Found → Answer → Type 0
IsReplyHere keeper peers calls counts (Err fault) answer = ⊤
IsReplyHere keeper peers calls counts (Ok (ask.Read wanted name)) answer = IsRefusedHere keeper name read_refusal answer
IsReplyHere keeper peers calls counts (Ok (ask.Set name value)) answer =
    IsRefusedHere keeper name (λ local id. write_refusal local id value) answer
IsReplyHere keeper peers calls counts (Ok (ask.Delete deletion)) answer =
    IsRefusedHere keeper (name_now deletion) (λ local id. write_refusal local id []) answer
IsReplyHere keeper peers calls counts (Ok (ask.Move name layout)) answer =
    IsMoveRefusedHere (move_fault keeper.ids.node keeper.file peers.heard layout) keeper name answer
IsReplyHere keeper peers calls counts (Ok command) answer = IsPlainHere keeper peers calls counts command answer

-- the command begins the call with this id, by what the node keeps
abbrev pub BeginsHere : Keeper → Peers → Command → (id : ℕ) → Type 0
BeginsHere keeper peers (ask.Read wanted name) id = IsBegunHere keeper name read_refusal id
BeginsHere keeper peers (ask.Set name value) id = IsBegunHere keeper name (λ local id. write_refusal local id value) id
BeginsHere keeper peers (ask.Delete deletion) id =
    IsBegunHere keeper (name_now deletion) (λ local id. write_refusal local id []) id
BeginsHere keeper peers (ask.Move name layout) id =
    (move_fault keeper.ids.node keeper.file peers.heard layout ≡ None) × IsBegunHere keeper name move_refusal id
BeginsHere keeper peers command id = ⊤

-- the service carries out this command of a client, and its outcome is the one for what the node keeps
abbrev pub IsCarriedOut : Keeper → Peers → (calls : ℕ) → Counts → (client : ℕ) → Next → Service → Type 0
IsCarriedOut keeper peers calls counts client next (Service.Begins other command id) =
    (other ≡ client) × (asked next ≡ Ok command) × BeginsHere keeper peers command id
IsCarriedOut keeper peers calls counts client next (Service.Replies other command answer) =
    (other ≡ client) × (command ≡ next) × IsReplyHere keeper peers calls counts (asked next) answer
IsCarriedOut keeper peers calls counts client next (Service.Quits other) =
    (other ≡ client) × (asked next ≡ Ok ask.Quit)
IsCarriedOut keeper peers calls counts client next service = ⊥

-- the first of these services carries out this command of a client
abbrev pub IsFirstDone : Keeper → Peers → (calls : ℕ) → Counts → (client : ℕ) → Next → List Service → Type 0
IsFirstDone keeper peers calls counts client next [] = ⊥
IsFirstDone keeper peers calls counts client next (service ∷ services) =
    IsCarriedOut keeper peers calls counts client next service

-- a connection is idle, and no command waits on it; so is one that is not there
abbrev pub IsFree : Option Connection → Type 0
IsFree connection = (doing connection ≡ Idle) × (waiting_on connection ≡ [])

-- a command that comes on a free connection is carried out first, by what the node keeps as the command comes
abbrev pub IsAtOnce : Option Arrival → Keeper → Peers → Desk → (more : List Service) → Type 0
IsAtOnce (Some (came.Command client frame)) keeper peers desk more =
    IsFree (connection_of desk client) →
    IsFirstDone keeper peers (index_map_len desk.calls) desk.counts client (Came frame) more
IsAtOnce arrival keeper peers desk more = ⊤
