-- Which commands begin a call, and how the others are answered.
use Rattle.std.specs.Prelude.{◌≡◌, ⊤, ℕ, List, [], Option, None, Some, Ok, Err}
use Rattle.cluster_file.specs.File.{FileContents}
use Rattle.tag.specs.declared.refusal.Refusal.{Refusal}
use Rattle.local_object.specs.Doing.{move_refusal, read_refusal, write_refusal}
use Rattle.local_object.specs.Local.{LocalObject}
use Rattle.client_commands.specs.Reading.{Found}
use Rattle.client_commands.specs.Words.{count_of_names}
use Rattle.client_commands.specs.declared.answer.Answer.{Answer}
use Rattle.client_commands.specs.declared.answer.Answer.TheVariants as answers
use Rattle.client_commands.specs.declared.answer.AnswerError.{AnswerError}
use Rattle.client_commands.specs.declared.answer.AnswerError.TheVariants as errors
use Rattle.client_commands.specs.declared.command.Command.{Command}
use Rattle.client_commands.specs.declared.command.Command.TheVariants as ask
use Rattle.node_clients.specs.Connections.{asked}
use Rattle.node_clients.specs.Services.{Service}
use Rattle.node_strings.specs.declared.heard.Heard.{Heard}
use Rattle.node.specs.Moves.{move_fault}
use Rattle.node.specs.Shown.{IsPage}

-- the answer is a refusal by some object of a call with some id
abbrev pub IsRefusedBy : (LocalObject → (id : ℕ) → Option Refusal) → Answer → Type 0
IsRefusedBy refusal answer =
    (local : LocalObject) × (id : ℕ) × (why : Refusal) × (refusal local id ≡ Some why)
    × (answer ≡ answers.Error (errors.Refused why))

-- how a move is refused: with its fault, if it has one, and otherwise with the reason of its object
abbrev pub IsMoveRefused : Option AnswerError → Answer → Type 0
IsMoveRefused (Some fault) answer = answer ≡ answers.Error fault
IsMoveRefused None answer = IsRefusedBy move_refusal answer

-- how a command that begins no call, and is no QUIT, is answered: INFO by some lines, DBSIZE by some number, LAYOUT by
-- some line, SCAN by some names, and each other one by its only answer; for any other command this says nothing
abbrev pub IsPlainReply : (client : ℕ) → Command → Answer → Type 0
IsPlainReply client (ask.Info asked) answer = (lines : List ℕ) × (answer ≡ answers.Value lines)
IsPlainReply client ask.CountWritten answer = (count : ℕ) × (answer ≡ answers.Number count)
IsPlainReply client (ask.ShowLayout name) answer = (line : List ℕ) × (answer ≡ answers.Value line)
IsPlainReply client (ask.Scan cursor options) answer = IsPage answer
IsPlainReply client (ask.Ping None) answer = answer ≡ answers.Pong
IsPlainReply client (ask.Ping (Some text)) answer = answer ≡ answers.Value text
IsPlainReply client (ask.Echo text) answer = answer ≡ answers.Value text
IsPlainReply client ask.ListCommands answer = answer ≡ answers.NoCommands
IsPlainReply client ask.CountCommands answer = answer ≡ answers.Number count_of_names
IsPlainReply client ask.ClientId answer = answer ≡ answers.Number client
IsPlainReply client ask.DescribeClient answer = answer ≡ answers.Ok
IsPlainReply client ask.ClientName answer = answer ≡ answers.Nil
IsPlainReply client ask.Hello answer = answer ≡ answers.Greeting client
IsPlainReply client ask.Select answer = answer ≡ answers.Ok
IsPlainReply client ask.Login answer = answer ≡ answers.Ok
IsPlainReply client command answer = ⊤

-- how a command that begins no call is answered: by the fault of a frame that is no command, by the reason why a call
-- was refused, or by the plain answer; a QUIT is not answered so
abbrev pub IsReplyTo : (number : ℕ) → FileContents → (client : ℕ) → Found → Answer → Type 0
IsReplyTo number file client (Err fault) answer = answer ≡ answers.Error (errors.Fault fault)
IsReplyTo number file client (Ok (ask.Read wanted name)) answer = IsRefusedBy read_refusal answer
IsReplyTo number file client (Ok (ask.Set name value)) answer =
    IsRefusedBy (λ local id. write_refusal local id value) answer
IsReplyTo number file client (Ok (ask.Delete deletion)) answer =
    IsRefusedBy (λ local id. write_refusal local id []) answer
IsReplyTo number file client (Ok (ask.Move name layout)) answer =
    (heard : Option Heard) × IsMoveRefused (move_fault number file heard layout) answer
IsReplyTo number file client (Ok ask.Quit) answer = ⊥
IsReplyTo number file client (Ok command) answer = IsPlainReply client command answer

-- a move begins only if it has no fault: only at the node that moves objects, and only to nodes of the cluster
abbrev pub MayBegin : (number : ℕ) → FileContents → Command → Type 0
MayBegin number file (ask.Move name layout) = (heard : Option Heard) × (move_fault number file heard layout ≡ None)
MayBegin number file command = ⊤

-- what the node of this number does with a command is right: it may begin the call, or it gives the right answer
abbrev pub IsRight : (number : ℕ) → FileContents → Service → Type 0
IsRight number file (Service.Replies client command answer) = IsReplyTo number file client (asked command) answer
IsRight number file (Service.Begins client command id) = MayBegin number file command
IsRight number file service = ⊤
