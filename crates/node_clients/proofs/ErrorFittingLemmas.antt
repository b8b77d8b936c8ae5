-- The lines of the errors that clients are told fit into frames.
use Rattle.std.proofs.Common.{◌≡◌, ◌<◌, ◌≤◌, ◌^◌, ℕ, List, [], ◌∷◌, ◌++◌, ◌+◌, length, length-append, refl, arith}
use Rattle.std.specs.Prelude.{codes}
use Rattle.std.specs.Fmt.{decimal}
use Rattle.std.proofs.lemmas.Fmt.{length-decimal-le}
use Rattle.tag.specs.Refusal.{name_of, number_of, refusal_text}
use Rattle.tag.specs.declared.refusal.Refusal.{Refusal}
use Rattle.tag.specs.declared.refusal.Refusal.TheVariants as refusals
use Rattle.client_commands.specs.Answers.{error_line}
use Rattle.client_commands.specs.Texts.{error_text, fault_code, fault_text, refused_text}
use Rattle.client_commands.specs.Words.{command_text}
use Rattle.client_commands.specs.declared.answer.Answer.TheVariants as answers
use Rattle.client_commands.specs.declared.answer.AnswerError.TheVariants as errors
use Rattle.client_commands.specs.declared.command.CommandName.{CommandName}
use Rattle.client_commands.specs.declared.command.CommandName.TheVariants as of
use Rattle.client_commands.specs.declared.fault.CommandFault.{CommandFault}
use Rattle.client_commands.specs.declared.fault.CommandFault.TheVariants as faults
use Rattle.frames.specs.Frame.{IsShort, line_end}
use Rattle.frames.specs.declared.limits.TheConstants.{LONGEST_STRING}
use Rattle.node_clients.specs.Answers.{CanBeSent}

-- the line of an error is short, if its word has at most 40 bytes and its text at most 200
line_fits : (code text : List ℕ) → length code ≤ 40 → length text ≤ 200 → IsShort (error_line code text)
line_fits code text short long =
    let limit : LONGEST_STRING ≡ 16842752 = refl in
    omega (
      arith,
      length-append (codes "-" ++ code ++ codes " " ++ text) line_end,
      length-append (codes "-" ++ code ++ codes " ") text,
      length-append (codes "-" ++ code) (codes " "),
      length-append (codes "-") code,
    )

short_name : (name : CommandName) → length (command_text name) ≤ 10
short_name of.Get = omega arith
short_name of.Set = omega arith
short_name of.Move = omega arith
short_name of.Info = omega arith
short_name of.Ping = omega arith
short_name of.Echo = omega arith
short_name of.Command = omega arith
short_name of.Client = omega arith
short_name of.Quit = omega arith
short_name of.Hello = omega arith
short_name of.Select = omega arith
short_name of.Auth = omega arith
short_name of.Exists = omega arith
short_name of.Strlen = omega arith
short_name of.Dbsize = omega arith
short_name of.Layout = omega arith
short_name of.Scan = omega arith
short_name of.Del = omega arith

short_fault : (fault : CommandFault) → length (fault_text fault) ≤ 200
short_fault faults.UnknownCommand = omega arith
short_fault faults.UnknownSubcommand = omega arith
short_fault faults.NoDatabase = omega arith
short_fault faults.NoProtocol = omega arith
short_fault faults.NoPassword = omega arith
short_fault faults.WrongUser = omega arith
short_fault faults.NoExpiry = omega arith
short_fault faults.NoCondition = omega arith
short_fault faults.SeveralNames = omega arith
short_fault faults.BadCursor = omega arith
short_fault faults.SyntaxError = omega arith
short_fault faults.NotInteger = omega arith
short_fault faults.NameTooLong = omega arith
short_fault faults.ValueTooLong = omega arith
short_fault faults.BadNumber = omega arith
short_fault faults.OutOfRange = omega arith
short_fault faults.BadLayout = omega arith
short_fault faults.PatternTooLong = omega arith
short_fault faults.NoSets = omega arith
short_fault (faults.WrongCount name) =
    let short : length (command_text name) ≤ 10 = short_name name in
    omega (
      arith,
      length-append (codes "wrong number of arguments for '" ++ command_text name) (codes "' command"),
      length-append (codes "wrong number of arguments for '") (command_text name),
    )

short_code : (fault : CommandFault) → length (fault_code fault) ≤ 40
short_code faults.UnknownCommand = omega arith
short_code faults.UnknownSubcommand = omega arith
short_code faults.NoDatabase = omega arith
short_code faults.NoProtocol = omega arith
short_code faults.NoPassword = omega arith
short_code faults.WrongUser = omega arith
short_code faults.NoExpiry = omega arith
short_code faults.NoCondition = omega arith
short_code faults.SeveralNames = omega arith
short_code faults.BadCursor = omega arith
short_code faults.SyntaxError = omega arith
short_code faults.NotInteger = omega arith
short_code faults.NameTooLong = omega arith
short_code faults.ValueTooLong = omega arith
short_code faults.BadNumber = omega arith
short_code faults.OutOfRange = omega arith
short_code faults.BadLayout = omega arith
short_code faults.PatternTooLong = omega arith
short_code faults.NoSets = omega arith
short_code (faults.WrongCount name) = omega arith

-- the text of a refusal that has no sentence of its own
short_number : (why : Refusal) → number_of why < 100 → length (name_of why) ≤ 20 →
    length (codes "refused: " ++ refusal_text why) ≤ 200
short_number why small short =
    let digits : length (decimal (number_of why)) ≤ 2 = length-decimal-le 2 (number_of why) (omega arith) (omega arith) (omega arith) in
    let text : length (refusal_text why) ≡ length (decimal (number_of why)) + length (32 ∷ name_of why) =
    length-append (decimal (number_of why)) (32 ∷ name_of why) in
    let all : length (codes "refused: " ++ refusal_text why) ≡ 9 + length (refusal_text why) =
    length-append (codes "refused: ") (refusal_text why) in
    omega arith

short_refusal : (why : Refusal) → length (refused_text why) ≤ 200
short_refusal refusals.NoMemory = short_number refusals.NoMemory (omega arith) (omega arith)
short_refusal refusals.BadLayout = short_number refusals.BadLayout (omega arith) (omega arith)
short_refusal refusals.NoObject = short_number refusals.NoObject (omega arith) (omega arith)
short_refusal refusals.ObjectExists = short_number refusals.ObjectExists (omega arith) (omega arith)
short_refusal refusals.TooLong = omega arith
short_refusal refusals.NoCall = short_number refusals.NoCall (omega arith) (omega arith)
short_refusal refusals.NotNow = omega arith
short_refusal refusals.NoMessage = short_number refusals.NoMessage (omega arith) (omega arith)
short_refusal refusals.Down = short_number refusals.Down (omega arith) (omega arith)
short_refusal refusals.WrongCode = short_number refusals.WrongCode (omega arith) (omega arith)
short_refusal refusals.MovePending = omega arith
short_refusal refusals.Full = omega arith
short_refusal refusals.Stuck = short_number refusals.Stuck (omega arith) (omega arith)
short_refusal refusals.GaveUp = short_number refusals.GaveUp (omega arith) (omega arith)
short_refusal refusals.BadPieces = short_number refusals.BadPieces (omega arith) (omega arith)
short_refusal refusals.Collected = short_number refusals.Collected (omega arith) (omega arith)
short_refusal refusals.Stranger = short_number refusals.Stranger (omega arith) (omega arith)

-- it can be told that a frame asks for no command
pub fault_fits : (fault : CommandFault) → CanBeSent (answers.Error (errors.Fault fault))
fault_fits fault = (line_fits (fault_code fault) (fault_text fault) (short_code fault) (short_fault fault), tt)

-- it can be told that a call was refused
pub refusal_fits : (why : Refusal) → CanBeSent (answers.Error (errors.Refused why))
refusal_fits why = (line_fits (codes "ERR") (refused_text why) (omega arith) (short_refusal why), tt)

-- it can be told that another node moves objects
pub not_mover_fits : CanBeSent (answers.Error errors.NotMover)
not_mover_fits = (line_fits (codes "ERR") (error_text errors.NotMover) (omega arith) (omega arith), tt)

-- it can be told that there is no such node
pub stranger_fits : (node : ℕ) → node < 2 ^ 8 → CanBeSent (answers.Error (errors.NoSuchNode node))
stranger_fits node within =
    let digits : length (decimal node) ≤ 3 = length-decimal-le 3 node (omega arith) (omega arith) (omega arith) in (
      line_fits (codes "ERR") (error_text (errors.NoSuchNode node)) (omega arith)
          (omega (
            arith,
            length-append (codes "node " ++ decimal node) (codes " is not in the cluster file"),
            length-append (codes "node ") (decimal node),
          )),
      tt,
    )

-- it can be told that a node is not heard
pub unheard_fits : (node : ℕ) → node < 2 ^ 8 → CanBeSent (answers.Error (errors.TooFewHeard node))
unheard_fits node within =
    let digits : length (decimal node) ≤ 3 = length-decimal-le 3 node (omega arith) (omega arith) (omega arith) in (
      line_fits (codes "ERR") (error_text (errors.TooFewHeard node)) (omega arith)
          (omega (
            arith,
            length-append (codes "fewer than a quorum of the new nodes answer: node " ++ decimal node) (codes " is not heard"),
            length-append (codes "fewer than a quorum of the new nodes answer: node ") (decimal node),
          )),
      tt,
    )
