-- The texts of errors.
use Rattle.std.specs.Prelude.{ℕ, List, ◌++◌, codes}
use Rattle.std.specs.Fmt.{decimal}
use Rattle.tag.specs.Refusal.{refusal_text}
use Rattle.tag.specs.declared.refusal.Refusal.{Refusal}
use Rattle.tag.specs.declared.refusal.Refusal.TheVariants as refusal
use Rattle.client_commands.specs.Words.{command_text}
use Rattle.client_commands.specs.declared.answer.AnswerError.{AnswerError}
use Rattle.client_commands.specs.declared.answer.AnswerError.TheVariants as error
use Rattle.client_commands.specs.declared.fault.CommandFault.{CommandFault}
use Rattle.client_commands.specs.declared.fault.CommandFault.TheVariants as fault

-- the text of a fault
abbrev pub fault_text : CommandFault → List ℕ
fault_text fault.UnknownCommand = codes "unknown command"
fault_text fault.UnknownSubcommand = codes "unknown subcommand"
fault_text (fault.WrongCount name) = codes "wrong number of arguments for '" ++ command_text name ++ codes "' command"
fault_text fault.NoDatabase = codes "DB index is out of range"
fault_text fault.NoProtocol = codes "unsupported protocol version"
fault_text fault.NoPassword =
    codes "AUTH <password> called without any password configured for the default user. "
    ++ codes "Are you sure your configuration is correct?"
fault_text fault.WrongUser = codes "invalid username-password pair or user is disabled."
fault_text fault.NoExpiry = codes "values do not expire in this store; nothing was changed"
fault_text fault.NoCondition =
    codes "a write does not depend on the value before it in this store; nothing was changed"
fault_text fault.SeveralNames = codes "a command has one name in this store; nothing was done"
fault_text fault.BadCursor = codes "invalid cursor"
fault_text fault.SyntaxError = codes "syntax error"
fault_text fault.NotInteger = codes "value is not an integer or out of range"
fault_text fault.NameTooLong = codes "name too long"
fault_text fault.ValueTooLong = codes "value too long"
fault_text fault.BadNumber = codes "bad number"
fault_text fault.OutOfRange = codes "number out of range"
fault_text fault.BadLayout = codes "bad layout"
fault_text fault.PatternTooLong = codes "pattern too long"
fault_text fault.NoSets = codes "a pattern has no sets in this store; write \\[ for the byte"

-- the word with which the line of a fault begins
abbrev pub fault_code : CommandFault → List ℕ
fault_code fault.NoProtocol = codes "NOPROTO"
fault_code fault.WrongUser = codes "WRONGPASS"
fault_code fault = codes "ERR"

-- the word with which the line of an error begins
abbrev pub error_code : AnswerError → List ℕ
error_code (error.Fault fault) = fault_code fault
error_code error = codes "ERR"

-- the text of a refusal: a sentence for each one that a client can get; no client gets any other
abbrev pub refused_text : Refusal → List ℕ
refused_text refusal.NotNow = codes "a call with this number is under way"
refused_text refusal.TooLong = codes "value too long"
refused_text refusal.MovePending = codes "another move of this name is under way"
refused_text refusal.Full = codes "this name has been moved as often as is possible"
refused_text refusal = codes "refused: " ++ refusal_text refusal

-- the text of an error
abbrev pub error_text : AnswerError → List ℕ
error_text (error.Fault fault) = fault_text fault
error_text (error.Refused refusal) = refused_text refusal
error_text error.NoQuorum = codes "no quorum answered in time"
error_text error.NotMover = codes "only the mover moves objects"
error_text (error.NoSuchNode node) = codes "node " ++ decimal node ++ codes " is not in the cluster file"
error_text (error.TooFewHeard node) =
    codes "fewer than a quorum of the new nodes answer: node " ++ decimal node ++ codes " is not heard"
error_text error.Protocol = codes "protocol"
