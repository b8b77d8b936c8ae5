-- The contracts that docs/trusted.md lists do not depend on this file; other contracts and proofs do.
-- What holds for all errors and for all answers.
use Rattle.std.specs.Prelude.{ℕ, ◌^◌, ◌<◌, ◌≤◌, List, ◌∷◌, length, Bool, IsTrue, nat_le, ◌&&◌, ⊤}
use Rattle.std.specs.List.{AllByRecursion, list_all}
use Rattle.frames.specs.Frame.{IsShort, IsFrame}
use Rattle.client_commands.specs.Answers.{sent_strings}
use Rattle.client_commands.specs.Command.{IsShortName}
use Rattle.client_commands.specs.declared.scanning.TheConstants.{MOST_SCANNED}
use Rattle.client_commands.specs.Texts.{error_code, error_text}
use Rattle.client_commands.specs.declared.answer.Answer.{Answer}
use Rattle.client_commands.specs.declared.answer.Answer.TheVariants as answer
use Rattle.client_commands.specs.declared.answer.AnswerError.{AnswerError}
use Rattle.client_commands.specs.declared.answer.AnswerError.TheVariants as error

-- whether a byte is a printable ASCII character: none of them is CR or LF
abbrev pub is_printable : ℕ → Bool
is_printable byte = nat_le 32 byte && nat_le byte 126

-- the number of a node in an error, if it has one, has 8 bits
abbrev pub HasNodeNumber : AnswerError → Type 0
HasNodeNumber (error.NoSuchNode node) = node < 2 ^ 8
HasNodeNumber (error.TooFewHeard node) = node < 2 ^ 8
HasNodeNumber e = ⊤

-- the code and the text of each error consist of printable ASCII characters
abbrev pub ErrorTextsArePrintable : Type 0
ErrorTextsArePrintable = (e : AnswerError) → HasNodeNumber e →
    IsTrue (list_all is_printable (error_code e)) × IsTrue (list_all is_printable (error_text e))

-- a value is short enough for a string of a frame, a number has 64 bits, or 8 if it is that of a node, and there are no
-- more names than a SCAN looks at, all of them short
abbrev pub IsShortAnswer : Answer → Type 0
IsShortAnswer answer.Ok = ⊤
IsShortAnswer answer.Pong = ⊤
IsShortAnswer (answer.Value value) = IsShort value
IsShortAnswer answer.Nil = ⊤
IsShortAnswer (answer.Number n) = n < 2 ^ 64
IsShortAnswer answer.NoCommands = ⊤
IsShortAnswer (answer.Page next names) =
    (next < 2 ^ 64) × (length names.items ≤ MOST_SCANNED) × AllByRecursion IsShortName names.items
IsShortAnswer (answer.Greeting id) = id < 2 ^ 64
IsShortAnswer (answer.Error e) = HasNodeNumber e

-- an address and the strings of such an answer are a frame
abbrev pub AnswersHaveFrames : Type 0
AnswersHaveFrames = (address : List ℕ) (a : Answer) → IsShort address → IsShortAnswer a
    → IsFrame (address ∷ sent_strings a)
