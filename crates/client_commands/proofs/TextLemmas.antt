-- The texts of errors are printable and short.
use Rattle.std.proofs.Common.{◌≡◌, ℕ, ◌^◌, ◌<◌, ◌≤◌, leb, ◌&&◌, List, [], ◌∷◌, ◌++◌, length, length-append, true, refl, ◌∙◌, arith, rules}
use Rattle.std.specs.Char.{is_ascii_digit}
use Rattle.std.specs.Fmt.{decimal}
use Rattle.std.specs.List.{list_all}
use Rattle.std.specs.Prelude.{codes}
use Rattle.std.specs.Str.Parse.{digits_value}
use Rattle.std.proofs.lemmas.Bool.{leb-true, le-leb, and_parts, and_from}
use Rattle.std.proofs.lemmas.Fmt.{digits_decimal, length-decimal-le}
use Rattle.std.proofs.lemmas.List.Folds.{list_all-append}
use Rattle.std.proofs.lemmas.Str.Parse.{IsNumeralModel, numerals_by_value}
use Rattle.tag.specs.Refusal.{number_of, name_of, refusal_text}
use Rattle.tag.specs.declared.refusal.Refusal.{Refusal}
use Rattle.tag.specs.declared.refusal.Refusal.TheVariants as refusal
use Rattle.client_commands.specs.Laws.{is_printable, HasNodeNumber, ErrorTextsArePrintable}
use Rattle.client_commands.specs.Texts.{fault_code, fault_text, error_code, error_text}
use Rattle.client_commands.specs.declared.answer.AnswerError.{AnswerError}
use Rattle.client_commands.specs.declared.answer.AnswerError.TheVariants as error
use Rattle.client_commands.specs.declared.command.CommandName.{CommandName}
use Rattle.client_commands.specs.declared.command.CommandName.TheVariants as of
use Rattle.client_commands.specs.declared.fault.CommandFault.{CommandFault}
use Rattle.client_commands.specs.declared.fault.CommandFault.TheVariants as fault

abbrev IsPrintable : List ℕ → Type 0
IsPrintable text = list_all is_printable text ≡ true

-- at most 150 bytes, all of them printable
pub record IsText (text : List ℕ) : Type 0 where
  pub printable : IsPrintable text
  pub short : length text ≤ 150

is_text : (text : List ℕ) → (list_all is_printable text && leb (length text) 150) ≡ true → IsText text
is_text text e =
    let p = and_parts (list_all is_printable text) (leb (length text) 150) e in
    record { printable = p.0; short = leb-true (length text) 150 p.1 }

count_text : (name : CommandName) → IsText (fault_text (fault.WrongCount name))
count_text of.Get = is_text _ refl
count_text of.Set = is_text _ refl
count_text of.Move = is_text _ refl
count_text of.Info = is_text _ refl
count_text of.Ping = is_text _ refl
count_text of.Echo = is_text _ refl
count_text of.Command = is_text _ refl
count_text of.Client = is_text _ refl
count_text of.Quit = is_text _ refl
count_text of.Hello = is_text _ refl
count_text of.Select = is_text _ refl
count_text of.Auth = is_text _ refl
count_text of.Exists = is_text _ refl
count_text of.Strlen = is_text _ refl
count_text of.Dbsize = is_text _ refl
count_text of.Layout = is_text _ refl
count_text of.Scan = is_text _ refl
count_text of.Del = is_text _ refl

fault_is_text : (f : CommandFault) → IsText (fault_text f)
fault_is_text fault.UnknownCommand = is_text _ refl
fault_is_text fault.UnknownSubcommand = is_text _ refl
fault_is_text (fault.WrongCount name) = count_text name
fault_is_text fault.NoDatabase = is_text _ refl
fault_is_text fault.NoProtocol = is_text _ refl
fault_is_text fault.NoPassword = is_text _ refl
fault_is_text fault.WrongUser = is_text _ refl
fault_is_text fault.NoExpiry = is_text _ refl
fault_is_text fault.NoCondition = is_text _ refl
fault_is_text fault.SeveralNames = is_text _ refl
fault_is_text fault.BadCursor = is_text _ refl
fault_is_text fault.SyntaxError = is_text _ refl
fault_is_text fault.NotInteger = is_text _ refl
fault_is_text fault.NameTooLong = is_text _ refl
fault_is_text fault.ValueTooLong = is_text _ refl
fault_is_text fault.BadNumber = is_text _ refl
fault_is_text fault.OutOfRange = is_text _ refl
fault_is_text fault.BadLayout = is_text _ refl
fault_is_text fault.PatternTooLong = is_text _ refl
fault_is_text fault.NoSets = is_text _ refl

-- ---- refusals, which have numbers

abbrev AreDigits : List ℕ → Type 0
AreDigits ds = list_all is_ascii_digit ds ≡ true

numerals : IsNumeralModel AreDigits (digits_value 10)
numerals = numerals_by_value AreDigits (search rules)

digits_printable : (ds : List ℕ) → AreDigits ds → IsPrintable ds
digits_printable [] e = refl
digits_printable (d ∷ ds) e =
    let p = and_parts (is_ascii_digit d) (list_all is_ascii_digit ds) e in
    let r = and_parts (leb 48 d) (leb d 57) p.0 in
    let low : 48 ≤ d = leb-true 48 d r.0 in
    let high : d ≤ 57 = leb-true d 57 r.1 in
    and_from (is_printable d) (list_all is_printable ds)
    (and_from (leb 32 d) (leb d 126) (le-leb 32 d (omega arith)) (le-leb d 126 (omega arith))) (digits_printable ds p.1)

both_printable : (a b : List ℕ) → IsPrintable a → IsPrintable b → IsPrintable (a ++ b)
both_printable a b e f = list_all-append is_printable a b ∙ and_from (list_all is_printable a) (list_all is_printable b) e f

numbered : (r : Refusal) → number_of r < 100 → (list_all is_printable (32 ∷ name_of r) && leb (length (32 ∷ name_of r)) 50) ≡ true
    → IsText (codes "refused: " ++ refusal_text r)
numbered r lt e =
    let n = number_of r in
    let p = and_parts (list_all is_printable (32 ∷ name_of r)) (leb (length (32 ∷ name_of r)) 50) e in
    let name : length (32 ∷ name_of r) ≤ 50 = leb-true (length (32 ∷ name_of r)) 50 p.1 in
    let small : n < 2 ^ 64 = omega arith in
    let digits : length (decimal n) ≤ 2 = length-decimal-le 2 n (omega arith) (omega arith) small in
    record {
      printable =
          both_printable (codes "refused: ") (refusal_text r) refl
          (both_printable (decimal n) (32 ∷ name_of r) (digits_printable (decimal n) (digits_decimal numerals n small)) p.0);
      short = omega (arith, length-append (decimal n) (32 ∷ name_of r));
    }

refusal_is_text : (r : Refusal) → IsText (error_text (error.Refused r))
refusal_is_text refusal.NoMemory = numbered refusal.NoMemory (omega arith) refl
refusal_is_text refusal.BadLayout = numbered refusal.BadLayout (omega arith) refl
refusal_is_text refusal.NoObject = numbered refusal.NoObject (omega arith) refl
refusal_is_text refusal.ObjectExists = numbered refusal.ObjectExists (omega arith) refl
refusal_is_text refusal.TooLong = is_text _ refl
refusal_is_text refusal.NoCall = numbered refusal.NoCall (omega arith) refl
refusal_is_text refusal.NotNow = is_text _ refl
refusal_is_text refusal.NoMessage = numbered refusal.NoMessage (omega arith) refl
refusal_is_text refusal.Down = numbered refusal.Down (omega arith) refl
refusal_is_text refusal.WrongCode = numbered refusal.WrongCode (omega arith) refl
refusal_is_text refusal.MovePending = is_text _ refl
refusal_is_text refusal.Full = is_text _ refl
refusal_is_text refusal.Stuck = numbered refusal.Stuck (omega arith) refl
refusal_is_text refusal.GaveUp = numbered refusal.GaveUp (omega arith) refl
refusal_is_text refusal.BadPieces = numbered refusal.BadPieces (omega arith) refl
refusal_is_text refusal.Collected = numbered refusal.Collected (omega arith) refl
refusal_is_text refusal.Stranger = numbered refusal.Stranger (omega arith) refl

-- ---- the number of a node within a text

-- a text with the number of a node between two others
node_is_text : (front back : List ℕ) (node : ℕ) → node < 2 ^ 8 → (list_all is_printable front && leb (length front) 60) ≡ true
    → (list_all is_printable back && leb (length back) 30) ≡ true → IsText (front ++ decimal node ++ back)
node_is_text front back node lt f b =
    let p = and_parts (list_all is_printable front) (leb (length front) 60) f in
    let q = and_parts (list_all is_printable back) (leb (length back) 30) b in
    let before : length front ≤ 60 = leb-true (length front) 60 p.1 in
    let behind : length back ≤ 30 = leb-true (length back) 30 q.1 in
    let small : node < 2 ^ 64 = omega (arith, lt) in
    let digits : length (decimal node) ≤ 3 = length-decimal-le 3 node (omega arith) (omega (arith, lt)) small in
    record {
      printable = both_printable (front ++ decimal node) back
          (both_printable front (decimal node) p.0 (digits_printable (decimal node) (digits_decimal numerals node small))) q.0;
      short = omega (arith, length-append (front ++ decimal node) back, length-append front (decimal node));
    }

pub error_is_text : (e : AnswerError) → HasNodeNumber e → IsText (error_text e)
error_is_text (error.Fault f) has = fault_is_text f
error_is_text (error.Refused r) has = refusal_is_text r
error_is_text error.NoQuorum has = is_text _ refl
error_is_text error.NotMover has = is_text _ refl
error_is_text (error.NoSuchNode node) has = node_is_text (codes "node ") (codes " is not in the cluster file") node has refl refl
error_is_text (error.TooFewHeard node) has =
    node_is_text (codes "fewer than a quorum of the new nodes answer: node ") (codes " is not heard") node has refl refl
error_is_text error.Protocol has = is_text _ refl

-- at most 9 bytes, all of them printable
abbrev pub IsCode : List ℕ → Type 0
IsCode code = (list_all is_printable code && leb (length code) 9) ≡ true

fault_has_code : (f : CommandFault) → IsCode (fault_code f)
fault_has_code fault.UnknownCommand = refl
fault_has_code fault.UnknownSubcommand = refl
fault_has_code (fault.WrongCount name) = refl
fault_has_code fault.NoDatabase = refl
fault_has_code fault.NoProtocol = refl
fault_has_code fault.NoPassword = refl
fault_has_code fault.WrongUser = refl
fault_has_code fault.NoExpiry = refl
fault_has_code fault.NoCondition = refl
fault_has_code fault.SeveralNames = refl
fault_has_code fault.BadCursor = refl
fault_has_code fault.SyntaxError = refl
fault_has_code fault.NotInteger = refl
fault_has_code fault.NameTooLong = refl
fault_has_code fault.ValueTooLong = refl
fault_has_code fault.BadNumber = refl
fault_has_code fault.OutOfRange = refl
fault_has_code fault.BadLayout = refl
fault_has_code fault.PatternTooLong = refl
fault_has_code fault.NoSets = refl

has_code : (e : AnswerError) → IsCode (error_code e)
has_code (error.Fault f) = fault_has_code f
has_code (error.Refused r) = refl
has_code error.NoQuorum = refl
has_code error.NotMover = refl
has_code (error.NoSuchNode node) = refl
has_code (error.TooFewHeard node) = refl
has_code error.Protocol = refl

pub code_is_short : (e : AnswerError) → length (error_code e) ≤ 9
code_is_short e =
    leb-true (length (error_code e)) 9 (and_parts (list_all is_printable (error_code e)) (leb (length (error_code e)) 9) (has_code e)).1

pub printable : ErrorTextsArePrintable
printable e has = (
  (and_parts (list_all is_printable (error_code e)) (leb (length (error_code e)) 9) (has_code e)).0,
  (error_is_text e has).printable,
)
