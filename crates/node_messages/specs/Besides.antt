-- Reading what a letter asks and tells besides its message, up to the first fault.
use Rattle.std.specs.Prelude.{◌==◌, ℕ, List, Option, Some, None, Bool, true, false, Result, Err, if◌then◌else◌}
use Rattle.tag.specs.declared.tag.Tag.{Tag}
use Rattle.piece.specs.declared.piece.Piece.{Piece}
use Rattle.bank.specs.declared.status.Status.{Status}
use Rattle.node_strings.specs.Strings.{Strings}
use Rattle.words.specs.Parts.{and_then}
use Rattle.node_messages.specs.declared.besides.Besides.{Besides}
use Rattle.node_messages.specs.declared.error.Fault.{Fault}
use Rattle.node_messages.specs.declared.error.Fault.TheVariants.{UnknownCode}
use Rattle.node_messages.specs.declared.places.TheConstants.{MARK_PLACE, TOLD_STATUS_PLACE, GREATEST_NUMBER_PLACE}
use Rattle.node_messages.specs.declared.places.TheConstants.{GREATEST_CALL_PLACE, TOLD_POINT_PLACE, TOLD_LEN_PLACE}
use Rattle.node_messages.specs.Codes.{status_from}
use Rattle.node_messages.specs.Head.{byte_in, short_in, long_in}
use Rattle.node_messages.specs.Parts.{ending, first_string}

-- the greatest tag that is told
abbrev pub greatest_in : (numbers : List ℕ) → Tag
greatest_in numbers =
    record { number = long_in GREATEST_NUMBER_PLACE numbers; call = long_in GREATEST_CALL_PLACE numbers }

-- the piece that is told, which has these bytes
abbrev pub told_piece_in : (numbers bytes : List ℕ) → Piece
told_piece_in numbers bytes =
    record { point = byte_in TOLD_POINT_PLACE numbers; len = short_in TOLD_LEN_PLACE numbers; bytes = bytes }

-- the status that is told
abbrev pub told_status_in : (numbers : List ℕ) → Result Status Fault
told_status_in numbers = status_from (byte_in TOLD_STATUS_PLACE numbers)

-- a letter that tells nothing asks for a piece, or does not
abbrev pub asking : Bool → Besides
asking asks = record { asks_piece = asks; told = None }

-- a letter tells this status, this greatest tag and this piece
abbrev pub telling : Status → Tag → Option Piece → Besides
telling found greatest piece =
    record { asks_piece = false; told = Some (record { status = found; greatest = greatest; piece = piece }) }

-- what a letter tells, with this piece, unless strings are left
unfoldable pub told_with : (numbers : List ℕ) → Option Piece → Strings → Result Besides Fault
told_with numbers piece rest =
    and_then (told_status_in numbers) (λ found.
    ending (telling found (greatest_in numbers) piece) rest)

-- what a letter tells, with the piece whose bytes are the only string
unfoldable pub told_with_string : (numbers : List ℕ) → Strings → Result Besides Fault
told_with_string numbers strings =
    and_then (first_string strings) (λ bytes.
    told_with numbers (Some (told_piece_in numbers bytes.0)) bytes.1)

-- what a letter asks and tells, where this code says what that is, with these strings after those of its message
unfoldable pub besides_from : (code : ℕ) → (numbers : List ℕ) → Strings → Result Besides Fault
besides_from code numbers strings =
    if code == 0 then ending (asking false) strings
    else (if code == 1 then ending (asking true) strings
    else (if code == 2 then told_with numbers None strings
    else (if code == 3 then told_with_string numbers strings
    else Err UnknownCode)))

-- what a letter asks and tells besides its message, with these strings after those of its message; or the first fault
abbrev pub last_besides : (numbers : List ℕ) → Strings → Result Besides Fault
last_besides numbers strings = besides_from (byte_in MARK_PLACE numbers) numbers strings
