-- The strings of a message, the parts of its head, and the piece, up to the first fault.
use Rattle.std.specs.Prelude.{◌==◌, ℕ, List, [], ◌∷◌, length, take, drop, Option, Some, None, Bool, true, false}
use Rattle.std.specs.Prelude.{Result, Ok, Err, nat_lt, if◌then◌else◌}
use Rattle.tag.specs.declared.limits.TheConstants.{LONGEST_NAME}
use Rattle.tag.specs.declared.tag.Tag.{Tag}
use Rattle.piece.specs.declared.piece.Piece.{Piece}
use Rattle.cluster_file.specs.declared.file.TheConstants.{DIGEST_LENGTH}
use Rattle.node_strings.specs.Strings.{Strings}
use Rattle.words.specs.Parts.{and_then}
use Rattle.node_messages.specs.declared.error.Fault.{Fault}
use Rattle.node_messages.specs.declared.error.Fault.TheVariants.{WrongCount, OtherForm, NameTooLong}
use Rattle.node_messages.specs.declared.places.TheConstants.{FORM, NUMBERS_LENGTH, FORM_PLACE, TAG_NUMBER_PLACE}
use Rattle.node_messages.specs.declared.places.TheConstants.{TAG_CALL_PLACE, PIECE_PLACE, POINT_PLACE, LEN_PLACE}
use Rattle.node_messages.specs.Codes.{flag_from}
use Rattle.node_messages.specs.Head.{byte_in, short_in, long_in}

-- Strings

-- what the first strings write, or the first fault there; and the strings after them
abbrev pub FirstAndRest : Type 0 → Type 0
FirstAndRest X = Result (X × Strings) Fault

-- the first string
unfoldable pub first_string : Strings → FirstAndRest (List ℕ)
first_string [] = Err WrongCount
first_string (string ∷ rest) = Ok (string, rest)

-- a name
unfoldable pub first_name : Strings → FirstAndRest (List ℕ)
first_name strings =
    and_then (first_string strings) (λ string.
    if nat_lt LONGEST_NAME (length string.0) then Err NameTooLong else Ok string)

-- this value, unless strings are left after it
abbrev pub ending : {X : Type 0} → X → Strings → Result X Fault
ending x [] = Ok x
ending x (string ∷ rest) = Err WrongCount

-- The parts of a head

-- the first n bytes, and those after them, unless there are fewer
unfoldable pub split_bytes : ℕ → List ℕ → Result (List ℕ × List ℕ) Fault
split_bytes n bytes = if nat_lt (length bytes) n then Err OtherForm else Ok (take n bytes, drop n bytes)

-- the numbers of a head, the digest, and the bytes of the layouts, unless it is of another form
unfoldable pub parts_of : List ℕ → Result (List ℕ × List ℕ × List ℕ) Fault
parts_of head =
    and_then (split_bytes NUMBERS_LENGTH head) (λ numbers.
    and_then (split_bytes DIGEST_LENGTH numbers.1) (λ digest.
    if byte_in FORM_PLACE numbers.0 == FORM then Ok (numbers.0, digest.0, digest.1) else Err OtherForm))

-- What the numbers say

-- the tag
abbrev pub tag_in : (numbers : List ℕ) → Tag
tag_in numbers = record { number = long_in TAG_NUMBER_PLACE numbers; call = long_in TAG_CALL_PLACE numbers }

-- the piece that has these bytes
abbrev pub piece_in : (numbers bytes : List ℕ) → Piece
piece_in numbers bytes =
    record { point = byte_in POINT_PLACE numbers; len = short_in LEN_PLACE numbers; bytes = bytes }

-- the piece whose bytes are the first string, or none, as the numbers say
unfoldable pub piece_if : Bool → (numbers : List ℕ) → Strings → FirstAndRest (Option Piece)
piece_if true numbers strings =
    and_then (first_string strings) (λ bytes.
    Ok (Some (piece_in numbers bytes.0), bytes.1))
piece_if false numbers strings = Ok (None, strings)

-- the piece of a message, whose bytes are the first string, if the head says that there is a piece; or the first fault
unfoldable pub first_piece : (numbers : List ℕ) → Strings → FirstAndRest (Option Piece)
first_piece numbers strings =
    and_then (flag_from (byte_in PIECE_PLACE numbers)) (λ is_piece.
    piece_if is_piece numbers strings)
