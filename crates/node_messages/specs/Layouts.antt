-- Reading the layouts at the end of a head, and the start, up to the first fault.
use Rattle.std.specs.Prelude.{◌%◌, ◌^◌, ℕ, List, [], ◌∷◌, length, take, drop, Option, Some, None, Bool, true, false}
use Rattle.std.specs.Prelude.{Result, Ok, Err, nat_lt, if◌then◌else◌}
use Rattle.std.specs.Int.{w32, to_be_bytes, from_be_bytes}
use Rattle.std.specs.Str.{bytes_eq}
use Rattle.layout.specs.Layout.{Layout}
use Rattle.letter.specs.declared.start.Start.{Start}
use Rattle.node_strings.specs.Layouts.{checked_layout}
use Rattle.words.specs.Parts.{and_then}
use Rattle.node_messages.specs.declared.error.Fault.{Fault}
use Rattle.node_messages.specs.declared.error.Fault.TheVariants.{BadLayout, LongHead}
use Rattle.node_messages.specs.declared.layouts.Layouts.{Layouts}

-- Layouts

-- the first byte
unfoldable pub first_byte : List ℕ → Result (ℕ × List ℕ) Fault
first_byte [] = Err BadLayout
first_byte (byte ∷ rest) = Ok (byte, rest)

-- the layout with this k, whose n members are the first bytes
unfoldable pub first_members : (n k : ℕ) → List ℕ → Result (Layout × List ℕ) Fault
first_members n k bytes =
    if nat_lt (length bytes) n then Err BadLayout
    else (and_then (checked_layout BadLayout (record { k = k; members = take n bytes })) (λ layout.
    Ok (layout, drop n bytes)))

-- the layout in the first bytes, and the bytes after it
unfoldable pub first_layout : List ℕ → Result (Layout × List ℕ) Fault
first_layout bytes =
    and_then (first_byte bytes) (λ n.
    and_then (first_byte n.1) (λ k.
    first_members n.0 k.0 k.1))

-- the layout of the next position, if there is to be one
unfoldable pub first_next : Bool → List ℕ → Result (Option Layout × List ℕ) Fault
first_next true bytes = and_then (first_layout bytes) (λ layout. Ok (Some layout.0, layout.1))
first_next false bytes = Ok (None, bytes)

-- The start

-- the number that the first four bytes write, high byte first; the remainder is that number itself
abbrev pub first_number : List ℕ → ℕ
first_number bytes = from_be_bytes w32 (take 4 bytes) % 2 ^ 32

-- the position in the first four bytes, and the bytes after it; there is none if there are fewer bytes
unfoldable pub first_position : List ℕ → Result (ℕ × List ℕ) Fault
first_position bytes =
    if bytes_eq (to_be_bytes w32 (first_number bytes)) (take 4 bytes) then Ok (first_number bytes, drop 4 bytes)
    else Err BadLayout

-- the start in the first bytes, and the bytes after it
unfoldable pub first_start : List ℕ → Result (Start × List ℕ) Fault
first_start bytes =
    and_then (first_position bytes) (λ position.
    and_then (first_layout position.1) (λ layout.
    Ok (record { position = position.0; layout = layout.0 }, layout.1)))

-- this start, unless bytes are left after it
abbrev pub whole_head : Start → List ℕ → Result (Option Start) Fault
whole_head start [] = Ok (Some start)
whole_head start (byte ∷ rest) = Err LongHead

-- the start whose bytes these are, or none if there are no bytes
unfoldable pub last_start : List ℕ → Result (Option Start) Fault
last_start [] = Ok None
last_start (byte ∷ rest) =
    and_then (first_start (byte ∷ rest)) (λ start.
    whole_head start.0 start.1)

-- the layouts and the start whose bytes these are
unfoldable pub layouts_from : (names_next : Bool) → List ℕ → Result Layouts Fault
layouts_from names bytes =
    and_then (first_layout bytes) (λ layout.
    and_then (first_next names layout.1) (λ next.
    and_then (last_start next.1) (λ start.
    Ok (record { layout = layout.0; next = next.0; start = start }))))
