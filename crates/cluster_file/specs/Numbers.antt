-- The contracts that docs/trusted.md lists do not depend on this file; other contracts and proofs do.
-- The values that one word writes, from left to right, up to the first fault.
use Rattle.std.specs.Prelude.{ℕ, ◌+◌, ◌-◌, ◌^◌, ◌&&◌, ◌||◌, Bool, false, nat_eq, nat_lt, if◌then◌else◌}
use Rattle.std.specs.Prelude.{List, [], ◌∷◌, length, Result, Ok, Err, Option, Some, None, codes}
use Rattle.std.specs.List.{list_all, list_any}
use Rattle.std.specs.Char.{is_ascii_digit}
use Rattle.std.specs.Str.{bytes_eq}
use Rattle.std.specs.Str.Parse.{digits_value}
use Rattle.layout.specs.Quorum.{has}
use Rattle.tag.specs.declared.limits.TheConstants.{MOST_SERVERS}
use Rattle.cluster_file.specs.declared.error.Fault.{Fault}
use Rattle.cluster_file.specs.declared.error.Fault.TheVariants.{NotANumber, OutOfRange, NodeTwice, TooManyNodes, NoNode}
use Rattle.cluster_file.specs.declared.number.Range.{Range}
use Rattle.words.specs.Parts.{and_then}
use Rattle.words.specs.Word.{Word}

-- whether a word is decimal digits without a leading zero
abbrev pub is_decimal : Word → Bool
is_decimal [] = false
is_decimal (digit ∷ []) = is_ascii_digit digit
is_decimal (first ∷ second ∷ rest) = nat_lt 48 first && list_all is_ascii_digit (first ∷ second ∷ rest)

-- a number that is in this range, or the fault of the range
abbrev pub within : Range → ℕ → Result ℕ Fault
within range n = if nat_lt n range.least || nat_lt range.most n then Err range.outside else Ok n

-- the number in this range that a word writes
unfoldable pub number_from : Range → Word → Result ℕ Fault
number_from range word = if is_decimal word then within range (digits_value 10 word) else Err NotANumber

-- the numbers that a byte may have
abbrev pub of_a_byte : Range
of_a_byte = record { least = 0; most = 2 ^ 8 - 1; outside = OutOfRange }

-- the numbers of 32 bits
abbrev pub of_32_bits : Range
of_32_bits = record { least = 0; most = 2 ^ 32 - 1; outside = OutOfRange }

-- the bound delta that a word writes: a number, or `none`
unfoldable pub delta_from : Word → Result (Option ℕ) Fault
delta_from word =
    if bytes_eq word (codes "none") then Ok None
    else and_then (number_from of_32_bits word) (λ delta. Ok (Some delta))

-- whether what was read is this node
abbrev pub is_node : ℕ → Result ℕ Fault → Bool
is_node node (Ok found) = nat_eq found node
is_node node (Err fault) = false

-- whether a word writes this node
abbrev pub writes_node : ℕ → Word → Bool
writes_node node word = is_node node (number_from of_a_byte word)

-- whether a node is one of these, or one of these words writes it
abbrev pub is_among : List ℕ → List Word → ℕ → Bool
is_among nodes later node = has nodes node || list_any (writes_node node) later

-- the node that a word writes, which is one of these, or which one of these words writes
unfoldable pub mover_from : List ℕ → List Word → Word → Result ℕ Fault
mover_from nodes later word =
    and_then (number_from of_a_byte word) (λ node. if is_among nodes later node then Ok node else Err NoNode)

-- the node that a word writes, if it is in neither list and there is room for one more
unfoldable pub node_from : List ℕ → List ℕ → Word → Result ℕ Fault
node_from others listed word =
    and_then (number_from of_a_byte word) (λ node.
    if has others node || has listed node then Err NodeTwice
    else (if nat_lt (length others + length listed) MOST_SERVERS then Ok node else Err TooManyNodes))
