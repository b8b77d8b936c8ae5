-- Which nodes a host has heard from.
use Rattle.std.specs.Prelude.{ℕ, ◌==◌, List, [], ◌∷◌, Bool, true, false, not, Option, None, Some, is_some}
use Rattle.std.specs.List.{list_all, list_any}
use Rattle.node_strings.specs.Strings.{Strings}
use Rattle.node_strings.specs.Parts.{number_or_none}
use Rattle.node_strings.specs.declared.heard.Heard.{Heard}

-- whether a string is the number of a node, in decimal digits
abbrev pub is_node_number : List ℕ → Bool
is_node_number string = is_some (number_or_none 255 string)

-- whether each of these strings is the number of a node
abbrev pub are_node_numbers : Strings → Bool
are_node_numbers strings = list_all is_node_number strings

-- whether this is the number, if there is one
abbrev pub is_number : (node : ℕ) → Option ℕ → Bool
is_number node None = false
is_number node (Some number) = number == node

-- whether a string is the number of this node
abbrev pub names_node : (node : ℕ) → List ℕ → Bool
names_node node string = is_number node (number_or_none 255 string)

-- whether there are no strings
abbrev pub is_empty : Strings → Bool
is_empty [] = true
is_empty (string ∷ rest) = false

-- whether a host tells which nodes it has heard from
abbrev pub tells_nodes : Heard → Bool
tells_nodes heard = not (is_empty heard.numbers)

-- whether the node of this number is among those that a host has heard from
abbrev pub has_heard : Heard → (node : ℕ) → Bool
has_heard heard node = list_any (names_node node) heard.numbers
