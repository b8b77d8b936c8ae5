-- The arguments of a MOVE: a name, a k, and the nodes.
use Rattle.std.specs.Prelude.{ℕ, List, [], ◌∷◌, length, Result, Ok, Err}
use Rattle.std.specs.Prelude.{nat_lt, ◌||◌, ◌==◌, if◌then◌else◌}
use Rattle.tag.specs.declared.limits.TheConstants.{LONGEST_NAME, MOST_MEMBERS}
use Rattle.layout.specs.Layout.{Layout}
use Rattle.words.specs.Parts.{and_then}
use Rattle.node_strings.specs.Numbers.{number_up_to}
use Rattle.node_strings.specs.Layouts.{checked_layout}
use Rattle.node_strings.specs.Strings.{Strings}
use Rattle.client_commands.specs.declared.command.CommandName.TheVariants as of
use Rattle.client_commands.specs.declared.fault.CommandFault.{CommandFault}
use Rattle.client_commands.specs.declared.fault.CommandFault.TheVariants.{WrongCount, NameTooLong, BadNumber}
use Rattle.client_commands.specs.declared.fault.CommandFault.TheVariants.{OutOfRange, BadLayout}

-- the number from 0 to 255 that a string writes
abbrev pub small_number : List ℕ → Result ℕ CommandFault
small_number string = number_up_to BadNumber 255 OutOfRange string

-- the numbers from 0 to 255 that strings write
abbrev pub small_numbers : Strings → Result (List ℕ) CommandFault
small_numbers [] = Ok []
small_numbers (string ∷ strings) =
    and_then (small_number string) (λ number.
    and_then (small_numbers strings) (λ numbers.
    Ok (number ∷ numbers)))

-- the layout of a MOVE with this name, this k and these nodes, of which there are from 1 to MOST_MEMBERS
unfoldable pub move_layout : List ℕ → List ℕ → Strings → Result Layout CommandFault
move_layout name k nodes =
    if (length nodes == 0) || nat_lt MOST_MEMBERS (length nodes) then Err (WrongCount of.Move)
    else (if nat_lt LONGEST_NAME (length name) then Err NameTooLong
    else and_then (small_number k) (λ k.
    and_then (small_numbers nodes) (λ members.
    checked_layout BadLayout (record { k = k; members = members }))))

-- the layout of a MOVE with these arguments
unfoldable pub layout_from : Strings → Result Layout CommandFault
layout_from [] = Err (WrongCount of.Move)
layout_from (name ∷ []) = Err (WrongCount of.Move)
layout_from (name ∷ k ∷ nodes) = move_layout name k nodes
