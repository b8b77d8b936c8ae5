-- The arguments of a DEL.
use Rattle.std.specs.Prelude.{◌≡◌, ◌<◌, ℕ, ◌==◌, Bool, false, List, length, nat_lt, if◌then◌else◌, Result, Ok, Err}
use Rattle.std.specs.List.{list_any}
use Rattle.tag.specs.declared.limits.TheConstants.{LONGEST_NAME}
use Rattle.node_strings.specs.Strings.{Strings}
use Rattle.client_commands.specs.Deletion.{Deletion, whole_deletion}
use Rattle.client_commands.specs.declared.command.Command.{Command}
use Rattle.client_commands.specs.declared.command.Command.TheVariants as ask
use Rattle.client_commands.specs.declared.command.CommandName.TheVariants as of
use Rattle.client_commands.specs.declared.fault.CommandFault.{CommandFault}
use Rattle.client_commands.specs.declared.fault.CommandFault.TheVariants.{WrongCount, NameTooLong}

-- whether a name is longer than a name may be
abbrev pub is_long : (name : List ℕ) → Bool
is_long name = nat_lt LONGEST_NAME (length name)

-- DEL: one name or more, none of which is too long
unfoldable pub delete_from : Strings → Result Command CommandFault
delete_from names =
    if length names == 0 then Err (WrongCount of.Del)
    else (if list_any is_long names then Err NameTooLong else Ok (ask.Delete (whole_deletion names)))

-- the words after DEL are these names, of which there is one at least, and nothing is done yet
abbrev pub AskToDelete : Deletion → Strings → Type 0
AskToDelete deletion words = (deletion ≡ whole_deletion words) × (0 < length words) × (list_any is_long words ≡ false)
