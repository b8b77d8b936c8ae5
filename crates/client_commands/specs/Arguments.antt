-- The arguments of a command: the strings after its name.
use Rattle.std.specs.Prelude.{ℕ, List, [], ◌∷◌, length, Bool, Option, None, Some, Result, Ok, Err, nat_lt, codes}
use Rattle.std.specs.Prelude.{if◌then◌else◌}
use Rattle.std.specs.Str.{bytes_eq}
use Rattle.tag.specs.declared.limits.TheConstants.{LONGEST_NAME, LONGEST_VALUE}
use Rattle.node_strings.specs.Strings.{Strings}
use Rattle.client_commands.specs.declared.command.CommandName.{CommandName}
use Rattle.client_commands.specs.declared.command.CommandName.TheVariants as of
use Rattle.client_commands.specs.declared.fault.CommandFault.{CommandFault}
use Rattle.client_commands.specs.declared.fault.CommandFault.TheVariants.{WrongCount, SyntaxError, NameTooLong}
use Rattle.client_commands.specs.declared.fault.CommandFault.TheVariants.{ValueTooLong, NoProtocol, NoPassword}
use Rattle.client_commands.specs.declared.fault.CommandFault.TheVariants.{WrongUser}
use Rattle.client_commands.specs.Words.{is_word, option_fault}

-- this name, unless it is too long
abbrev pub checked_name : List ℕ → Result (List ℕ) CommandFault
checked_name name = if nat_lt LONGEST_NAME (length name) then Err NameTooLong else Ok name

-- this value, unless it is too long
abbrev pub checked_value : List ℕ → Result (List ℕ) CommandFault
checked_value value = if nat_lt LONGEST_VALUE (length value) then Err ValueTooLong else Ok value

-- the only argument, unless there is none or more than one
abbrev pub only_argument : CommandName → Strings → Result (List ℕ) CommandFault
only_argument name [] = Err (WrongCount name)
only_argument name (argument ∷ []) = Ok argument
only_argument name (argument ∷ other ∷ more) = Err (WrongCount name)

-- the name and the value of a SET, unless there are fewer arguments or more
abbrev pub name_and_value : Strings → Result (List ℕ × List ℕ) CommandFault
name_and_value [] = Err (WrongCount of.Set)
name_and_value (name ∷ []) = Err (WrongCount of.Set)
name_and_value (name ∷ value ∷ []) = Ok (name, value)
name_and_value (name ∷ value ∷ option ∷ more) = Err (option_fault option)

-- whether this is the user `default`, which is the only user that a node knows
abbrev pub is_default : List ℕ → Bool
is_default user = bytes_eq user (codes "default")

-- why the words after the user and the password of a HELLO are no options of it, if they are none: there may be none,
-- or SETNAME and a name
abbrev pub name_fault : Strings → Option CommandFault
name_fault [] = None
name_fault (word ∷ name ∷ []) = if is_word word (codes "setname") then None else Some SyntaxError
name_fault words = Some SyntaxError

-- why the words after the version of a HELLO are no options of it, if they are none: first there may be AUTH, a user
-- and a password
abbrev pub greeting_fault : Strings → Option CommandFault
greeting_fault (word ∷ user ∷ password ∷ more) =
    if is_word word (codes "auth") then (if is_default user then name_fault more else Some WrongUser)
    else Some SyntaxError
greeting_fault words = name_fault words

-- why the words after HELLO are no version and no options, if they are none
abbrev pub hello_fault : Strings → Option CommandFault
hello_fault [] = None
hello_fault (version ∷ options) = if bytes_eq version (codes "2") then greeting_fault options else Some NoProtocol

-- why the words after AUTH are not the user `default` and a password, if they are not
abbrev pub login_fault : Strings → Option CommandFault
login_fault [] = Some (WrongCount of.Auth)
login_fault (password ∷ []) = Some NoPassword
login_fault (user ∷ password ∷ []) = if is_default user then None else Some WrongUser
login_fault words = Some SyntaxError
