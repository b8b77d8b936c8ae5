-- Which command the strings of a frame are, or what the first fault is.
use Rattle.std.specs.Prelude.{ℕ, List, [], ◌∷◌, length, get_or, Option, Some, None, Result, Ok, Err, ◌==◌, codes}
use Rattle.std.specs.Prelude.{if◌then◌else◌, nat_lt}
use Rattle.std.specs.Str.{bytes_eq}
use Rattle.words.specs.Parts.{and_then}
use Rattle.node_strings.specs.Strings.{Strings}
use Rattle.client_commands.specs.Arguments.{checked_name, checked_value, only_argument, name_and_value}
use Rattle.client_commands.specs.Arguments.{hello_fault, login_fault}
use Rattle.client_commands.specs.Deleting.{delete_from}
use Rattle.client_commands.specs.Layouts.{layout_from}
use Rattle.client_commands.specs.Scanning.{scan_from}
use Rattle.client_commands.specs.Sections.{sections_from}
use Rattle.client_commands.specs.Words.{is_word, name_of_word, word_fault}
use Rattle.client_commands.specs.declared.command.Command.{Command}
use Rattle.client_commands.specs.declared.command.Command.TheVariants as ask
use Rattle.client_commands.specs.declared.command.Wanted.{Wanted}
use Rattle.client_commands.specs.declared.command.Wanted.TheVariants as wanted
use Rattle.client_commands.specs.declared.command.CommandName.{CommandName}
use Rattle.client_commands.specs.declared.command.CommandName.TheVariants as of
use Rattle.client_commands.specs.declared.fault.CommandFault.{CommandFault}
use Rattle.client_commands.specs.declared.fault.CommandFault.TheVariants.{UnknownCommand, UnknownSubcommand}
use Rattle.client_commands.specs.declared.fault.CommandFault.TheVariants.{WrongCount, NoDatabase, SeveralNames}

-- a command, or the first fault
abbrev pub Found : Type 0
Found = Result Command CommandFault

-- the command that reads the only argument as a name, and tells its value, its length or its existence; or a fault
unfoldable pub read_from : CommandName → Wanted → Strings → Found
read_from word wanted arguments =
    and_then (only_argument word arguments) (λ name.
    and_then (checked_name name) (λ name.
    Ok (ask.Read wanted name)))

-- EXISTS: a name
unfoldable pub exists_from : Strings → Found
exists_from arguments =
    if nat_lt 1 (length arguments) then Err SeveralNames else read_from of.Exists wanted.Existence arguments

-- this command, unless there is a fault
abbrev pub unless : Option CommandFault → Command → Found
unless None command = Ok command
unless (Some fault) command = Err fault

-- SELECT: the number 0
unfoldable pub select_from : Strings → Found
select_from arguments =
    and_then (only_argument of.Select arguments) (λ index.
    if bytes_eq index (codes "0") then Ok ask.Select else Err NoDatabase)

-- LAYOUT: a name
unfoldable pub show_from : Strings → Found
show_from arguments =
    and_then (only_argument of.Layout arguments) (λ name.
    and_then (checked_name name) (λ name.
    Ok (ask.ShowLayout name)))

-- DBSIZE: nothing
unfoldable pub size_from : Strings → Found
size_from arguments = if length arguments == 0 then Ok ask.CountWritten else Err (WrongCount of.Dbsize)

-- COMMAND: nothing, COUNT, or any other words
unfoldable pub list_from : Strings → Found
list_from [] = Ok ask.ListCommands
list_from (word ∷ more) =
    if is_word word (codes "count")
    then (if length more == 0 then Ok ask.CountCommands else Err (WrongCount of.Command))
    else Ok ask.ListCommands

-- SET: a name and a value
unfoldable pub set_from : Strings → Found
set_from arguments =
    and_then (name_and_value arguments) (λ both.
    and_then (checked_name both.0) (λ name.
    and_then (checked_value both.1) (λ value.
    Ok (ask.Set name value))))

-- MOVE: a name, and then a layout
unfoldable pub move_from : Strings → Found
move_from arguments = and_then (layout_from arguments) (λ layout. Ok (ask.Move (get_or arguments 0 []) layout))

-- PING: a text, or nothing
unfoldable pub ping_from : Strings → Found
ping_from [] = Ok (ask.Ping None)
ping_from (text ∷ more) = and_then (only_argument of.Ping (text ∷ more)) (λ text. Ok (ask.Ping (Some text)))

-- ECHO: a text
unfoldable pub echo_from : Strings → Found
echo_from arguments = and_then (only_argument of.Echo arguments) (λ text. Ok (ask.Echo text))

-- this command, unless the number of strings is wrong for it
abbrev pub counted : ℕ → ℕ → Command → Found
counted count wanted command = if count == wanted then Ok command else Err (WrongCount of.Client)

-- CLIENT with this word and this many strings after it
unfoldable pub subcommand_from : List ℕ → ℕ → Found
subcommand_from word count =
    if is_word word (codes "id") then counted count 0 ask.ClientId
    else (if is_word word (codes "setname") then counted count 1 ask.DescribeClient
    else (if is_word word (codes "setinfo") then counted count 2 ask.DescribeClient
    else (if is_word word (codes "getname") then counted count 0 ask.ClientName
    else Err UnknownSubcommand)))

-- CLIENT: a word, and what belongs to it
unfoldable pub client_from : Strings → Found
client_from [] = Err (WrongCount of.Client)
client_from (word ∷ rest) = subcommand_from word (length rest)

-- the command of this name with these arguments
abbrev pub command_from : CommandName → Strings → Found
command_from of.Get arguments = read_from of.Get wanted.Value arguments
command_from of.Set arguments = set_from arguments
command_from of.Move arguments = move_from arguments
command_from of.Info arguments = Ok (ask.Info (sections_from arguments))
command_from of.Ping arguments = ping_from arguments
command_from of.Echo arguments = echo_from arguments
command_from of.Command arguments = list_from arguments
command_from of.Client arguments = client_from arguments
command_from of.Quit arguments = Ok ask.Quit
command_from of.Hello arguments = unless (hello_fault arguments) ask.Hello
command_from of.Select arguments = select_from arguments
command_from of.Auth arguments = unless (login_fault arguments) ask.Login
command_from of.Exists arguments = exists_from arguments
command_from of.Strlen arguments = read_from of.Strlen wanted.Length arguments
command_from of.Dbsize arguments = size_from arguments
command_from of.Layout arguments = show_from arguments
command_from of.Scan arguments = scan_from arguments
command_from of.Del arguments = delete_from arguments

-- the command that a word names, if it names this one, or why it names none
abbrev pub command_named : (word : List ℕ) → Option CommandName → Strings → Found
command_named word None arguments = Err (word_fault word)
command_named word (Some name) arguments = command_from name arguments

-- the command of these strings: its name, followed by its arguments
unfoldable pub command_at : Strings → Found
command_at [] = Err UnknownCommand
command_at (word ∷ arguments) = command_named word (name_of_word word) arguments
