-- The names of commands.
use Rattle.std.specs.Prelude.{ℕ, List, [], ◌∷◌, length, Bool, ◌||◌, if◌then◌else◌, Option, codes}
use Rattle.std.specs.List.{find}
use Rattle.std.specs.Str.{str_eq_ignore_ascii_case}
use Rattle.client_commands.specs.declared.command.CommandName.{CommandName}
use Rattle.client_commands.specs.declared.command.CommandName.TheVariants as of
use Rattle.client_commands.specs.declared.fault.CommandFault.{CommandFault}
use Rattle.client_commands.specs.declared.fault.CommandFault.TheVariants.{UnknownCommand, NoExpiry, NoCondition}
use Rattle.client_commands.specs.declared.fault.CommandFault.TheVariants.{SeveralNames, SyntaxError}

-- whether a word is this text, where capital and small letters of ASCII count as the same
abbrev pub is_word : List ℕ → List ℕ → Bool
is_word word text = str_eq_ignore_ascii_case word text

-- the name of a command in small letters
abbrev pub command_text : CommandName → List ℕ
command_text of.Get = codes "get"
command_text of.Set = codes "set"
command_text of.Move = codes "move"
command_text of.Info = codes "info"
command_text of.Ping = codes "ping"
command_text of.Echo = codes "echo"
command_text of.Command = codes "command"
command_text of.Client = codes "client"
command_text of.Quit = codes "quit"
command_text of.Hello = codes "hello"
command_text of.Select = codes "select"
command_text of.Auth = codes "auth"
command_text of.Exists = codes "exists"
command_text of.Strlen = codes "strlen"
command_text of.Dbsize = codes "dbsize"
command_text of.Layout = codes "layout"
command_text of.Scan = codes "scan"
command_text of.Del = codes "del"

-- the names of commands for a connection, for what a node knows of a value, and for what it keeps
abbrev pub later_names : List CommandName
later_names =
    of.Hello ∷ of.Select ∷ of.Auth ∷ of.Exists ∷ of.Strlen ∷ of.Dbsize ∷ of.Layout ∷ of.Scan ∷ of.Del
    ∷ []

-- all names of commands
abbrev pub all_names : List CommandName
all_names =
    of.Get ∷ of.Set ∷ of.Move ∷ of.Info ∷ of.Ping ∷ of.Echo ∷ of.Command ∷ of.Client ∷ of.Quit ∷ later_names

-- how many names of commands there are
abbrev pub count_of_names : ℕ
count_of_names = length all_names

-- the command that a word names
unfoldable pub name_of_word : List ℕ → Option CommandName
name_of_word word = find (λ name. is_word word (command_text name)) all_names

-- whether a word names a command of Redis that gives a value a time to live
unfoldable pub is_expiring : List ℕ → Bool
is_expiring word =
    is_word word (codes "setex") || (is_word word (codes "psetex") || (is_word word (codes "expire")
    || (is_word word (codes "pexpire") || (is_word word (codes "expireat") || (is_word word (codes "pexpireat")
    || is_word word (codes "getex"))))))

-- whether a word names a command of Redis whose write depends on the value before it
unfoldable pub is_conditional : List ℕ → Bool
is_conditional word =
    is_word word (codes "setnx") || (is_word word (codes "getset") || (is_word word (codes "getdel")
    || (is_word word (codes "append") || (is_word word (codes "incr") || (is_word word (codes "decr")
    || (is_word word (codes "incrby") || (is_word word (codes "decrby") || is_word word (codes "setrange"))))))))

-- whether a word names a command of Redis on several names
unfoldable pub is_on_several : List ℕ → Bool
is_on_several word =
    is_word word (codes "mget") || (is_word word (codes "mset") || is_word word (codes "msetnx"))

-- whether an option of Redis's SET gives the value a time to live
unfoldable pub is_expiring_option : List ℕ → Bool
is_expiring_option word =
    is_word word (codes "ex") || (is_word word (codes "px") || (is_word word (codes "exat")
    || (is_word word (codes "pxat") || is_word word (codes "keepttl"))))

-- whether an option of Redis's SET makes the write depend on the value before it
unfoldable pub is_conditional_option : List ℕ → Bool
is_conditional_option word =
    is_word word (codes "nx") || (is_word word (codes "xx") || is_word word (codes "get"))

-- why a word names no command
abbrev pub word_fault : List ℕ → CommandFault
word_fault word =
    if is_expiring word then NoExpiry
    else (if is_conditional word then NoCondition
    else (if is_on_several word then SeveralNames
    else UnknownCommand))

-- why a word is no option of a SET
abbrev pub option_fault : List ℕ → CommandFault
option_fault word =
    if is_expiring_option word then NoExpiry
    else (if is_conditional_option word then NoCondition
    else SyntaxError)
