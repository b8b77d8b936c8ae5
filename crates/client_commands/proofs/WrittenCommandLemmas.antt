-- A frame that asks for a command is read as that command.
use Rattle.std.proofs.Common.{◌≡◌, ℕ, ◌-◌, ◌^◌, arith, false, cond, eqb, List, [], ◌∷◌, length, Option, Some, None}
use Rattle.std.proofs.Common.{Result, Ok, Err, refl, sym, ap, ◌∙◌, inl, inr}
use Rattle.std.specs.Prelude.{codes, IsTrue, IfOk}
use Rattle.std.specs.Str.{bytes_eq, str_to_ascii_lowercase}
use Rattle.layout.specs.Layout.{Layout}
use Rattle.words.specs.Parts.{and_then}
use Rattle.node_strings.specs.Strings.{Strings}
use Rattle.client_commands.specs.Arguments.{checked_value}
use Rattle.client_commands.specs.Arguments.{hello_fault, login_fault}
use Rattle.client_commands.specs.Command.{AreTwoWords, AreWordAnd, AreWordAndRest, Begins, counts_commands}
use Rattle.client_commands.specs.Command.{SaysOfClient, IsShortName, IsShortValue, AskFor, AskToRead, layout_strings}
use Rattle.client_commands.specs.Layouts.{layout_from}
use Rattle.client_commands.specs.Reading.{exists_from, list_from, select_from, show_from, size_from, unless}
use Rattle.client_commands.specs.Reading.{Found, read_from, set_from, move_from, ping_from, echo_from, counted, subcommand_from}
use Rattle.client_commands.specs.Reading.{client_from, command_from, command_named, command_at}
use Rattle.client_commands.specs.Scanning.{AskToScan, cursor_from, default_options, options_from, scan_from}
use Rattle.client_commands.specs.Sections.{sections_from}
use Rattle.client_commands.specs.declared.scanning.ScanOptions.{ScanOptions}
use Rattle.client_commands.specs.declared.sections.Sections.{Sections}
use Rattle.node_strings.proofs.NumberLemmas.{number_again}
use Rattle.client_commands.specs.Words.{is_word, command_text}
use Rattle.client_commands.specs.declared.command.Command.{Command}
use Rattle.client_commands.specs.declared.command.Command.TheVariants as ask
use Rattle.client_commands.specs.declared.command.Wanted.{Wanted}
use Rattle.client_commands.specs.declared.command.Wanted.TheVariants as wanted
use Rattle.client_commands.specs.declared.command.CommandName.{CommandName}
use Rattle.client_commands.specs.declared.command.CommandName.TheVariants as of
use Rattle.client_commands.specs.declared.fault.CommandFault.{CommandFault}
use Rattle.client_commands.specs.declared.fault.CommandFault.TheVariants.{BadCursor, UnknownSubcommand, WrongCount}
use Rattle.client_commands.specs.Deleting.{AskToDelete}
use Rattle.client_commands.proofs.DeleteLemmas.{delete_again}
use Rattle.client_commands.proofs.WordLemmas.{named_again, small_is}
use Rattle.client_commands.proofs.ArgumentLemmas.{name_again, value_again}
use Rattle.client_commands.proofs.MoveLemmas.{layout_from_again}
use Rattle.client_commands.proofs.CommandLemmas.{Read, command_ok}

by_name : (word : List ℕ) (args : Strings) (name : CommandName) → IsTrue (is_word word (command_text name))
    → command_at (word ∷ args) ≡ command_from name args
unfolding command_at
by_name word args name w = ap (λ (found : Option CommandName). command_named word found args) (named_again word name w)

read_again : (from : CommandName) (what : Wanted) (name : List ℕ) → IsShortName name
    → read_from from what (name ∷ []) ≡ Ok (ask.Read what name)
unfolding read_from
read_again from what name h = ap (λ (r : Read). and_then r (λ (n : List ℕ). Ok (ask.Read what n))) (name_again name h)

exists_again : (name : List ℕ) → IsShortName name → exists_from (name ∷ []) ≡ Ok (ask.Read wanted.Existence name)
unfolding exists_from
exists_again name h = read_again of.Exists wanted.Existence name h

select_again : select_from (codes "0" ∷ []) ≡ Ok ask.Select
unfolding select_from
select_again = refl

-- a LAYOUT is read again
show_again : (name : List ℕ) → IsShortName name → show_from (name ∷ []) ≡ Ok (ask.ShowLayout name)
unfolding show_from
show_again name h = ap (λ (r : Read). and_then r (λ (n : List ℕ). Ok (ask.ShowLayout n))) (name_again name h)

-- a SCAN is read again
scan_again : (cursor : ℕ) (options : ScanOptions) (args : Strings) → AskToScan cursor options args
    → scan_from args ≡ Ok (ask.Scan cursor options)
unfolding scan_from
scan_again cursor options [] h = absurd h
scan_again cursor options (at ∷ words) h =
    ap (λ (r : Result ℕ CommandFault).
    and_then r (λ (n : ℕ). and_then (options_from default_options words) (λ (o : ScanOptions). Ok (ask.Scan n o))))
    (ap cursor_from h.0
    ∙ number_again BadCursor BadCursor (2 ^ 64 - 1) cursor (let lt = h.1 in omega arith) (omega arith))
    ∙ ap (λ (r : Result ScanOptions CommandFault). and_then r (λ (o : ScanOptions). Ok (ask.Scan cursor o))) h.2

-- a DBSIZE is read again
size_again : size_from [] ≡ Ok ask.CountWritten
unfolding size_from
size_again = refl

-- what COMMAND with further words asks, by the first of them in small letters
abbrev list_by : List ℕ → Strings → Found
list_by small more =
    cond (bytes_eq small (str_to_ascii_lowercase (codes "count")))
    (cond (eqb (length more) 0) (Ok ask.CountCommands) (Err (WrongCount of.Command))) (Ok ask.ListCommands)

count_again : (what : List ℕ) → IsTrue (is_word what (codes "count")) → list_from (what ∷ []) ≡ Ok ask.CountCommands
unfolding list_from
count_again what w = ap (λ (small : List ℕ). list_by small []) (small_is what (codes "count") w)

list_again : (what : List ℕ) (more : Strings) → is_word what (codes "count") ≡ false → list_from (what ∷ more) ≡ Ok ask.ListCommands
unfolding list_from
list_again what more f =
    ap (λ b. cond b (cond (eqb (length more) 0) (Ok ask.CountCommands) (Err (WrongCount of.Command))) (Ok ask.ListCommands)) f

no_word_again : list_from [] ≡ Ok ask.ListCommands
unfolding list_from
no_word_again = refl

set_again : (name value : List ℕ) → IsShortName name → IsShortValue value → set_from (name ∷ value ∷ []) ≡ Ok (ask.Set name value)
unfolding set_from
set_again name value h i =
    ap (λ (r : Read). and_then r (λ (n : List ℕ). and_then (checked_value value) (λ (v : List ℕ). Ok (ask.Set n v)))) (name_again name h)
    ∙ ap (λ (r : Read). and_then r (λ (v : List ℕ). Ok (ask.Set name v))) (value_again value i)

move_again : (name : List ℕ) (l : Layout) → layout_from (name ∷ layout_strings l) ≡ Ok l
    → move_from (name ∷ layout_strings l) ≡ Ok (ask.Move name l)
unfolding move_from
move_again name l e = ap (λ (r : Result Layout CommandFault). and_then r (λ (m : Layout). Ok (ask.Move name m))) e

ping_again : (text : List ℕ) → ping_from (text ∷ []) ≡ Ok (ask.Ping (Some text))
unfolding ping_from
ping_again text = refl

no_text_again : ping_from [] ≡ Ok (ask.Ping None)
unfolding ping_from
no_text_again = refl

echo_again : (text : List ℕ) → echo_from (text ∷ []) ≡ Ok (ask.Echo text)
unfolding echo_from
echo_again text = refl

-- what a CLIENT asks, by its word in small letters
abbrev by_small : List ℕ → ℕ → Found
by_small small count =
    cond (bytes_eq small (str_to_ascii_lowercase (codes "id"))) (counted count 0 ask.ClientId)
    (cond (bytes_eq small (str_to_ascii_lowercase (codes "setname"))) (counted count 1 ask.DescribeClient)
    (cond (bytes_eq small (str_to_ascii_lowercase (codes "setinfo"))) (counted count 2 ask.DescribeClient)
    (cond (bytes_eq small (str_to_ascii_lowercase (codes "getname"))) (counted count 0 ask.ClientName) (Err UnknownSubcommand))))

client_again : (what text : List ℕ) (rest : Strings) (count : ℕ) → IsTrue (is_word what text) → length rest ≡ count
    → client_from (what ∷ rest) ≡ by_small (str_to_ascii_lowercase text) count
unfolding client_from subcommand_from
client_again what text rest count w n =
    ap (λ (small : List ℕ). by_small small (length rest)) (small_is what text w)
    ∙ ap (λ (k : ℕ). by_small (str_to_ascii_lowercase text) k) n

abbrev Answers : Strings → Command → Type 0
Answers strings c = command_at strings ≡ Ok c

client_answers : (text : List ℕ) (count : ℕ) (strings : Strings) (c : Command) → SaysOfClient text count strings
    → by_small (str_to_ascii_lowercase text) count ≡ Ok c → Answers strings c
client_answers text count [] c h e = absurd h
client_answers text count (word ∷ []) c h e = absurd h
client_answers text count (word ∷ what ∷ rest) c h e =
    by_name word (what ∷ rest) of.Client h.0 ∙ client_again what text rest count h.1 h.2 ∙ e

says : (name : CommandName) (wanted strings : Strings) (c : Command) → AreWordAndRest (command_text name) wanted strings
    → command_from name wanted ≡ Ok c → Answers strings c
says name wanted [] c h e = absurd h
says name wanted (word ∷ args) c h e = by_name word args name h.0 ∙ ap (λ (s : Strings). command_from name s) h.1 ∙ e

word_and : (name : CommandName) (Holds : Strings → Type 0) (strings : Strings) (c : Command)
    → AreWordAnd (command_text name) Holds strings → ((args : Strings) → Holds args → command_from name args ≡ Ok c) → Answers strings c
word_and name Holds [] c h e = absurd h
word_and name Holds (word ∷ args) c h e = by_name word args name h.0 ∙ e args h.1

lists : (strings : Strings) → Begins (codes "command") strings → counts_commands strings ≡ false → Answers strings ask.ListCommands
lists [] h f = absurd h
lists (word ∷ []) h f = by_name word [] of.Command h ∙ no_word_again
lists (word ∷ what ∷ more) h f = by_name word (what ∷ more) of.Command h ∙ list_again what more f

counts : (strings : Strings) → AreTwoWords (codes "command") (codes "count") strings → Answers strings ask.CountCommands
counts [] h = absurd h
counts (word ∷ []) h = absurd h
counts (word ∷ what ∷ []) h = by_name word (what ∷ []) of.Command h.0 ∙ count_again what h.1
counts (word ∷ what ∷ other ∷ more) h = absurd h

reads : (what : Wanted) (name : List ℕ) (strings : Strings) → AskToRead what name strings → IsShortName name →
    Answers strings (ask.Read what name)
reads wanted.Value name strings h i = says of.Get (name ∷ []) strings (ask.Read wanted.Value name) h (read_again of.Get wanted.Value name i)
reads wanted.Length name strings h i =
    says of.Strlen (name ∷ []) strings (ask.Read wanted.Length name) h (read_again of.Strlen wanted.Length name i)
reads wanted.Existence name strings h i =
    says of.Exists (name ∷ []) strings (ask.Read wanted.Existence name) h (exists_again name i)
reads wanted.Nothing name strings h i = absurd h

begins : (name : CommandName) (strings : Strings) (c : Command) → Begins (command_text name) strings
    → ((args : Strings) → command_from name args ≡ Ok c) → Answers strings c
begins name [] c h e = absurd h
begins name (word ∷ args) c h e = by_name word args name h ∙ e args

pub command_again : (strings : Strings) (c : Command) → AskFor strings c → command_at strings ≡ Ok c
command_again strings (ask.Read what name) h = reads what name strings h.0 h.1
command_again strings (ask.Set name value) h =
    says of.Set (name ∷ value ∷ []) strings (ask.Set name value) h.0 (set_again name value h.1 h.2)
command_again strings (ask.Move name l) h =
    says of.Move (name ∷ layout_strings l) strings (ask.Move name l) h.0 (move_again name l (layout_from_again name l h.1 h.2 h.3))
command_again strings (ask.Info sections) h =
    word_and of.Info (λ words. sections_from words ≡ sections) strings (ask.Info sections) h
    (λ args e. ap (λ (s : Sections). Ok (ask.Info s)) e)
command_again strings ask.CountWritten h = says of.Dbsize [] strings ask.CountWritten h size_again
command_again strings (ask.ShowLayout name) h = says of.Layout (name ∷ []) strings (ask.ShowLayout name) h.0 (show_again name h.1)
command_again strings (ask.Scan cursor options) h =
    word_and of.Scan (AskToScan cursor options) strings (ask.Scan cursor options) h (λ args asks. scan_again cursor options args asks)
command_again strings (ask.Delete deletion) h =
    word_and of.Del (AskToDelete deletion) strings (ask.Delete deletion) h (λ args asks. delete_again deletion args asks)
command_again strings (ask.Ping None) h = says of.Ping [] strings (ask.Ping None) h no_text_again
command_again strings (ask.Ping (Some text)) h = says of.Ping (text ∷ []) strings (ask.Ping (Some text)) h (ping_again text)
command_again strings (ask.Echo text) h = says of.Echo (text ∷ []) strings (ask.Echo text) h (echo_again text)
command_again strings ask.ListCommands h = lists strings h.0 h.1
command_again strings ask.CountCommands h = counts strings h
command_again strings ask.ClientId h = client_answers (codes "id") 0 strings ask.ClientId h refl
command_again strings ask.DescribeClient (inl h) = client_answers (codes "setname") 1 strings ask.DescribeClient h refl
command_again strings ask.DescribeClient (inr h) = client_answers (codes "setinfo") 2 strings ask.DescribeClient h refl
command_again strings ask.ClientName h = client_answers (codes "getname") 0 strings ask.ClientName h refl
command_again strings ask.Hello h =
    word_and of.Hello (λ words. hello_fault words ≡ None) strings ask.Hello h (λ args f. ap (λ fault. unless fault ask.Hello) f)
command_again strings ask.Select h = says of.Select (codes "0" ∷ []) strings ask.Select h select_again
command_again strings ask.Login h =
    word_and of.Auth (λ words. login_fault words ≡ None) strings ask.Login h (λ args f. ap (λ fault. unless fault ask.Login) f)
command_again strings ask.Quit h = begins of.Quit strings ask.Quit h (λ args. refl)

-- ---- what was read

pub is_found : (strings : Strings) (result : Found) → result ≡ command_at strings → IfOk result (λ command. AskFor strings command)
is_found strings (Ok c) e = command_ok strings c (sym e)
is_found strings (Err fault) e = tt

pub is_only : (strings : Strings) (result : Found) → result ≡ command_at strings → (c : Command) → AskFor strings c → result ≡ Ok c
is_only strings result e c h = e ∙ command_again strings c h
