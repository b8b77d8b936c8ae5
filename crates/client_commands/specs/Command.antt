-- The contracts that docs/trusted.md lists do not depend on this file; other contracts and proofs do.
-- Which strings ask for which command.
use Rattle.std.specs.Prelude.{◌≡◌, ◌≤◌, ◌⊎◌, ℕ, Bool, false, List, [], ◌∷◌, map, length, Option, Some, None}
use Rattle.std.specs.Prelude.{IsTrue, codes}
use Rattle.std.specs.List.{AllByRecursion}
use Rattle.std.specs.Fmt.{decimal}
use Rattle.tag.specs.declared.limits.TheConstants.{LONGEST_NAME, LONGEST_VALUE}
use Rattle.layout.specs.Layout.{Layout, IsLawful}
use Rattle.node_strings.specs.Strings.{Strings}
use Rattle.client_commands.specs.Arguments.{hello_fault, login_fault}
use Rattle.client_commands.specs.Deleting.{AskToDelete}
use Rattle.client_commands.specs.Scanning.{AskToScan}
use Rattle.client_commands.specs.Sections.{sections_from}
use Rattle.client_commands.specs.Words.{is_word}
use Rattle.client_commands.specs.declared.command.Command.{Command}
use Rattle.client_commands.specs.declared.command.Command.TheVariants as ask
use Rattle.client_commands.specs.declared.command.Wanted.{Wanted}
use Rattle.client_commands.specs.declared.command.Wanted.TheVariants as wants

-- the first string is this word, in capital or small letters, and these are the strings after it
abbrev pub AreWordAndRest : List ℕ → Strings → Strings → Type 0
AreWordAndRest text rest [] = ⊥
AreWordAndRest text rest (word ∷ strings) = IsTrue (is_word word text) × (strings ≡ rest)

-- the first string is this word, in capital or small letters, and any strings follow it
abbrev pub Begins : List ℕ → Strings → Type 0
Begins text [] = ⊥
Begins text (word ∷ strings) = IsTrue (is_word word text)

-- the first string is this word, in capital or small letters, and this holds of the strings after it
abbrev pub AreWordAnd : List ℕ → (Strings → Type 0) → Strings → Type 0
AreWordAnd text Holds [] = ⊥
AreWordAnd text Holds (word ∷ strings) = IsTrue (is_word word text) × Holds strings

-- the strings are these two words, in capital or small letters
abbrev pub AreTwoWords : (first second : List ℕ) → Strings → Type 0
AreTwoWords first second (one ∷ two ∷ []) = IsTrue (is_word one first) × IsTrue (is_word two second)
AreTwoWords first second strings = ⊥

-- whether the second string is COUNT, in capital or small letters
abbrev pub counts_commands : Strings → Bool
counts_commands (word ∷ what ∷ strings) = is_word what (codes "count")
counts_commands strings = false

-- a name is within its limit
abbrev pub IsShortName : List ℕ → Type 0
IsShortName name = length name ≤ LONGEST_NAME

-- a value is within its limit
abbrev pub IsShortValue : List ℕ → Type 0
IsShortValue value = length value ≤ LONGEST_VALUE

-- all members are numbers from 0 to 255
abbrev pub AreNodes : List ℕ → Type 0
AreNodes members = AllByRecursion (λ member. member ≤ 255) members

-- the strings of a layout: its k and its members, in decimal digits
abbrev pub layout_strings : Layout → Strings
layout_strings layout = decimal layout.k ∷ map decimal layout.members

-- the text of a PING, if it has one
abbrev pub text_strings : Option (List ℕ) → Strings
text_strings None = []
text_strings (Some text) = text ∷ []

-- the strings are a CLIENT, this word, and so many strings
abbrev pub SaysOfClient : List ℕ → ℕ → Strings → Type 0
SaysOfClient text count [] = ⊥
SaysOfClient text count (word ∷ []) = ⊥
SaysOfClient text count (word ∷ what ∷ strings) =
    IsTrue (is_word word (codes "client")) × IsTrue (is_word what text) × (length strings ≡ count)

-- the strings ask for a read of this name, of whose value the client wants this: GET wants the value, STRLEN its
-- length, and EXISTS whether there is one; no strings ask for a read of which the client wants nothing
abbrev pub AskToRead : Wanted → (name : List ℕ) → Strings → Type 0
AskToRead wants.Value name strings = AreWordAndRest (codes "get") (name ∷ []) strings
AskToRead wants.Length name strings = AreWordAndRest (codes "strlen") (name ∷ []) strings
AskToRead wants.Existence name strings = AreWordAndRest (codes "exists") (name ∷ []) strings
AskToRead wants.Nothing name strings = ⊥

-- the strings ask for this command
abbrev pub AskFor : Strings → Command → Type 0
AskFor strings (ask.Read wanted name) = AskToRead wanted name strings × IsShortName name
AskFor strings (ask.Set name value) =
    AreWordAndRest (codes "set") (name ∷ value ∷ []) strings × IsShortName name × IsShortValue value
AskFor strings (ask.Move name layout) =
    AreWordAndRest (codes "move") (name ∷ layout_strings layout) strings × IsShortName name × IsLawful layout
    × AreNodes layout.members
AskFor strings (ask.Info sections) = AreWordAnd (codes "info") (λ words. sections_from words ≡ sections) strings
AskFor strings ask.CountWritten = AreWordAndRest (codes "dbsize") [] strings
AskFor strings (ask.ShowLayout name) = AreWordAndRest (codes "layout") (name ∷ []) strings × IsShortName name
AskFor strings (ask.Scan cursor options) = AreWordAnd (codes "scan") (AskToScan cursor options) strings
AskFor strings (ask.Delete deletion) = AreWordAnd (codes "del") (AskToDelete deletion) strings
AskFor strings (ask.Ping text) = AreWordAndRest (codes "ping") (text_strings text) strings
AskFor strings (ask.Echo text) = AreWordAndRest (codes "echo") (text ∷ []) strings
AskFor strings ask.ListCommands = Begins (codes "command") strings × (counts_commands strings ≡ false)
AskFor strings ask.CountCommands = AreTwoWords (codes "command") (codes "count") strings
AskFor strings ask.ClientId = SaysOfClient (codes "id") 0 strings
AskFor strings ask.DescribeClient = SaysOfClient (codes "setname") 1 strings ⊎ SaysOfClient (codes "setinfo") 2 strings
AskFor strings ask.ClientName = SaysOfClient (codes "getname") 0 strings
AskFor strings ask.Hello = AreWordAnd (codes "hello") (λ words. hello_fault words ≡ None) strings
AskFor strings ask.Select = AreWordAndRest (codes "select") (codes "0" ∷ []) strings
AskFor strings ask.Login = AreWordAnd (codes "auth") (λ words. login_fault words ≡ None) strings
AskFor strings ask.Quit = Begins (codes "quit") strings
