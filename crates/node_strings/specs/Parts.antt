-- The strings of frames and entries, one by one.
use Rattle.std.specs.Prelude.{◌≡◌, ◌==◌, ℕ, List, [], ◌∷◌, length, Option, Some, None, Result, Ok, Err}
use Rattle.std.specs.Prelude.{if◌then◌else◌, take, drop}
use Rattle.std.specs.Str.{bytes_eq}
use Rattle.layout.specs.Layout.{Layout}
use Rattle.cluster_file.specs.declared.file.TheConstants.{DIGEST_LENGTH}
use Rattle.node_strings.specs.Strings.{Strings}
use Rattle.node_strings.specs.Numbers.{number_up_to}
use Rattle.node_strings.specs.Layouts.{layout_of_string}

-- what a function returned, seen by `view`, is what reading gives
abbrev pub IsReadAs : {X Y : Type 0} → (X → Y) → Option X → Option Y → Type 0
IsReadAs view (Some x) read = read ≡ Some (view x)
IsReadAs view None read = read ≡ None

-- what was read, or none if there was a fault
abbrev pub if_read : {X E : Type 0} → Result X E → Option X
if_read (Ok x) = Some x
if_read (Err fault) = None

-- what `next` reads after the first part, or none if the first part was not read
abbrev pub then_read : {A B : Type 0} → Option A → (A → Option B) → Option B
then_read (Some x) next = next x
then_read None next = None

-- the first string, and the others
abbrev pub first_and_rest : Strings → Option (List ℕ × Strings)
first_and_rest [] = None
first_and_rest (string ∷ rest) = Some (string, rest)

-- the number up to `most` that a string writes, if it writes one
abbrev pub number_or_none : (most : ℕ) → List ℕ → Option ℕ
number_or_none most string = if_read (number_up_to {E = Unit {0}} tt most tt string)

-- what follows these bytes, if the string begins with them
abbrev pub rest_behind : (front string : List ℕ) → Option (List ℕ)
rest_behind front string =
    if bytes_eq (take (length front) string) front then Some (drop (length front) string) else None

-- the lawful layout whose string this is, if there is one
abbrev pub layout_or_none : List ℕ → Option Layout
layout_or_none string = if_read (layout_of_string {E = Unit {0}} tt string)

-- a string as a digest, if it has the length of one
abbrev pub digest_or_none : List ℕ → Option (List ℕ)
digest_or_none string = if length string == DIGEST_LENGTH then Some string else None
