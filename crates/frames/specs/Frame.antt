-- Frames, and the bytes of each.
use Rattle.std.specs.Prelude.{◌≤◌, ◌<◌, ◌++◌, ℕ, List, [], ◌∷◌, length}
use Rattle.std.specs.List.{AllByRecursion, flat_map}
use Rattle.std.specs.Fmt.{decimal}
use Rattle.frames.specs.declared.error.Fault.{Fault}
use Rattle.frames.specs.declared.error.Fault.TheVariants as faults
use Rattle.frames.specs.declared.limits.TheConstants.{MOST_STRINGS, LONGEST_STRING}

-- a string within the limit
abbrev pub IsShort : List ℕ → Type 0
IsShort string = length string ≤ LONGEST_STRING

-- a list of strings is a frame if there are at most MOST_STRINGS, each of at most LONGEST_STRING bytes
pub record IsFrame (strings : List (List ℕ)) : Type 0 where
  pub few : length strings ≤ MOST_STRINGS
  pub short : AllByRecursion IsShort strings

-- CR LF
abbrev pub line_end : List ℕ
line_end = 13 ∷ 10 ∷ []

-- a type byte, a number in decimal digits, and CR LF
abbrev pub header : ℕ → ℕ → List ℕ
header mark n = mark ∷ decimal n ++ line_end

-- `$LENGTH`, CR LF, the string itself, and CR LF
abbrev pub string_bytes : List ℕ → List ℕ
string_bytes string = header 36 (length string) ++ (string ++ line_end)

-- `*COUNT`, CR LF, and the bytes of each string
abbrev pub frame_bytes : List (List ℕ) → List ℕ
frame_bytes strings = header 42 (length strings) ++ flat_map string_bytes strings

-- why strings are no frame: there are too many, or otherwise one of them is too long
abbrev pub IsNoFrame : List (List ℕ) → Fault → Type 0
IsNoFrame strings faults.TooManyStrings = MOST_STRINGS < length strings
IsNoFrame strings faults.StringTooLong = (length strings ≤ MOST_STRINGS) × (AllByRecursion IsShort strings → ⊥)
IsNoFrame strings faults.BadType = ⊥
IsNoFrame strings faults.BadNumber = ⊥
IsNoFrame strings faults.NoLineEnd = ⊥
IsNoFrame strings faults.UnexpectedEnd = ⊥
