-- Glob patterns, as SCAN has them.
use Rattle.std.specs.Prelude.{◌≡◌, ◌≤◌, ◌+◌, ◌-◌, ℕ, Bool, true, false, List, [], ◌∷◌, length, drop, get_or}
use Rattle.std.specs.Prelude.{◌==◌, ◌&&◌, ◌||◌, if◌then◌else◌, Option, None, Some}
use Rattle.std.specs.List.{filter}
use Rattle.client_commands.specs.declared.patterns.Part.{Part}
use Rattle.client_commands.specs.declared.patterns.Part.TheVariants as part

-- the part for which a byte stands: `*` for any bytes, `?` for one byte, and any other byte for itself
abbrev pub part_of : ℕ → Part
part_of byte = if byte == 42 then part.AnyBytes else (if byte == 63 then part.OneByte else part.This byte)

-- the parts of a pattern, before which there is a `\` or not: a byte behind a `\` stands for itself, and so does a `\`
-- at the end
abbrev pub parts_from : (escaped : Bool) → List ℕ → List Part
parts_from true [] = part.This 92 ∷ []
parts_from false [] = []
parts_from true (byte ∷ bytes) = part.This byte ∷ parts_from false bytes
parts_from false (byte ∷ bytes) =
    if byte == 92 then parts_from true bytes else part_of byte ∷ parts_from false bytes

-- whether this holds of an end of a text: of all of it, of its last bytes, or of none of them
abbrev pub holds_of_an_end : (List ℕ → Bool) → List ℕ → Bool
holds_of_an_end holds [] = holds []
holds_of_an_end holds (byte ∷ bytes) = holds (byte ∷ bytes) || holds_of_an_end holds bytes

-- whether this holds of a text without its first byte, if that exists
abbrev pub holds_behind_one : (List ℕ → Bool) → List ℕ → Bool
holds_behind_one holds [] = false
holds_behind_one holds (byte ∷ bytes) = holds bytes

-- whether a text begins with this byte, and this holds of what is behind it
abbrev pub holds_behind : ℕ → (List ℕ → Bool) → List ℕ → Bool
holds_behind wanted holds [] = false
holds_behind wanted holds (byte ∷ bytes) = byte == wanted && holds bytes

-- whether these parts match a whole text
abbrev pub fits : List Part → List ℕ → Bool
fits [] text = length text == 0
fits (part.AnyBytes ∷ parts) text = holds_of_an_end (fits parts) text
fits (part.OneByte ∷ parts) text = holds_behind_one (fits parts) text
fits (part.This byte ∷ parts) text = holds_behind byte (fits parts) text

-- whether a pattern matches a whole text
abbrev pub matches : (pattern text : List ℕ) → Bool
matches pattern text = fits (parts_from false pattern) text

-- those of the names that match the pattern, if there is one, and otherwise all of them
abbrev pub names_told : Option (List ℕ) → List (List ℕ) → List (List ℕ)
names_told None names = names
names_told (Some pattern) names = filter (matches pattern) names

-- whether a pattern, before which there is a `\` or not, has a `[` that does not stand for itself
abbrev pub has_set : (escaped : Bool) → List ℕ → Bool
has_set escaped [] = false
has_set true (byte ∷ bytes) = has_set false bytes
has_set false (byte ∷ bytes) = if byte == 91 then true else has_set (byte == 92) bytes

-- How it is computed

-- whether a part and those behind it match no bytes, where those behind it do so or not
abbrev pub fits_none : Part → (rest : Bool) → Bool
fits_none part.AnyBytes rest = rest
fits_none part rest = false

-- whether a part and those behind it match a byte and more bytes: by whether the parts behind it match all of these
-- bytes, or those behind the first, and whether the part and those behind it match those behind the first
abbrev pub fits_here : Part → (byte : ℕ) → (all more same : Bool) → Bool
fits_here part.AnyBytes byte all more same = all || same
fits_here part.OneByte byte all more same = more
fits_here (part.This wanted) byte all more same = byte == wanted && more

-- for each number of bytes at the end of a text: whether these parts match these bytes
pub record IsRow (parts : List Part) (text : List ℕ) (row : List Bool) : Type 0 where
  pub size : length row ≡ length text + 1
  pub each : (count : ℕ) → count ≤ length text → get_or row count false ≡ fits parts (drop (length text - count) text)
