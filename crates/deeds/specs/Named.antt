-- Objects and letters by the names of objects.
use Rattle.std.specs.Prelude.{◌≡◌, ℕ, nat_eq, Bool, if◌then◌else◌, List, map, Some, slice_get}
use Rattle.std.specs.Cmp.Lexicographic.{pointwise}
use Rattle.letter.specs.declared.letter.Letter.{Letter}
use Rattle.local_object.specs.Local.{LocalObject}

-- a letter, with the name of the object that it is about
pub record NamedLetter : Type 0 where
  pub name : List ℕ
  pub letter : Letter

-- letters of one object, each with its name
abbrev pub with_names : (name : List ℕ) → List Letter → List NamedLetter
with_names name letters = map (λ letter. let it : NamedLetter = record { name = name; letter = letter } in it) letters

-- the letter is one of these
abbrev pub IsOneOf : List NamedLetter → NamedLetter → Type 0
IsOneOf letters letter = (place : ℕ) × (slice_get letters place ≡ Some letter)

-- whether two names are the same
abbrev pub is_same_name : (name other : List ℕ) → Bool
is_same_name name other = pointwise nat_eq name other

-- the objects by name, with this one under one of the names
abbrev pub with_named : (objects : List ℕ → LocalObject) → (name : List ℕ) → LocalObject → (other : List ℕ) →
    LocalObject
with_named objects name local other = if is_same_name name other then local else objects other
