-- The table of refusals, and how the result of a function follows from its cause of refusal.
use Rattle.std.specs.Prelude.{◌≡◌, ◌⊎◌, ℕ, List, ◌∷◌, ◌++◌, Option, Some, None, Result, MatchResult, codes}
use Rattle.std.specs.Fmt.{decimal}
use Rattle.tag.specs.declared.refusal.Refusal.{Refusal}
use Rattle.tag.specs.declared.refusal.Refusal.TheVariants.{NoMemory, BadLayout, NoObject, ObjectExists, TooLong, NoCall}
use Rattle.tag.specs.declared.refusal.Refusal.TheVariants.{NotNow, NoMessage, Down, WrongCode, MovePending, Full, Stuck}
use Rattle.tag.specs.declared.refusal.Refusal.TheVariants.{GaveUp, BadPieces, Collected, Stranger}

-- the number of each refusal
abbrev pub number_of : Refusal → ℕ
number_of NoMemory = 1
number_of BadLayout = 2
number_of NoObject = 3
number_of ObjectExists = 4
number_of TooLong = 5
number_of NoCall = 6
number_of NotNow = 7
number_of NoMessage = 8
number_of Down = 9
number_of WrongCode = 10
number_of MovePending = 11
number_of Full = 12
number_of Stuck = 13
number_of GaveUp = 14
number_of BadPieces = 15
number_of Collected = 16
number_of Stranger = 17

-- the name of each refusal, as text
abbrev pub name_of : Refusal → List ℕ
name_of NoMemory = codes "NoMemory"
name_of BadLayout = codes "BadLayout"
name_of NoObject = codes "NoObject"
name_of ObjectExists = codes "ObjectExists"
name_of TooLong = codes "TooLong"
name_of NoCall = codes "NoCall"
name_of NotNow = codes "NotNow"
name_of NoMessage = codes "NoMessage"
name_of Down = codes "Down"
name_of WrongCode = codes "WrongCode"
name_of MovePending = codes "MovePending"
name_of Full = codes "Full"
name_of Stuck = codes "Stuck"
name_of GaveUp = codes "GaveUp"
name_of BadPieces = codes "BadPieces"
name_of Collected = codes "Collected"
name_of Stranger = codes "Stranger"

-- the text of a refusal: its number, a space and its name
abbrev pub refusal_text : Refusal → List ℕ
refusal_text r = decimal (number_of r) ++ 32 ∷ name_of r

-- the result is the given cause of refusal if there is one, and otherwise Ok or NoMemory
abbrev pub IsByCause : {T : Type 0} → Option Refusal → Result T Refusal → Type 0
IsByCause cause answer =
    MatchResult answer (λ _. cause ≡ None) (λ r. (cause ≡ Some r) ⊎ ((cause ≡ None) × (r ≡ NoMemory)))

-- the result is the given cause of refusal if there is one, and otherwise Ok: for a function that allocates no memory
abbrev pub IsExactlyByCause : {T : Type 0} → Option Refusal → Result T Refusal → Type 0
IsExactlyByCause cause answer = MatchResult answer (λ _. cause ≡ None) (λ r. cause ≡ Some r)
