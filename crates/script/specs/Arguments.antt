-- The contracts that docs/trusted.md lists do not depend on this file; other contracts and proofs do.
-- The words of a command after those that name it. `IsNumber` and `IsHexadecimal` say what one word spells.
use Rattle.std.specs.Prelude.{◌≡◌, ◌<◌, ◌^◌, ℕ, List, [], ◌∷◌, ⊤, Option, Some, None}
use Rattle.words.specs.Number.{IsNumber}
use Rattle.words.specs.Hexadecimal.{IsHexadecimal}
use Rattle.words.specs.Word.{Word}

-- each word spells the number at its index, and there are as many words as numbers
abbrev pub AreNumbers : List ℕ → List Word → Type 0
AreNumbers [] [] = ⊤
AreNumbers [] (w ∷ ws) = ⊥
AreNumbers (n ∷ ns) [] = ⊥
AreNumbers (n ∷ ns) (w ∷ ws) = IsNumber w n × AreNumbers ns ws

-- the words are the turns of a whole call: one number, or no word for 100,000 turns
abbrev pub AreTurns : List Word → ℕ → Type 0
AreTurns [] turns = turns ≡ 100000
AreTurns (w ∷ []) turns = IsNumber w turns
AreTurns (w ∷ x ∷ ws) turns = ⊥

-- the words are a delta: one number below 2^32, or no word for an object whose banks keep every piece
abbrev pub AreDelta : List Word → Option ℕ → Type 0
AreDelta [] delta = delta ≡ None
AreDelta (w ∷ []) delta = (n : ℕ) × (delta ≡ Some n) × IsNumber w n × (n < 2 ^ 32)
AreDelta (w ∷ x ∷ ws) delta = ⊥

-- there are no words
abbrev pub AreNone : List Word → Type 0
AreNone words = words ≡ []

-- the words are this number
abbrev pub AreNumber : ℕ → List Word → Type 0
AreNumber n words = (w : Word) × (words ≡ w ∷ []) × IsNumber w n

-- the words are this number of servers, which is below 256
abbrev pub AreServers : ℕ → List Word → Type 0
AreServers count words = (w : Word) × (words ≡ w ∷ []) × IsNumber w count × (count < 2 ^ 8)

-- the words are this number, and then one or more numbers
abbrev pub AreNumberAndMembers : ℕ → List ℕ → List Word → Type 0
AreNumberAndMembers n ns words = (w : Word) × (v : Word) × (rest : List Word)
    × (words ≡ w ∷ v ∷ rest) × IsNumber w n × AreNumbers ns (v ∷ rest)

-- the words are this name
abbrev pub AreName : Word → List Word → Type 0
AreName name words = words ≡ name ∷ []

-- the words are this name and this number
abbrev pub AreNameAndNumber : Word → ℕ → List Word → Type 0
AreNameAndNumber name n words = (w : Word) × (words ≡ name ∷ w ∷ []) × IsNumber w n

-- the words are this name and these two numbers
abbrev pub AreNameAndTwoNumbers : Word → ℕ → ℕ → List Word → Type 0
AreNameAndTwoNumbers name n m words = (w : Word) × (v : Word)
    × (words ≡ name ∷ w ∷ v ∷ []) × IsNumber w n × IsNumber v m

-- the words are this name, and then any number of numbers
abbrev pub AreNameAndNumbers : Word → List ℕ → List Word → Type 0
AreNameAndNumbers name ns words = (rest : List Word) × (words ≡ name ∷ rest) × AreNumbers ns rest

-- the words are this name and these bytes
abbrev pub AreNameAndBytes : Word → List ℕ → List Word → Type 0
AreNameAndBytes name bytes words = (w : Word) × (words ≡ name ∷ w ∷ []) × IsHexadecimal w bytes

-- the words are this name, this number and these bytes
abbrev pub AreNameNumberAndBytes : Word → ℕ → List ℕ → List Word → Type 0
AreNameNumberAndBytes name n bytes words = (w : Word) × (v : Word)
    × (words ≡ name ∷ w ∷ v ∷ []) × IsNumber w n × IsHexadecimal v bytes

-- the words are this name, and then the turns
abbrev pub AreNameAndTurns : Word → ℕ → List Word → Type 0
AreNameAndTurns name turns words = (rest : List Word) × (words ≡ name ∷ rest) × AreTurns rest turns

-- the words are this name and these bytes, and then the turns
abbrev pub AreNameBytesAndTurns : Word → List ℕ → ℕ → List Word → Type 0
AreNameBytesAndTurns name bytes turns words = (w : Word) × (rest : List Word)
    × (words ≡ name ∷ w ∷ rest) × IsHexadecimal w bytes × AreTurns rest turns

-- the words are this name and this number, and then the turns
abbrev pub AreNameNumberAndTurns : Word → ℕ → ℕ → List Word → Type 0
AreNameNumberAndTurns name n turns words = (w : Word) × (rest : List Word)
    × (words ≡ name ∷ w ∷ rest) × IsNumber w n × AreTurns rest turns

-- the words are this name and this number, and then the delta
abbrev pub AreNameNumberAndDelta : Word → ℕ → Option ℕ → List Word → Type 0
AreNameNumberAndDelta name n delta words = (w : Word) × (rest : List Word)
    × (words ≡ name ∷ w ∷ rest) × IsNumber w n × AreDelta rest delta
