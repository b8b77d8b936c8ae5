-- The contracts that docs/trusted.md lists do not depend on this file; other contracts and proofs do.
-- Which words of a command line spell which coding request.
use Rattle.std.specs.Prelude.{◌≡◌, ◌<◌, ◌⊎◌, ◌==◌, ◌^◌, ◌-◌, min, ℕ, Bool, List, [], ◌∷◌, length, ⊤, codes, Result}
use Rattle.std.specs.Prelude.{MatchResult}
use Rattle.std.specs.List.{position_or_len, before_first, after_first}
use Rattle.piece.specs.declared.piece.Piece.{Piece}
use Rattle.tag.specs.declared.refusal.Refusal.TheVariants.{NoMemory}
use Rattle.words.specs.Number.{IsNumber}
use Rattle.words.specs.Hexadecimal.{IsHexadecimal}
use Rattle.words.specs.Word.{Word}
use Rattle.coding_commands.specs.declared.request.CodingRequest.{CodingRequest}
use Rattle.coding_commands.specs.declared.request.CodingRequest.TheVariants as of
use Rattle.coding_commands.specs.declared.fault.Fault.{Fault}
use Rattle.coding_commands.specs.declared.fault.Fault.TheVariants.{NotText, Usage, BadArgument, Refused, OutputLost}

-- whether a byte is a colon
abbrev pub is_colon : ℕ → Bool
is_colon byte = byte == 58

-- the word is `POINT:HEX`, split at its first colon; the piece has this point and these bytes, and the length of the
-- value, or the greatest number of 32 bits if the value is longer
pub record SpellsPiece (value_len : ℕ) (word : Word) (piece : Piece) : Type 0 where
  pub parted : position_or_len is_colon word < length word
  pub point : IsNumber (before_first is_colon word) piece.point
  pub below : piece.point < 2 ^ 8
  pub len : piece.len ≡ min value_len (2 ^ 32 - 1)
  pub bytes : IsHexadecimal (after_first is_colon word) piece.bytes

-- each word spells the piece at its index, and there are as many words as pieces
abbrev pub SpellPieces : ℕ → List Word → List Piece → Type 0
SpellPieces len [] [] = ⊤
SpellPieces len [] (p ∷ ps) = ⊥
SpellPieces len (w ∷ ws) [] = ⊥
SpellPieces len (w ∷ ws) (p ∷ ps) = SpellsPiece len w p × SpellPieces len ws ps

-- the words after the program's name spell this request: `fragments K N HEX` or `decode K LEN POINT:HEX..`
abbrev pub SpellsCoding : List Word → CodingRequest → Type 0
SpellsCoding words (of.Fragments k n value) = (a : Word) × (b : Word) × (c : Word)
    × (words ≡ codes "fragments" ∷ a ∷ b ∷ c ∷ []) × IsNumber a k × IsNumber b n × IsHexadecimal c value
SpellsCoding words (of.Decode k len pieces) = (a : Word) × (b : Word) × (rest : List Word)
    × (words ≡ codes "decode" ∷ a ∷ b ∷ rest) × IsNumber a k × IsNumber b len × SpellPieces len rest pieces.items

-- the words have the form of a request, whatever the words for its numbers and bytes are
abbrev pub HasCodingForm : List Word → Type 0
HasCodingForm words = ((a : Word) × (b : Word) × (c : Word) × (words ≡ codes "fragments" ∷ a ∷ b ∷ c ∷ []))
    ⊎ ((a : Word) × (b : Word) × (rest : List Word) × (words ≡ codes "decode" ∷ a ∷ b ∷ rest))

-- why the words give no request: they have another form, their form is right but a word is not, or memory is refused
abbrev pub IsCodingFaultOf : List Word → Fault → Type 0
IsCodingFaultOf words Usage = ¬ (HasCodingForm words)
IsCodingFaultOf words BadArgument = HasCodingForm words × ((r : CodingRequest) → ¬ (SpellsCoding words r))
IsCodingFaultOf words (Refused refusal) = refusal ≡ NoMemory
IsCodingFaultOf words NotText = ⊥
IsCodingFaultOf words OutputLost = ⊥

-- the result is the request that the words spell, or why they give none
abbrev pub ParsesToCoding : List Word → Result CodingRequest Fault → Type 0
ParsesToCoding words result = MatchResult result (SpellsCoding words) (IsCodingFaultOf words)
