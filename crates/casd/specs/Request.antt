-- The contracts that docs/trusted.md lists do not depend on this file; other contracts and proofs do.
-- Which words of a command line ask for what.
use Rattle.std.specs.Prelude.{◌≡◌, ◌≤◌, ℕ, List, [], ◌∷◌, codes, Result, MatchResult}
use Rattle.words.specs.Number.{IsNumber}
use Rattle.words.specs.Word.{Word}
use Rattle.casd.specs.declared.arguments.Request.{Request}
use Rattle.casd.specs.declared.arguments.Request.TheVariants as asks
use Rattle.casd.specs.declared.fault.Fault.{Fault}
use Rattle.casd.specs.declared.fault.Fault.TheVariants as faults

-- the word writes the number of a node, from 0 to 255
abbrev pub IsNodeWord : Word → ℕ → Type 0
IsNodeWord word number = IsNumber word number × (number ≤ 255)

-- the words after the program's name ask for this: `--help`, `--version`, or FILE NODE FOLDER
abbrev pub Spells : List Word → Request → Type 0
Spells words asks.Help = words ≡ codes "--help" ∷ []
Spells words asks.Version = words ≡ codes "--version" ∷ []
Spells words (asks.Run file number folder) =
    (word : Word) × (words ≡ file.now ∷ word ∷ folder.now ∷ []) × IsNodeWord word number

-- why the words ask for nothing: they are neither `--help`, nor `--version`, nor three words; or they are three words,
-- the second of which writes no number of a node
abbrev pub IsFaultOf : List Word → Fault → Type 0
IsFaultOf words faults.Usage =
    ((words ≡ codes "--help" ∷ []) → ⊥) × ((words ≡ codes "--version" ∷ []) → ⊥)
    × ((file word folder : Word) → words ≡ file ∷ word ∷ folder ∷ [] → ⊥)
IsFaultOf words faults.BadNode =
    (file word folder : Word) × (words ≡ file ∷ word ∷ folder ∷ []) × ((number : ℕ) → IsNodeWord word number → ⊥)
IsFaultOf words _ = ⊥

-- what the words ask for, or why they ask for nothing
abbrev pub ParsesTo : List Word → Result Request Fault → Type 0
ParsesTo words result = MatchResult result (Spells words) (IsFaultOf words)
