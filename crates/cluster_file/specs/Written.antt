-- The contracts that docs/trusted.md lists do not depend on this file; other contracts and proofs do.
-- What the text of a file says, without an order in which it is read.
use Rattle.std.specs.Prelude.{◌≡◌, ◌<◌, ◌^◌, ℕ, IsTrue, List, [], ◌∷◌, map, Option, Some, None, Ok, codes, ⊤}
use Rattle.std.specs.List.{AllByRecursion}
use Rattle.std.specs.Str.Parse.{digits_value}
use Rattle.cluster_file.specs.File.{FileContents, IsLawfulFile}
use Rattle.cluster_file.specs.Lines.{Line, lines_of}
use Rattle.words.specs.Word.{Word}
use Rattle.cluster_file.specs.Numbers.{is_decimal}
use Rattle.cluster_file.specs.Reading.{file_of}

-- a word writes this number: it is decimal digits without a leading zero, which have this value
abbrev pub WritesNumber : Word → ℕ → Type 0
WritesNumber word n = IsTrue (is_decimal word) × (digits_value 10 word ≡ n)

-- words write these numbers, one each, in order
abbrev pub WriteEach : List Word → List ℕ → Type 0
WriteEach [] [] = ⊤
WriteEach [] (n ∷ ns) = ⊥
WriteEach (word ∷ words) [] = ⊥
WriteEach (word ∷ words) (n ∷ ns) = WritesNumber word n × WriteEach words ns

-- a word writes this bound delta
abbrev pub WritesDelta : Word → Option ℕ → Type 0
WritesDelta word None = word ≡ codes "none"
WritesDelta word (Some n) = WritesNumber word n

-- the values of a file, as words
pub record Values : Type 0 where
  pub nodes : List Word
  pub n : Word
  pub k : Word
  pub delta : Word
  pub mover : Word
  pub later : List Word
  pub ticks : Word

-- the settings with these values, in their order
abbrev pub settings_of : Values → List (Word × List Word)
settings_of values =
    (codes "nodes", values.nodes)
    ∷ (codes "n", values.n ∷ [])
    ∷ (codes "k", values.k ∷ [])
    ∷ (codes "delta", values.delta ∷ [])
    ∷ (codes "mover", values.mover ∷ [])
    ∷ (codes "later", values.later)
    ∷ (codes "ticks", values.ticks ∷ [])
    ∷ []

-- each value writes what the file has
pub record WriteFile (values : Values) (file : FileContents) : Type 0 where
  pub nodes : WriteEach values.nodes file.fixed.nodes
  pub n : WritesNumber values.n file.fixed.n
  pub k : WritesNumber values.k file.fixed.k
  pub delta : WritesDelta values.delta file.fixed.delta
  pub mover : WritesNumber values.mover file.fixed.mover
  pub later : WriteEach values.later file.later
  pub ticks : WritesNumber values.ticks file.ticks

-- a line without its number
abbrev pub said : Line → Word × List Word
said line = (line.name, line.values)

-- the lines of a text are the settings in their order, and their values write the file
pub record IsTextOf (text : List ℕ) (file : FileContents) : Type 0 where
  pub values : Values
  pub lines : map said (lines_of text) ≡ settings_of values
  pub written : WriteFile values file

-- a text that is read as a file is a text of that file
abbrev pub ReadFilesAreWritten : Type 0
ReadFilesAreWritten = (text : List ℕ) (file : FileContents) → file_of text ≡ Ok file → IsTextOf text file

-- a delta is a number of 32 bits, if there is one
abbrev pub IsDelta : Option ℕ → Type 0
IsDelta None = ⊤
IsDelta (Some delta) = delta < 2 ^ 32

-- numbers of nodes are bytes, and the other numbers have 32 bits
pub record AreInRange (file : FileContents) : Type 0 where
  pub nodes : AllByRecursion (λ node. node < 2 ^ 8) file.fixed.nodes
  pub later : AllByRecursion (λ node. node < 2 ^ 8) file.later
  pub delta : IsDelta file.fixed.delta
  pub ticks : file.ticks < 2 ^ 32

-- a text of a lawful file is read as that file
abbrev pub WrittenFilesAreRead : Type 0
WrittenFilesAreRead =
    (text : List ℕ) (file : FileContents) → IsTextOf text file → IsLawfulFile file → AreInRange file
    → file_of text ≡ Ok file
