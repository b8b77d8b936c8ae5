-- The contracts that docs/trusted.md lists do not depend on this file; other contracts and proofs do.
-- What the program reads of its cluster file.
use Rattle.std.specs.Prelude.{◌≡◌, ◌||◌, ℕ, Bool, true, false, List, Option, Some, Result, Ok, Err, ⊤}
use Rattle.std.specs.Io.KnownBytes.{Keeps}
use Rattle.layout.specs.Quorum.{has}
use Rattle.cluster_file.specs.File.{FileContents, IsLawfulFile}
use Rattle.cluster_file.specs.Gives.{GivesFile}
use Rattle.cluster_file.specs.Reading.{file_of}
use Rattle.casd.specs.declared.fault.Fault.{Fault}
use Rattle.casd.specs.declared.fault.Fault.TheVariants as faults

-- whether a cluster file has a node of this number, also one that joined later
abbrev pub has_node : FileContents → ℕ → Bool
has_node file number = has file.fixed.nodes number || has file.later number

-- a text writes this cluster file, which is lawful; if the bytes that are given are known, they are the text
pub record IsFileIn (given : Option (List ℕ)) (file : FileContents) : Type 0 where
  pub text : List ℕ
  pub known : Keeps given (Some text)
  pub written : file_of text ≡ Ok file
  pub lawful : IsLawfulFile file

-- a cluster file was read from the bytes that are given, and has a node of this number; or they cannot be read, have
-- the fault that is named, or write a cluster file that has no such node
abbrev pub HasReadFile : (given : Option (List ℕ)) → (number : ℕ) → Result FileContents Fault → Type 0
HasReadFile given number (Ok file) = IsFileIn given file × (has_node file number ≡ true)
HasReadFile given number (Err (faults.Unread error)) = ⊤
HasReadFile given number (Err (faults.BadFile error)) =
    (text : List ℕ) × Keeps given (Some text) × GivesFile {X = FileContents} (Err error) (file_of text)
HasReadFile given number (Err (faults.NoNode other)) =
    (other ≡ number) × (file : FileContents) × IsFileIn given file × (has_node file number ≡ false)
HasReadFile given number (Err _) = ⊥
