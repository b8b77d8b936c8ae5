-- The contracts that docs/trusted.md lists do not depend on this file; other contracts and proofs do.
-- What the opening of a core gives.
use Rattle.std.specs.Prelude.{◌≡◌, ◌+◌, ◌-◌, ◌^◌, ◌||◌, ⊤, ℕ, Bool, true, false, List, length, min, take}
use Rattle.std.specs.Prelude.{Result, Ok, Err, Some}
use Rattle.layout.specs.Quorum.{has}
use Rattle.cluster_file.specs.File.{FileContents, IsLawfulFile}
use Rattle.cluster_file.specs.Gives.{GivesFile}
use Rattle.cluster_file.specs.Reading.{file_of}
use Rattle.deeds.specs.Kept.{FileOfNames}
use Rattle.node.specs.Recovering.{CarriesOutEntry}
use Rattle.node.specs.Starts.{CanBeNamed, IsNotStarted, start_entries}
use Rattle.node.specs.declared.node.Node.{Node}
use Rattle.node_keeper.specs.Keeping.{kept_of, names_of}
use Rattle.node_log.specs.Entry.{IsOldHead, chain_behind}
use Rattle.node_store.specs.Recovery.{HasRecovered, log_bytes}
use Rattle.node_store.specs.declared.end.LogEnd.{LogEnd}
use Rattle.processes.specs.Programs.{IsNewAndIdle, IsReadLog}
use Rattle.recoveries.specs.Records.{IsStarted}
use Rattle.node_core.specs.declared.error.CoreError.{CoreError}
use Rattle.node_core.specs.declared.error.CoreError.TheVariants as errors
use Rattle.node_core.specs.declared.opening.Opened.{Opened}

-- The cluster file

-- whether a cluster file has a node of this number, also one that joined later
abbrev pub has_node : FileContents → ℕ → Bool
has_node file number = has file.fixed.nodes number || has file.later number

-- the text writes this cluster file, which is lawful
pub record IsFileOf (text : List ℕ) (file : FileContents) : Type 0 where
  pub written : file_of text ≡ Ok file
  pub lawful : IsLawfulFile file

-- the text writes a cluster file that has a node of this number; or it has the fault that is named, or no such node
abbrev pub HasReadFile : (text : List ℕ) → (number : ℕ) → Result FileContents CoreError → Type 0
HasReadFile text number (Ok file) = IsFileOf text file × (has_node file number ≡ true)
HasReadFile text number (Err (errors.BadFile error)) = GivesFile {X = FileContents} (Err error) (file_of text)
HasReadFile text number (Err (errors.NoNode other)) =
    (other ≡ number) × (file : FileContents) × IsFileOf text file × (has_node file number ≡ false)
HasReadFile text number (Err _) = ⊥

-- The log

-- the log begins with the head of an entry of an older form
abbrev pub IsOfOldForm : (disk : List ℕ) → Type 0
IsOfOldForm disk = IsOldHead (take 16 disk)

-- A node that has carried out a log, which ends there, was started, which changed nothing at its desk. So many bytes
-- behind that end are to be cut off. The log then gets the entries of the start, behind which it ends.
pub record HasBegun (copy : Node) (end : LogEnd) (cut : ℕ) (opened : Opened) : Type 0 where
  pub stays : opened.length ≡ end.length
  pub lost : opened.cut ≡ cut
  pub named : CanBeNamed copy
  pub started : IsStarted (kept_of copy.keeper) (kept_of opened.core.node.keeper)
  pub desk : opened.core.node.desk ≡ copy.desk
  pub entries : opened.entries ≡ log_bytes end.chain.state (start_entries copy)
  pub long : opened.core.end.length ≡ min (end.length + length opened.entries) (2 ^ 64 - 1)
  pub chained : opened.core.end.chain.state ≡ chain_behind end.chain.state (start_entries copy)
  pub going : opened.core.is_stopped ≡ false

-- a new node of this number carried out the entries of a log in which these bytes were found, and was then started
pub record HasOpened (names : FileOfNames) (number : ℕ) (disk : List ℕ) (opened : Opened) : Type 0 where
  pub copy : Node
  pub end : LogEnd
  pub read : IsReadLog names number disk copy end
  pub begun : HasBegun copy end (length disk - end.length) opened

-- why a new node does not start from the bytes of a log: it cannot carry out an entry, as the error says; or it carried
-- out all, and cannot start; or there is no memory
abbrev pub IsUnread : FileOfNames → (number : ℕ) → (disk : List ℕ) → CoreError → Type 0
IsUnread names number disk (errors.BadLog error) =
    (new copy : Node) × IsNewAndIdle names number new × HasRecovered CarriesOutEntry new copy (Some disk) (Err error)
IsUnread names number disk (errors.Refused error) =
    (copy : Node) × (end : LogEnd) × IsReadLog names number disk copy end
    × IsNotStarted copy.keeper.digest copy.keeper.ids error
IsUnread names number disk errors.NoMemory = ⊤
IsUnread names number disk _ = ⊥

-- a core was opened for a node of this number, with the cluster file that the text writes
abbrev pub IsOpened : (text : List ℕ) → (number : ℕ) → (disk : List ℕ) → Opened → Type 0
IsOpened text number disk opened =
    (file : FileContents) × HasReadFile text number (Ok file) × HasOpened (names_of file) number disk opened

-- why no core is opened: the file is not read; or it is, and the log has an older form, or no node starts from it
abbrev pub IsUnopened : (text : List ℕ) → (number : ℕ) → (disk : List ℕ) → CoreError → Type 0
IsUnopened text number disk (errors.BadFile error) = HasReadFile text number (Err (errors.BadFile error))
IsUnopened text number disk (errors.NoNode other) = HasReadFile text number (Err (errors.NoNode other))
IsUnopened text number disk errors.OldForm =
    (file : FileContents) × HasReadFile text number (Ok file) × IsOfOldForm disk
IsUnopened text number disk error =
    (file : FileContents) × HasReadFile text number (Ok file) × IsUnread (names_of file) number disk error
