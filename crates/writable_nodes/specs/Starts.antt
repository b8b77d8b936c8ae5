-- The contracts that docs/trusted.md lists do not depend on this file; other contracts and proofs do.
-- The law: a node that starts from a log of bytes is fit.
use Rattle.std.specs.Prelude.{◌≡◌, ◌<◌, ◌^◌, ◌++◌, ⊤, ℕ, List, [], IfSome}
use Rattle.std.specs.List.{AllByRecursion}
use Rattle.cluster_file.specs.Digest.{fixed_digest}
use Rattle.cluster_file.specs.File.{FileContents, IsLawfulFile}
use Rattle.deeds.specs.Kept.{new_node}
use Rattle.fitting.specs.Reading.{IsOfBytes}
use Rattle.frames.specs.Frame.{IsShort}
use Rattle.node.specs.Anew.{CarriesOutAll}
use Rattle.node.specs.FitNodes.{IsFitNode}
use Rattle.node.specs.Recovering.{KeepsCluster}
use Rattle.node.specs.declared.node.Node.{Node}
use Rattle.node_keeper.specs.Keeping.{kept_of, names_of}
use Rattle.node_strings.specs.Record.{record_at}
use Rattle.node_strings.specs.Strings.{Strings}
use Rattle.node_strings.specs.declared.record.Record.{Record}
use Rattle.node_strings.specs.declared.record.Record.TheVariants as record_of
use Rattle.recoveries.specs.Records.{IsStarted}
use Rattle.writable.specs.Keepers.{AreBytes, IsShortName}

-- a node of this number, with this cluster file, as `Node::new` makes it
pub record IsNew (file : FileContents) (number : ℕ) (node : Node) : Type 0 where
  pub kept : kept_of node.keeper ≡ new_node (names_of file) number
  pub same : node.keeper.file ≡ file
  pub digest : node.keeper.digest ≡ fixed_digest file.fixed
  pub clients : node.desk.clients.by_number.entries ≡ []
  pub calls : node.desk.calls.entries ≡ []

-- a node started, as `Node::start` says
pub record HasStarted (old new : Node) : Type 0 where
  pub started : IsStarted (kept_of old.keeper) (kept_of new.keeper)
  pub cluster : KeepsCluster old.keeper new.keeper
  pub desk : new.desk ≡ old.desk

-- if the record is a move, the name of its object is short
abbrev pub MovesShort : Record → Type 0
MovesShort (record_of.Move id name layout) = IsShortName name
MovesShort it = ⊤

-- the strings of an entry of a log are short and of bytes; and if it records a move, the name of the object is short
pub record IsByteEntry (entry : Strings) : Type 0 where
  pub short : AllByRecursion IsShort entry
  pub bytes : AllByRecursion IsOfBytes entry
  pub moves : IfSome (record_at entry) MovesShort

-- a node whose cluster file is lawful and has numbers of bytes is fit once it has carried out such a log again and has
-- started
abbrev pub StartsAreFit : Type 0
StartsAreFit = (file : FileContents) (number : ℕ) (first last node : Node) (entries : List Strings) →
    IsLawfulFile file → AreBytes (file.fixed.nodes ++ file.later) → number < 2 ^ 8 → IsNew file number first →
    AllByRecursion IsByteEntry entries → CarriesOutAll first entries last → HasStarted last node → IsFitNode node
