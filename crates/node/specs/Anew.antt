-- A node's log that is written anew.
use Rattle.std.specs.Prelude.{◌≡◌, ◌∷◌, ℕ, List, [], map}
use Rattle.std.specs.List.{AllByRecursion}
use Rattle.cluster_file.specs.File.{FileContents, IsLawfulFile}
use Rattle.deeds.specs.Kept.{new_node}
use Rattle.node_log.specs.Entry.{IsEntry}
use Rattle.recoveries.specs.Copies.{IsCopyOf, IsRecorded}
use Rattle.recoveries.specs.LoggedIds.{epochs_in, moves_in}
use Rattle.recoveries.specs.Records.{IsStarted, LogRecord}
use Rattle.recoveries.specs.OwnCalls.{HasOwnCalls}
use Rattle.recoveries.specs.RewritingNodes.{HasDistinctCalls, HasOwnObjects}
use Rattle.node_strings.specs.Strings.{Strings}
use Rattle.node_effects.specs.declared.effects.Effects.{Effects}
use Rattle.node_keeper.specs.Anew.{anew_records}
use Rattle.node_keeper.specs.Fitting.{IsLoggable}
use Rattle.node_keeper.specs.Keeping.{kept_of, names_of, names_of_keeper}
use Rattle.node_keeper.specs.Logging.{IsReadBack, log_entry_of}
use Rattle.node.specs.declared.node.Node.{Node}
use Rattle.node.specs.Handles.{Handles}
use Rattle.node.specs.Recovering.{CarriesOutEntry}
use Rattle.node.specs.Starts.{cluster_entry, cluster_strings}

-- These are the entries of a log that is written anew: one that names the cluster and the node, and one for each of
-- some records. The records say that as many epochs began as did, and that no move began. If all objects of the node
-- are its own, and no two calls of one object have the same id, the records are enough for what the node keeps.
pub record AreAnew (node : Node) (entries : List Strings) : Type 0 where
  pub records : List LogRecord
  pub those : entries ≡ cluster_entry node.keeper.digest node.keeper.ids.node
      ∷ map (log_entry_of node.keeper.digest) records
  pub named : IsEntry (cluster_strings node.keeper.digest node.keeper.ids.node)
  pub read : AllByRecursion (IsReadBack node.keeper.digest) records
  pub epochs : epochs_in records ≡ node.keeper.ids.epoch
  pub moves : moves_in records ≡ []
  pub recorded : HasOwnObjects (kept_of node.keeper) → HasDistinctCalls (kept_of node.keeper) →
      IsRecorded (new_node (names_of_keeper node.keeper) node.keeper.ids.node) records (kept_of node.keeper)

-- a log can get all entries that it has to hold if it is written anew
abbrev pub CanHoldAnew : Node → Type 0
CanHoldAnew node = IsEntry (cluster_strings node.keeper.digest node.keeper.ids.node)
    × AllByRecursion (IsLoggable node.keeper.digest) (anew_records node.keeper)

-- a node carried out these entries of its log again, one after another
abbrev pub CarriesOutAll : (old : Node) → List Strings → (new : Node) → Type 0
CarriesOutAll old [] new = new ≡ old
CarriesOutAll old (entry ∷ entries) new =
    (middle : Node) × CarriesOutEntry old entry middle × CarriesOutAll middle entries new

-- The laws

-- what a new node has from the entries of a log that is written anew is a copy of the node that wrote it
abbrev pub AnewGivesCopies : Type 0
AnewGivesCopies = (node first last : Node) (entries : List Strings) → AreAnew node entries →
    HasOwnObjects (kept_of node.keeper) → HasDistinctCalls (kept_of node.keeper) →
    kept_of first.keeper ≡ new_node (names_of_keeper node.keeper) node.keeper.ids.node →
    CarriesOutAll first entries last → IsCopyOf (kept_of node.keeper) (kept_of last.keeper)

-- all objects of a new node are its own
abbrev pub StartingNodesHaveOwn : Type 0
StartingNodesHaveOwn = (node : Node) (file : FileContents) (number : ℕ) → IsLawfulFile file →
    kept_of node.keeper ≡ new_node (names_of file) number → HasOwnObjects (kept_of node.keeper)

-- if all objects of a node are its own, they still are after it handles a frame
abbrev pub HandledFramesKeepOwn : Type 0
HandledFramesKeepOwn = (old new : Node) (frame : Strings) (effects : Effects) → Handles old frame effects new →
    HasOwnObjects (kept_of old.keeper) → HasOwnObjects (kept_of new.keeper)

-- if all objects of a node are its own, they still are after it carries out an entry of its log again
abbrev pub RecoveredEntriesKeepOwn : Type 0
RecoveredEntriesKeepOwn = (old new : Node) (entry : Strings) → CarriesOutEntry old entry new →
    HasOwnObjects (kept_of old.keeper) → HasOwnObjects (kept_of new.keeper)

-- if all objects of a node are its own, they still are after it starts
abbrev pub StartedNodesKeepOwn : Type 0
StartedNodesKeepOwn = (old new : Node) → IsStarted (kept_of old.keeper) (kept_of new.keeper) →
    HasOwnObjects (kept_of old.keeper) → HasOwnObjects (kept_of new.keeper)

-- the ids of the open calls of a node stay its own as it handles a frame
abbrev pub HandledFramesKeepOwnCalls : Type 0
HandledFramesKeepOwnCalls = (old new : Node) (frame : Strings) (effects : Effects) → Handles old frame effects new →
    HasOwnCalls (kept_of old.keeper) → HasOwnCalls (kept_of new.keeper)

-- such a node meets the premise of `AnewGivesCopies` about its calls
abbrev pub OwnCallsAreDistinct : Type 0
OwnCallsAreDistinct = (node : Node) → HasOwnCalls (kept_of node.keeper) → HasDistinctCalls (kept_of node.keeper)
