-- The contracts that docs/trusted.md lists do not depend on this file; other contracts and proofs do.
-- The moves that are open at a node after it has carried out its log again, and the calls of its desk.
use Rattle.std.specs.Prelude.{◌≡◌, ◌↔◌, ℕ, nat_eq, true, List, [], ◌∷◌, ◌++◌, Option, Some}
use Rattle.std.specs.List.{IsDistinct}
use Rattle.cluster_file.specs.File.{FileContents, IsLawfulFile}
use Rattle.deeds.specs.Kept.{new_node}
use Rattle.local_object.specs.Doing.{has_move_open}
use Rattle.node_strings.specs.Record.{record_at}
use Rattle.node_strings.specs.Strings.{Strings}
use Rattle.node_strings.specs.declared.record.Record.{Record}
use Rattle.node_strings.specs.declared.record.Record.TheVariants as record_of
use Rattle.node_clients.specs.Calls.{call_under}
use Rattle.node_clients.specs.declared.open_call.OpenCall.{OpenCall}
use Rattle.node_keeper.specs.Keeping.{kept_of, names_of}
use Rattle.node_keeper.specs.Objects.{objects_of}
use Rattle.recoveries.specs.Records.{IsStarted}
use Rattle.node.specs.declared.node.Node.{Node}
use Rattle.node.specs.Anew.{CarriesOutAll}
use Rattle.node.specs.Recovering.{resumed_move}

-- the desk of a node has exactly the moves that are open at the node's objects, each as a move that goes on after a
-- restart, and no other call
pub record HasOpenMoves (node : Node) : Type 0 where
  pub moves : (name : List ℕ) (id : ℕ) → has_move_open (objects_of node.keeper.objects name) id ≡ true ↔
      call_under node.desk.calls id ≡ Some (resumed_move name)
  pub only : (id : ℕ) (call : OpenCall) → call_under node.desk.calls id ≡ Some call → call ≡ resumed_move call.name

-- if a record says that a move began, the id of this move, and otherwise none
abbrev pub moved_by : Option Record → List ℕ
moved_by (Some (record_of.Move id name layout)) = id ∷ []
moved_by it = []

-- the ids of the moves that these entries say began
abbrev pub moved_ids : List Strings → List ℕ
moved_ids [] = []
moved_ids (entry ∷ entries) = moved_by (record_at entry) ++ moved_ids entries

-- The laws

-- after a new node has carried out entries of a log again, its desk has exactly its open moves, if no two of the moves
-- that these entries say began have the same id; in a node's own log none have, as each start begins an epoch of ids
abbrev pub DesksHaveTheOpenMoves : Type 0
DesksHaveTheOpenMoves = (file : FileContents) (number : ℕ) (new copy : Node) (entries : List Strings) →
    IsLawfulFile file → kept_of new.keeper ≡ new_node (names_of file) number → new.desk.calls.entries ≡ [] →
    IsDistinct nat_eq (moved_ids entries) → CarriesOutAll new entries copy → HasOpenMoves copy

-- it still has exactly these when the node has started
abbrev pub StartedDesksHaveTheOpenMoves : Type 0
StartedDesksHaveTheOpenMoves = (old new : Node) → IsStarted (kept_of old.keeper) (kept_of new.keeper) →
    new.desk ≡ old.desk → HasOpenMoves old → HasOpenMoves new
