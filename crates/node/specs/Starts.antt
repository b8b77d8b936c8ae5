-- What the log of a node gets when the node starts.
use Rattle.std.specs.Prelude.{◌≡◌, ◌^◌, ◌<◌, ⊤, false, suc, ℕ, Bool, if◌then◌else◌, List, [], ◌∷◌, ◌++◌}
use Rattle.deeds.specs.CallId.{CallIds}
use Rattle.node_log.specs.Entry.{IsEntry}
use Rattle.node_strings.specs.Record.{record_strings}
use Rattle.node_strings.specs.declared.record.Record.TheVariants as record_of
use Rattle.node_effects.specs.Work.{Growth, entries_in, no_growth, one_entry}
use Rattle.node_effects.specs.declared.error.NodeError.{NodeError}
use Rattle.node_effects.specs.declared.error.NodeError.TheVariants as errors
use Rattle.node_keeper.specs.Logging.{start_entry}
use Rattle.node.specs.declared.node.Node.{Node}

-- the strings of the entry that names the cluster and the node
abbrev pub cluster_strings : (digest : List ℕ) → (number : ℕ) → List (List ℕ)
cluster_strings digest number = record_strings (record_of.Cluster digest number)

-- the entry that names the cluster and the node
abbrev pub cluster_entry : (digest : List ℕ) → (number : ℕ) → List (List ℕ)
cluster_entry digest number = cluster_strings digest number

-- the entry that names the cluster and the node, if the log has none yet
abbrev pub growth_unless : (is_named : Bool) → (digest : List ℕ) → (number : ℕ) → Growth
growth_unless is_named digest number = if is_named then no_growth else one_entry (cluster_entry digest number)

-- what is added to a node's work before it starts
abbrev pub name_growth : Node → Growth
name_growth node = growth_unless node.is_named node.keeper.digest node.keeper.ids.node

-- what the log gets when the node starts: the entry that names the cluster and the node, if it has none yet, and the
-- entry of a new epoch
abbrev pub start_entries : Node → List (List (List ℕ))
start_entries node = entries_in (name_growth node).outputs ++ start_entry ∷ []

-- the entry that names the cluster and the node is one, unless the log has it already
abbrev pub CanBeNamed : Node → Type 0
CanBeNamed node = node.is_named ≡ false → IsEntry (cluster_strings node.keeper.digest node.keeper.ids.node)

-- there is one more epoch, with which a node can start
abbrev pub HasMoreEpochs : CallIds → Type 0
HasMoreEpochs ids = suc ids.epoch < 2 ^ 24

-- why a node of this number, with the cluster file of this digest, does not start: there is no memory, it has begun all
-- epochs, or the entry that names the cluster and the node is too long
abbrev pub IsNotStarted : (digest : List ℕ) → CallIds → NodeError → Type 0
IsNotStarted digest ids errors.NoMemory = ⊤
IsNotStarted digest ids errors.NoMoreIds = HasMoreEpochs ids → ⊥
IsNotStarted digest ids errors.Unwritable = IsEntry (cluster_strings digest ids.node) → ⊥
IsNotStarted digest ids (errors.Refused refusal) = ⊥
