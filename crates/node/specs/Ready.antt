-- Which nodes a node hears, and whether it can serve clients.
use Rattle.std.specs.Prelude.{◌+◌, ◌/◌, ◌≤◌, ℕ, Bool, false, IsTrue, nat_le, List, length, Option, None, Some}
use Rattle.std.specs.List.{count_by}
use Rattle.cluster_file.specs.File.{Fixed, placement_of}
use Rattle.cluster_file.specs.Placement.{AreLawfulNodes, placed}
use Rattle.layout.specs.Layout.{quorum_of}
use Rattle.node_strings.specs.declared.heard.Heard.{Heard}
use Rattle.node.specs.Moves.{hears}

-- whether the node of this number hears a node: itself, and those that its host hears; none before the host has told
-- which nodes it hears
abbrev pub hears_now : (number : ℕ) → Option Heard → (node : ℕ) → Bool
hears_now number None node = false
hears_now number (Some heard) node = hears number heard node

-- the least size of a quorum of a layout that a name has before any move
abbrev pub first_quorum : Fixed → ℕ
first_quorum fixed = (fixed.n + fixed.k + 1) / 2

-- whether each such layout has a quorum that is heard, if so many of the nodes are heard among which placement chooses:
-- so at most n minus a quorum of them are not heard
abbrev pub is_ready : Fixed → (heard : ℕ) → Bool
is_ready fixed heard = nat_le (length fixed.nodes + first_quorum fixed) (heard + fixed.n)

-- a node that is ready hears a quorum of the layout that any name has before any move
abbrev pub ReadyNodesHearQuorums : Type 0
ReadyNodesHearQuorums = (fixed : Fixed) (hears : ℕ → Bool) (name : List ℕ) → AreLawfulNodes (placement_of fixed) →
    IsTrue (is_ready fixed (count_by hears fixed.nodes)) →
    quorum_of (placed (placement_of fixed) name) ≤ count_by hears (placed (placement_of fixed) name).members
