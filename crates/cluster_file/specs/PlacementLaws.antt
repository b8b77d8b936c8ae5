-- The contracts that docs/trusted.md lists do not depend on this file; other contracts and proofs do.
-- What holds for the layouts of all names.
use Rattle.std.specs.Prelude.{◌≡◌, ℕ, false, IsTrue, List, [], ◌∷◌, ◌++◌, length, take}
use Rattle.std.specs.List.{AllByRecursion}
use Rattle.std.specs.List.Sorted.{IsPermutation}
use Rattle.layout.specs.Layout.{IsLawful as IsLawfulLayout}
use Rattle.layout.specs.Quorum.{has}
use Rattle.cluster_file.specs.Placement.{ClusterNodes, AreLawfulNodes, input_of, comes_before, with_node, placed}

-- the layout of every name is lawful
abbrev pub PlacedAreLawful : Type 0
PlacedAreLawful =
    (cluster : ClusterNodes) (name : List ℕ) → AreLawfulNodes cluster → IsLawfulLayout (placed cluster name)

-- each node of the list comes before all that follow it
abbrev pub AreInOrder : List ℕ → List ℕ → Type 0
AreInOrder name [] = Unit {0}
AreInOrder name (x ∷ xs) = AllByRecursion (λ y. IsTrue (comes_before name x y)) xs × AreInOrder name xs

-- the members are the n of the nodes that come first for the name, in order
pub record AreFirst (name : List ℕ) (n : ℕ) (nodes members : List ℕ) : Type 0 where
  pub as_many : length members ≡ n
  pub of_the_nodes : AllByRecursion (λ member. IsTrue (has nodes member)) members
  pub ordered : AreInOrder name members
  pub before_others : (node : ℕ) → IsTrue (has nodes node) → has members node ≡ false
      → AllByRecursion (λ member. IsTrue (comes_before name member node)) members

-- the members of a name's layout are the n nodes that come first for the name
abbrev pub PlacedAreFirst : Type 0
PlacedAreFirst = (cluster : ClusterNodes) (name : List ℕ) → AreLawfulNodes cluster
    → AreFirst name cluster.n cluster.nodes (placed cluster name).members

-- the layout is the same for nodes that are listed in another order
abbrev pub OrderOfListingDoesNotMatter : Type 0
OrderOfListingDoesNotMatter = (k n : ℕ) (nodes others name : List ℕ) → IsPermutation nodes others
    → placed (record { k = k; n = n; nodes = nodes }) name ≡ placed (record { k = k; n = n; nodes = others }) name

-- if a node is not a member, the layout is the same without this node
abbrev pub OthersMayLeave : Type 0
OthersMayLeave = (k n node : ℕ) (before behind name : List ℕ)
    → has (placed (record { k = k; n = n; nodes = before ++ node ∷ behind }) name).members node ≡ false
    → placed (record { k = k; n = n; nodes = before ++ behind }) name
    ≡ placed (record { k = k; n = n; nodes = before ++ node ∷ behind }) name

-- with one more node, the members are the first n of the old members and this node
abbrev pub NewcomersChangeOnePlace : Type 0
NewcomersChangeOnePlace = (k n node : ℕ) (nodes name : List ℕ)
    → (placed (record { k = k; n = n; nodes = nodes ++ node ∷ [] }) name).members
    ≡ take n (with_node name node (placed (record { k = k; n = n; nodes = nodes }) name).members)

-- two different pairs of a name and a node never give the same bytes to the hash
abbrev pub InputsDiffer : Type 0
InputsDiffer = (name other : List ℕ) (a b : ℕ) → input_of name a ≡ input_of other b → (name ≡ other) × (a ≡ b)
