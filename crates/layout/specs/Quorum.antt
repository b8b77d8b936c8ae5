-- Quorums, as lists of members. Any two of them share k members.
use Rattle.std.specs.Prelude.{ℕ, ◌<◌, ◌≤◌, ◌==◌, Bool, IsTrue, List, length, nat_eq}
use Rattle.std.specs.List.{list_any, IsDistinct, AllByRecursion}
use Rattle.layout.specs.Layout.{Layout, quorum_of}

-- whether member i is in the list
abbrev pub has : List ℕ → ℕ → Bool
has members i = list_any (λ j. j == i) members

-- the list has at least `size` of the members 0 to n - 1, none of them twice
pub record AreEnough (n size : ℕ) (members : List ℕ) : Type 0 where
  pub distinct : IsDistinct nat_eq members
  pub within : AllByRecursion (λ i. i < n) members
  pub enough : size ≤ length members

-- the list is a quorum of the layout
abbrev pub IsQuorum : Layout → List ℕ → Type 0
IsQuorum layout members = AreEnough (length layout.members) (quorum_of layout) members

-- two lists of members have at least `count` members in common
pub record Share (xs ys : List ℕ) (count : ℕ) : Type 0 where
  pub members : List ℕ
  pub distinct : IsDistinct nat_eq members
  pub in_first : AllByRecursion (λ i. IsTrue (has xs i)) members
  pub in_second : AllByRecursion (λ i. IsTrue (has ys i)) members
  pub enough : count ≤ length members

-- any two quorums of a layout have at least k members in common
abbrev pub QuorumsShare : Type 0
QuorumsShare = (layout : Layout) (xs ys : List ℕ) → IsQuorum layout xs → IsQuorum layout ys → Share xs ys layout.k
