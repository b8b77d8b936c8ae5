-- Layouts. A member is named by its place in the layout, from 0.
use Rattle.std.specs.Prelude.{ℕ, ◌+◌, ◌/◌, ◌≤◌, List, length, nat_eq}
use Rattle.std.specs.List.{IsDistinct}
use Rattle.tag.specs.declared.limits.TheConstants.{MOST_MEMBERS}

-- a layout: the servers that are its members, and k, the number of fragments that give a value back
pub record Layout : Type 0 where
  pub k : ℕ
  pub members : List ℕ

-- a layout is lawful if 1 ≤ k ≤ n ≤ MOST_MEMBERS, where n counts its members, and no server is named twice
pub record IsLawful (layout : Layout) : Type 0 where
  pub some : 1 ≤ layout.k
  pub enough : layout.k ≤ length layout.members
  pub few : length layout.members ≤ MOST_MEMBERS
  pub distinct : IsDistinct nat_eq layout.members

-- the least size of a quorum: half of n + k, rounded up
abbrev pub quorum_of : Layout → ℕ
quorum_of layout = (length layout.members + layout.k + 1) / 2
