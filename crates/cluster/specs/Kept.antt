-- What every step keeps true of a cluster.
use Rattle.std.specs.Prelude.{◌≡◌, ℕ, ◌≤◌, ◌<◌, false, length, List, [], ◌∷◌, bytes_eq}
use Rattle.std.specs.List.{AllByRecursion}
use Rattle.tag.specs.declared.limits.TheConstants.{MOST_BYTES, MOST_OBJECTS, MOST_STEPS}
use Rattle.layout.specs.Layout.{Layout}
use Rattle.bank.specs.Bank.{Bank}
use Rattle.cluster.specs.Cluster.{Named, Cluster}
use Rattle.cluster.specs.Accounts.{banks_all, calls}

-- each member is one of this many servers
abbrev pub HasMembersBelow : (servers : ℕ) → Layout → Type 0
HasMembersBelow servers layout = AllByRecursion (λ member. member < servers) layout.members

-- there is a list of banks for each layout, with one bank for each of its members
abbrev pub AreBanked : List Layout → List (List Bank) → Type 0
AreBanked [] [] = Unit {0}
AreBanked [] (bank ∷ banks) = ⊥
AreBanked (layout ∷ layouts) [] = ⊥
AreBanked (layout ∷ layouts) (banks ∷ later) = (length banks ≡ length layout.members) × AreBanked layouts later

-- the members of the object's layouts are servers with banks, and its last step is not later than the cluster's
pub record IsPlaced (servers counter : ℕ) (object : Named) : Type 0 where
  pub layouts : AllByRecursion (HasMembersBelow servers) object.state.object.layouts
  pub banked : AreBanked object.state.object.layouts object.state.object.banks
  pub past : object.state.last ≤ counter

-- no two objects have the same name
abbrev pub AreNamedApart : List Named → Type 0
AreNamedApart [] = Unit {0}
AreNamedApart (object ∷ objects) =
    AllByRecursion (λ other. bytes_eq object.name other.name ≡ false) objects × AreNamedApart objects

-- the invariant of a cluster: every member is a server, names differ, the limits hold, and the running counts `bytes`
-- and `count` equal what they count
pub record IsKeptCluster (cluster : Cluster) (bytes count : ℕ) : Type 0 where
  pub layouts : AllByRecursion (HasMembersBelow (length cluster.servers)) cluster.layouts
  pub objects : AllByRecursion (IsPlaced (length cluster.servers) cluster.counter) cluster.objects
  pub apart : AreNamedApart cluster.objects
  pub few_objects : length cluster.objects ≤ MOST_OBJECTS
  pub few_steps : cluster.counter ≤ MOST_STEPS
  pub stored : bytes ≡ banks_all cluster.objects
  pub within : bytes ≤ MOST_BYTES
  pub called : count ≡ calls cluster.objects
  pub past : count ≤ cluster.counter
