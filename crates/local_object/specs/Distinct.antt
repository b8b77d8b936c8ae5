-- The contracts that docs/trusted.md lists do not depend on this file; other contracts and proofs do.
-- What is true of the parts of a node's object at any time.
use Rattle.std.specs.Prelude.{◌≡◌, ◌≢◌, ◌<◌, ◌^◌, ℕ, false, List, [], ◌∷◌, Option, None, Some, IsSome}
use Rattle.std.specs.Prelude.{slice_get, slice_set}
use Rattle.std.specs.List.{AllByRecursion}
use Rattle.tag.specs.Tag.{opening_tag}
use Rattle.bank.specs.Bank.{Bank}
use Rattle.bank.specs.Collect.{IsCollected}
use Rattle.bank.specs.Floor.{remembered}
use Rattle.bank.specs.Knowledge.{finalized_at}
use Rattle.call.specs.Call.{OpenCall as Machine}
use Rattle.local_object.specs.declared.kept_bank.KeptBank.{KeptBank}
use Rattle.local_object.specs.declared.kept_bank.KeptBank.TheVariants as kept
use Rattle.local_object.specs.declared.report.Report.{Report}
use Rattle.local_object.specs.Local.{Place, heard_place, layout_in, with_bank_here}
use Rattle.local_object.specs.Reports.{is_same}

-- none of the calls has this id
abbrev pub HaveOtherIds : (id : ℕ) → List Machine → Type 0
HaveOtherIds id [] = Unit {0}
HaveOtherIds id (call ∷ calls) = (call.id ≢ id) × HaveOtherIds id calls

-- no two of the calls have the same id
abbrev pub DifferInIds : List Machine → Type 0
DifferInIds [] = Unit {0}
DifferInIds (call ∷ calls) = HaveOtherIds call.id calls × DifferInIds calls

-- no two of the calls have the same id
pub record HaveDistinctIds (calls : List Machine) : Type 0 where
  pub distinct : DifferInIds calls

-- the call with this id is at this index
pub record IsCallAt (calls : List Machine) (id index : ℕ) : Type 0 where
  pub call : Machine
  pub there : slice_get calls index ≡ Some call
  pub named : call.id ≡ id

-- no two of the reports are of the same member, to the same phase of the same call
abbrev pub DifferInMembers : List Report → Type 0
DifferInMembers [] = Unit {0}
DifferInMembers (report ∷ reports) =
    AllByRecursion (λ other. is_same other report ≡ false) reports × DifferInMembers reports

-- no two of the reports are of the same member, to the same phase of the same call
pub record AreOfOtherMembers (reports : List Report) : Type 0 where
  pub apart : DifferInMembers reports

-- the place of a position is at this index, and another bank at the position would change this place
pub record IsPlaceAt (places : List Place) (number index : ℕ) : Type 0 where
  pub place : Place
  pub there : slice_get places index ≡ Some place
  pub found : heard_place places number ≡ Some place
  pub changed : (bank : Option KeptBank) →
      with_bank_here places number bank ≡ slice_set places index (record place { bank = bank })

-- a bank has exactly the pieces that it has to keep, has finalized the opening tag, and has no row that it may forget
pub record IsBankInOrder (bank : Bank) : Type 0 where
  pub collected : IsCollected bank
  pub opening : IsSome (finalized_at bank opening_tag)
  pub remembered : remembered bank ≡ bank

-- the bank is in order, if it is open
abbrev pub IsKeptInOrder : KeptBank → Type 0
IsKeptInOrder (kept.Open bank) = IsBankInOrder bank
IsKeptInOrder (kept.Closed closed) = Unit {0}

-- the bank is in order, if there is one and it is open
abbrev pub IsBankInOrderIfOpen : Option KeptBank → Type 0
IsBankInOrderIfOpen None = Unit {0}
IsBankInOrderIfOpen (Some bank) = IsKeptInOrder bank

-- the node has heard of position 0
pub record KnowsFirst (places : List Place) : Type 0 where
  pub known : IsSome (heard_place places 0)

-- the node has heard of the layout of the start, and the phases of calls that begin there have numbers of 32 bits
pub record KnowsStart (places : List Place) (start : ℕ) : Type 0 where
  pub known : IsSome (layout_in (heard_place places start))
  pub small : start < 2 ^ 31
