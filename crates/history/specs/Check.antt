-- What `check` demands of the entries alone, and definitions for its passes over them.
use Rattle.std.specs.Prelude.{◌≡◌, ℕ, suc, Bool, false, List, map, Some, is_some, IsSome, slice_get}
use Rattle.std.specs.List.{AllByRecursion}
use Rattle.record.specs.declared.call.Entry.{Entry}
use Rattle.record.specs.declared.call.Operation.{Operation}
use Rattle.record.specs.declared.call.Operation.TheVariants as operation
use Rattle.atomicity.specs.Atomic.{MayStand, entry_at}

-- entry i, counted from 1, is that of call i, and each write and each answered read has a value
abbrev pub AreLawfulEntries : List Entry → Type 0
AreLawfulEntries entries = (index : ℕ) (entry : Entry) → slice_get entries index ≡ Some entry →
    (entry.call ≡ suc index) × (MayStand entry → IsSome entry.value)

-- each of the listed calls may stand in a sequence
abbrev pub MayAllStand : List Entry → (order : List ℕ) → Type 0
MayAllStand entries order = AllByRecursion (λ call. MayStand (entry_at entries call)) order

-- the entries of the listed calls
abbrev pub entries_listed : List Entry → (order : List ℕ) → List Entry
entries_listed entries order = map (λ call. entry_at entries call) order

-- whether a call with this operation has to stand in each sequence: an answered read or write has to
abbrev pub must_stand_as : Operation → (is_answered : Bool) → Bool
must_stand_as operation.Read is_answered = is_answered
must_stand_as operation.Write is_answered = is_answered
must_stand_as operation.Move is_answered = false

-- whether the call of an entry has to stand in each sequence: an answered read or write has to
abbrev pub must_stand : Entry → Bool
must_stand entry = must_stand_as entry.kind (is_some entry.answered)
