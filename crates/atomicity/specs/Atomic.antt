-- Atomicity of an object's history. The definition refers to the entries of the calls alone.
use Rattle.std.specs.Prelude.{nat_eq, ◌≡◌, ℕ, zero, suc, ◌<◌, ◌≢◌, true}
use Rattle.std.specs.Prelude.{List, [], ◌∷◌, map, Option, Some, None, IsSome, get_or}
use Rattle.std.specs.List.{AllByRecursion, IsDistinct}
use Rattle.layout.specs.Quorum.{has}
use Rattle.record.specs.declared.call.Entry.{Entry}
use Rattle.record.specs.declared.call.Operation.{Operation}
use Rattle.record.specs.declared.call.Operation.TheVariants as operation

-- the entry that stands for a call that does not exist
abbrev pub no_entry : Entry
no_entry = record { call = 0; kind = operation.Move; called = 0; answered = None; value = None }

-- the entry of the call with this number, counted from 1
abbrev pub entry_at : List Entry → (number : ℕ) → Entry
entry_at entries zero = no_entry
entry_at entries (suc index) = get_or entries index no_entry

-- what an operation does to a register: a read returns the current value and leaves it, and a write leaves its own
abbrev pub Leaves : Operation → Option (List ℕ) → (current next : List ℕ) → Type 0
Leaves operation.Read value current next = (value ≡ Some current) × (next ≡ current)
Leaves operation.Write value current next = value ≡ Some next
Leaves operation.Move value current next = ⊥

-- the entries follow one register: each read returns the value of the nearest write before it, or else `current`
abbrev pub IsRegister : (current : List ℕ) → List Entry → Type 0
IsRegister current [] = Unit {0}
IsRegister current (entry ∷ later) =
    (next : List ℕ) × Leaves entry.kind entry.value current next × IsRegister next later

-- a was answered before b was called
abbrev pub IsAnsweredBefore : Entry → Entry → Type 0
IsAnsweredBefore a b = (step : ℕ) × (a.answered ≡ Some step) × (step < b.called)

-- the list keeps answer before call: an entry that was answered before another was called does not come after the other
abbrev pub KeepsOrder : List Entry → Type 0
KeepsOrder [] = Unit {0}
KeepsOrder (entry ∷ later) = AllByRecursion (λ other. IsAnsweredBefore other entry → ⊥) later × KeepsOrder later

-- an entry may stand in a sequence if it is a write or an answered read; a move never may
abbrev pub MayStand : Entry → Type 0
MayStand entry = (entry.kind ≢ operation.Move) × (entry.kind ≡ operation.Read → IsSome entry.answered)

-- the calls with these numbers, in this order, follow one register, keep answer before call, and miss no answered one
pub record IsSequence (entries : List Entry) (order : List ℕ) : Type 0 where
  pub distinct : IsDistinct nat_eq order
  pub fitting : AllByRecursion (λ number. MayStand (entry_at entries number)) order
  pub complete : (number : ℕ) → (entry_at entries number).kind ≢ operation.Move →
      IsSome (entry_at entries number).answered → has order number ≡ true
  pub one_register : IsRegister [] (map (λ number. entry_at entries number) order)
  pub in_order : KeepsOrder (map (λ number. entry_at entries number) order)

-- all answered reads and writes, with some unanswered writes, follow one register in an order with answer before call
abbrev pub IsAtomic : List Entry → Type 0
IsAtomic entries = (order : List ℕ) × IsSequence entries order
