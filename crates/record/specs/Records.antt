-- The record of one object: its layouts and banks by position, its waiting messages, and its calls with their phases.
use Rattle.std.specs.Prelude.{◌≡◌, ◌≢◌, ℕ, suc, ◌==◌, true, if◌then◌else◌, is_some, List, [], ◌∷◌, Option, Some, None}
use Rattle.std.specs.Prelude.{get_or, slice_get}
use Rattle.std.specs.FinMap as map
use Rattle.layout.specs.Layout.{Layout}
use Rattle.bank.specs.Bank.{Bank}
use Rattle.bank.specs.Knowledge.{came_by}
use Rattle.bank.specs.declared.status.Pointer.TheVariants as pointer
use Rattle.mail.specs.declared.message.Message.{Message}
use Rattle.mail.specs.Phase.{Phase}
use Rattle.record.specs.declared.call.CallKind.{CallKind}

-- a call: the id by which messages, phases and tags name it, its kind, the steps of its call and answer, its settled
-- value, and its phases; its number is its index + 1
pub record Call : Type 0 where
  pub id : ℕ
  pub kind : CallKind
  pub called : ℕ
  pub answered : Option ℕ
  pub settled : Option (List ℕ)
  pub phases : List Phase

-- an object: versions kept besides the newest (None: all), layouts and banks by position, waiting messages, and calls
pub record Object : Type 0 where
  pub delta : Option ℕ
  pub layouts : List Layout
  pub banks : List (List Bank)
  pub mail : List Message
  pub calls : List Call

-- the index of the first call with this id, or the number of calls if none has it
abbrev pub index_by_id : List Call → (id : ℕ) → ℕ
index_by_id [] id = 0
index_by_id (call ∷ calls) id = if call.id == id then 0 else suc (index_by_id calls id)

-- no call of the object has this id
abbrev pub IsNewId : Object → (id : ℕ) → Type 0
IsNewId object id = (index : ℕ) (call : Call) → slice_get object.calls index ≡ Some call → call.id ≢ id

-- a bank that knows nothing, which stands for one that does not exist
abbrev pub no_bank : Bank
no_bank = record { rows = map.empty; pointer = pointer.Unset; delta = None; retired = None }

-- a layout without members, which stands for one that does not exist
abbrev pub no_layout : Layout
no_layout = record { k = 0; members = [] }

-- the layout of a position
abbrev pub layout_at : Object → (position : ℕ) → Layout
layout_at object position = get_or object.layouts position no_layout

-- the bank of a member of a position
abbrev pub bank_at : Object → (position member : ℕ) → Bank
bank_at object position member = get_or (get_or object.banks position []) member no_bank

-- the step at which a position was retired, if it was: that at which its first bank was
abbrev pub retired_at : Object → (position : ℕ) → Option ℕ
retired_at object position = (bank_at object position 0).retired

-- the position was retired at this step or earlier
abbrev pub IsRetiredBy : Object → (position step : ℕ) → Type 0
IsRetiredBy object position step = came_by (retired_at object position) step ≡ true

-- how many positions in a row, from the first on, were retired at this step or earlier
abbrev pub base_by : List (List Bank) → (step : ℕ) → ℕ
base_by [] step = 0
base_by (banks ∷ later) step =
    if came_by (get_or banks 0 no_bank).retired step then suc (base_by later step) else 0

-- the base just after a step: the first position that was not retired by then
abbrev pub base_at : Object → (step : ℕ) → ℕ
base_at object step = base_by object.banks step

-- how many positions in a row, from the first on, are retired
abbrev pub retired_first : List (List Bank) → ℕ
retired_first [] = 0
retired_first (banks ∷ later) = if is_some (get_or banks 0 no_bank).retired then suc (retired_first later) else 0

-- the base of the object: the first position that is not retired
abbrev pub base_of : Object → ℕ
base_of object = retired_first object.banks
