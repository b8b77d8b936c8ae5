-- The contracts that docs/trusted.md lists do not depend on this file; other contracts and proofs do.
-- When what a node keeps of an object is its part of a world, and when a letter was sent in the world.
use Rattle.std.specs.Prelude.{◌≡◌, ℕ, suc, ◌==◌, Some, IsSome, slice_get}
use Rattle.std.specs.List.{filter}
use Rattle.layout.specs.Layout.{Layout}
use Rattle.bank.specs.Bank.{Bank}
use Rattle.bank.specs.Floor.{remembered}
use Rattle.closed_bank.specs.ClosedBank.{IsClosedFor}
use Rattle.network.specs.Worlds.{World, known_layouts, member_bank}
use Rattle.network.specs.Premises.{WasSent}
use Rattle.starts.specs.Starts.{IsStart}
use Rattle.letter.specs.declared.letter.Letter.{Letter}
use Rattle.letter.specs.declared.start.Start.{Start}
use Rattle.local_object.specs.declared.kept_bank.KeptBank.{KeptBank}
use Rattle.local_object.specs.declared.kept_bank.KeptBank.TheVariants as kept
use Rattle.local_object.specs.Local.{LocalObject, layout_here, bank_here}

-- this is kept of a bank of the world: if it is open, the rows that may not be forgotten, as the world has them; if it
-- is closed, a closed bank that belongs to it
abbrev pub IsKeptOf : (whole : Bank) → KeptBank → Type 0
IsKeptOf whole (kept.Open bank) = remembered whole ≡ bank
IsKeptOf whole (kept.Closed closed) = IsClosedFor whole closed

-- what the node keeps of the object is its part of the world: it has the delta of its cluster file; its start is one
-- of the world; it has heard of position 0, and the layouts that it has heard of are the world's; it keeps each bank
-- that a layout gives it, open or closed; its calls are those that it carries out in the world; and if it moves
-- objects, it has heard of all positions
pub record IsPartOf (world : World) (local : LocalObject) : Type 0 where
  pub delta : local.delta ≡ (world.files local.node).delta
  pub start : IsStart world local.start
  pub layouts : (position : ℕ) (layout : Layout) → layout_here local position ≡ Some layout →
      slice_get (known_layouts world local.node) position ≡ Some layout
  pub first : IsSome (layout_here local 0)
  pub banks : (position member : ℕ) (layout : Layout) →
      slice_get (known_layouts world local.node) position ≡ Some layout →
      slice_get layout.members member ≡ Some local.node →
      IsKeptOf (member_bank world position member) (bank_here local position member)
  pub calls : local.calls ≡ filter (λ call. call.node == local.node) world.calls
  pub mover : local.node ≡ (world.files local.node).mover → (position : ℕ) (layout : Layout) →
      slice_get (known_layouts world local.node) position ≡ Some layout → layout_here local position ≡ Some layout

-- a start of the world, with the world's layout of that position
pub record IsStartOf (world : World) (start : Start) : Type 0 where
  pub starts : IsStart world start.position
  pub layout : slice_get (known_layouts world 0) start.position ≡ Some start.layout

-- the letter was sent: its message was, its layouts are those of the world's positions, and the start that it tells, if
-- it tells one, is a start of the world
pub record WasSentAs (world : World) (letter : Letter) : Type 0 where
  pub sent : WasSent world letter.message
  pub layout : slice_get (known_layouts world 0) letter.message.position ≡ Some letter.layout
  pub next : (layout : Layout) → letter.next ≡ Some layout →
      slice_get (known_layouts world 0) (suc letter.message.position) ≡ Some layout
  pub start : (start : Start) → letter.start ≡ Some start → IsStartOf world start
