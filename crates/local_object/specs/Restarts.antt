-- What a node keeps of an object where it stops and starts again.
use Rattle.std.specs.Prelude.{◌≡◌, ◌≤◌, ℕ, [], Some, IsSome, slice_get}
use Rattle.std.specs.List.{filter}
use Rattle.layout.specs.Layout.{Layout}
use Rattle.record.specs.Legal.{is_move}
use Rattle.local_object.specs.Local.{LocalObject, layout_here, bank_here}

-- what a node keeps after it has stopped and started again from its log: its moves; the banks that layouts give it (one
-- that was only opened may not be there); the layouts of some positions, among them position 0 and, if it moves
-- objects, all that it had heard of; a start that is not later than the one from before; and nothing of what its calls
-- were told
pub record IsKeptHere (moves : Type 0) (before after : LocalObject) : Type 0 where
  pub node : after.node ≡ before.node
  pub delta : after.delta ≡ before.delta
  pub start : after.start ≤ before.start
  pub layouts : (position : ℕ) (layout : Layout) → layout_here after position ≡ Some layout →
      layout_here before position ≡ Some layout
  pub first : IsSome (layout_here after 0)
  pub banks : (position member : ℕ) (layout : Layout) → layout_here before position ≡ Some layout →
      slice_get layout.members member ≡ Some before.node →
      bank_here after position member ≡ bank_here before position member
  pub reports : after.reports ≡ []
  pub calls : after.calls ≡ filter (λ call. is_move call.kind) before.calls
  pub mover : moves → (position : ℕ) (layout : Layout) → layout_here before position ≡ Some layout →
      layout_here after position ≡ Some layout
