-- Letters that a node sends again.
use Rattle.std.specs.Prelude.{◌≡◌, ℕ, if◌then◌else◌, List, [], Option, None, Some, slice_get}
use Rattle.layout.specs.Layout.{Layout}
use Rattle.record.specs.Fragments.{Code}
use Rattle.open_calls.specs.OpenCalls.{NodeCall, open_call}
use Rattle.letter.specs.declared.letter.Letter.{Letter}
use Rattle.local_object.specs.Coding.{is_sendable}
use Rattle.local_object.specs.Local.{LocalObject, layout_here}
use Rattle.local_object.specs.Events.{pieces_here}
use Rattle.local_object.specs.Outcomes.{phase_letters}
use Rattle.local_object.specs.May.{IsCarriedOut}
use Rattle.local_object.specs.Sent.{asks_piece, due_again}
use Rattle.local_object.specs.Taking.{machine_of}

-- the letters of a call's current phase, at a position with this layout
abbrev pub current_letters : Code → LocalObject → NodeCall → Layout → List Letter
current_letters fragment local call layout =
    phase_letters local (asks_piece call.kind call.stage) call.id call.phase.number call.phase.kind
    call.phase.position layout (pieces_here fragment layout call)

-- the letter may be sent again: it belongs to the current phase of a call that the node carries out, with the layout
-- that the node has heard of for the phase's position
pub record IsResent (fragment : Code) (local : LocalObject) (letter : Letter) : Type 0 where
  pub id : ℕ
  pub call : NodeCall
  pub carried : IsCarriedOut local id call
  pub layout : Layout
  pub known : layout_here local call.phase.position ≡ Some layout
  pub place : ℕ
  pub at : slice_get (current_letters fragment local call layout) place ≡ Some letter

-- the letters that a call sends again at a position with this layout: those of its current phase to the members whose
-- replies are not recorded, or to all members if the phase is a complete fetch that lacks pieces; none where the layout
-- is not known, or the call's value is too long to be encoded
abbrev pub letters_again_at : Code → LocalObject → NodeCall → Option Layout → List Letter
letters_again_at fragment local call None = []
letters_again_at fragment local call (Some layout) =
    if is_sendable call.phase.kind (machine_of call)
    then due_again (machine_of call) (current_letters fragment local call layout) else []

-- the letters that a call sends again, at the position of its current phase; none if there is no call
abbrev pub letters_again_of : Code → LocalObject → Option NodeCall → List Letter
letters_again_of fragment local None = []
letters_again_of fragment local (Some call) =
    letters_again_at fragment local call (layout_here local call.phase.position)

-- the letters that the call with this id sends again
abbrev pub letters_again : Code → LocalObject → (id : ℕ) → List Letter
letters_again fragment local id = letters_again_of fragment local (open_call local.calls id)
