-- The contracts that docs/trusted.md lists do not depend on this file; other contracts and proofs do.
-- Calls that read the sequence of layouts at a start, as the machines that carry them out, and starts that can grow.
use Rattle.std.specs.Prelude.{◌≡◌, ℕ, suc, ◌+◌, ◌^◌, ◌&&◌, not, Bool, true, false, is_some, nat_lt, List, [], map}
use Rattle.std.specs.Prelude.{Some, slice_set}
use Rattle.layout.specs.Layout.{Layout}
use Rattle.bank.specs.Bank.{empty_piece}
use Rattle.bank.specs.declared.kind.Kind.{Kind}
use Rattle.bank.specs.declared.kind.Kind.TheVariants.{Next}
use Rattle.record.specs.declared.stage.Stage.TheVariants.{ReadNext}
use Rattle.record.specs.Legal.{is_move}
use Rattle.record.specs.Sending.{requests}
use Rattle.record.specs.Steps.{new_phase}
use Rattle.call.specs.Call.{OpenCall as Machine, reached}
use Rattle.letter.specs.declared.letter.Letter.{Letter}
use Rattle.local_object.specs.Going.{IsAdvancedIf}
use Rattle.local_object.specs.Letters.{letter_in}
use Rattle.local_object.specs.Outcomes.{is_read}
use Rattle.local_object.specs.Local.{LocalObject, Place, heard_place, layout_here, layout_in}
use Rattle.local_object.specs.Starting.{first_number}
use Rattle.local_object.specs.Taking.{can_begin, is_read_begin}

-- the call as it begins to read the sequence of layouts at a position with this layout, in a phase with this number
abbrev pub reading_machine : Machine → (number position : ℕ) → Layout → Machine
reading_machine call number position layout = record call {
  stage = ReadNext position position;
  phase = new_phase call.id number Next position layout 0;
}

-- the letters of a phase that reads the sequence of layouts at the node's start, which is this position with this
-- layout
abbrev pub reading_letters : List Place → (asks : Bool) → (id number position : ℕ) → Layout → List Letter
reading_letters places asks id number position layout =
    map (letter_in places position asks layout) (requests id number Next position layout.members 0 empty_piece)

-- the call at an index reads at a position of which the node has heard, in a phase with this number, and these letters
-- were sent
pub record IsReadAt (places : List Place) (old : List Machine) (call : Machine) (index number position : ℕ)
    (new : List Machine) (letters : List Letter) : Type 0 where
  pub layout : Layout
  pub known : layout_in (heard_place places position) ≡ Some layout
  pub calls : new ≡ slice_set old index (reading_machine call number position layout)
  pub sent : letters ≡ reading_letters places (is_read call.kind) call.id number position layout

-- the call at an index reads at a position, if it could; otherwise nothing changed, and nothing was sent
abbrev pub IsReadAtIf : (can : Bool) → List Place → (old : List Machine) → Machine → (index number position : ℕ) →
    (new : List Machine) → (letters : List Letter) → Type 0
IsReadAtIf true places old call index number position new letters =
    IsReadAt places old call index number position new letters
IsReadAtIf false places old call index number position new letters = (new ≡ old) × (letters ≡ [])

-- the call at an index reads at a position, in a phase whose number is higher by `more` than that of its phase before,
-- if there is such a number
abbrev pub IsReadLater : List Place → (old : List Machine) → Machine → (index more position : ℕ) →
    (new : List Machine) → (letters : List Letter) → Type 0
IsReadLater places old call index more position new letters =
    IsReadAtIf (nat_lt (call.phase.number + more) (2 ^ 32)) places old call index (call.phase.number + more) position
    new letters

-- the call at an index began anew, if it could: if `reads` is true, it reads the sequence of layouts at the start,
-- unless it is a move; and otherwise it began a phase of this kind at this position
abbrev pub IsBegunAnewIf : (reads : Bool) → List Place → (old : List Machine) → Machine → (index start : ℕ) → Kind →
    (position : ℕ) → (new : List Machine) → (letters : List Letter) → Type 0
IsBegunAnewIf true places old call index start kind position new letters =
    IsReadAtIf (not (is_move call.kind) && nat_lt (call.phase.number + first_number start) (2 ^ 32)) places old call
    index (call.phase.number + first_number start) start new letters
IsBegunAnewIf false places old call index start kind position new letters =
    IsAdvancedIf (can_begin places call kind position) places start old call index kind position new letters

-- the call at an index began anew, if it could
abbrev pub IsBegunAnew : List Place → (old : List Machine) → Machine → (index start : ℕ) → Kind → (position : ℕ) →
    (new : List Machine) → (letters : List Letter) → Type 0
IsBegunAnew places old call index start kind position new letters =
    IsBegunAnewIf (is_read_begin (reached call)) places old call index start kind position new letters

-- whether the node has heard of the position after its start, and numbers of phases are left for calls that begin there
abbrev pub can_grow : LocalObject → Bool
can_grow local = is_some (layout_here local (suc local.start)) && nat_lt (local.start + 1) (2 ^ 31)
