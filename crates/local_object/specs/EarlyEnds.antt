-- Exactly when a node ends a call early, and with which value.
use Rattle.std.specs.Prelude.{◌≡◌, ℕ, Bool, true, false, List, [], ◌∷◌, Option, None, Some}
use Rattle.layout.specs.Layout.{Layout}
use Rattle.piece.specs.declared.piece.Piece.{Piece}
use Rattle.record.specs.declared.call.CallKind.{CallKind}
use Rattle.record.specs.declared.call.CallKind.TheVariants.{Read, Write, Move}
use Rattle.call.specs.Call.{OpenCall as Machine}
use Rattle.record.specs.Wants.{is_fetch}
use Rattle.open_calls.specs.OpenCalls.{NodeCall}
use Rattle.local_object.specs.declared.progress.Ended.{Ended}
use Rattle.local_object.specs.declared.report.Report.{Report}
use Rattle.local_object.specs.Early.{ends_at_once, ends_held, greatest_of}
use Rattle.local_object.specs.Events.{LocalEvent}
use Rattle.local_object.specs.Going.{IsFetchedValue, IsOnlyValue}
use Rattle.local_object.specs.Local.{LocalObject, Place, layout_here}
use Rattle.local_object.specs.May.{IsCarriedOut}
use Rattle.local_object.specs.Reports.{first_told}
use Rattle.local_object.specs.Taking.{IsOutcomeWithAnswers, machine_of}

-- a read that fetches or finalizes its tag has this value: the one that it settled, or else the one that it fetched
abbrev pub IsReadValue : List Place → Machine → (settled : Option (List ℕ)) → (value : List ℕ) → Type 0
IsReadValue places call (Some settled) value = value ≡ settled
IsReadValue places call None value = (is_fetch call.phase.kind ≡ true) × IsFetchedValue places call value

-- a call of this kind whose tag is held returns this: a read its value, and a write none
abbrev pub IsHeldValue : List Place → Machine → CallKind → (returned : Option (List ℕ)) → Type 0
IsHeldValue places call Read returned =
    (value : List ℕ) × (returned ≡ Some value) × IsReadValue places call call.settled value
IsHeldValue places call (Write value) returned = returned ≡ None
IsHeldValue places call Move returned = ⊥

-- the pieces of the greatest tag that the current phase of a call was told: the first k of them
abbrev pub pieces_told : Machine → Layout → List Report → List Piece
pieces_told call layout reports =
    first_told layout.k (greatest_of call reports) call.id call.phase.number reports

-- a call returns this if it ends early, since its tag is held, or else since it may end at once
abbrev pub IsEarlyValue : (held once : Bool) → List Place → Machine → Layout → List Report →
    (returned : Option (List ℕ)) → Type 0
IsEarlyValue true once places call layout reports returned = IsHeldValue places call call.kind returned
IsEarlyValue false true places call layout reports returned =
    (value : List ℕ) × (returned ≡ Some value) × IsOnlyValue layout.k (pieces_told call layout reports) value
IsEarlyValue false false places call layout reports returned = ⊥

-- a call returns this if it ends early, by the layout of its phase's position
abbrev pub EndsEarlyWith : List Place → Machine → Layout → List Report → (returned : Option (List ℕ)) → Type 0
EndsEarlyWith places call layout reports returned =
    IsEarlyValue (ends_held call layout reports) (ends_at_once call layout reports) places call layout reports returned

-- the call with this id ends early, and returns this
pub record CanEndEarly (local : LocalObject) (id : ℕ) (returned : Option (List ℕ)) : Type 0 where
  pub call : NodeCall
  pub carried : IsCarriedOut local id call
  pub layout : Layout
  pub known : layout_here local call.phase.position ≡ Some layout
  pub ends : EndsEarlyWith local.places (machine_of call) layout local.reports returned

-- the call with this id ended early if it could, and its client was told this; otherwise nothing changed
abbrev pub EndedIf : (old : LocalObject) → (id : ℕ) → (new : LocalObject) → Option Ended → Type 0
EndedIf old id new None = (new ≡ old) × ((returned : Option (List ℕ)) → CanEndEarly old id returned → ⊥)
EndedIf old id new (Some ended) = (returned : Option (List ℕ)) × CanEndEarly old id returned
    × IsOutcomeWithAnswers old (LocalEvent.EndEarly id returned ∷ []) new [] (ended ∷ [])
