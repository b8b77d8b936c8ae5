-- How a call goes on once its phase is complete.
use Rattle.std.specs.Prelude.{◌≡◌, ℕ, suc, Bool, true, false, if◌then◌else◌, List, [], map}
use Rattle.std.specs.Prelude.{Option, Some, slice_set}
use Rattle.bank.specs.declared.kind.Kind.{Kind}
use Rattle.encoder.specs.Fragment.{fragment}
use Rattle.layout.specs.Layout.{Layout}
use Rattle.decoder.specs.Decoded.{IsDecoded}
use Rattle.piece.specs.declared.piece.Piece.{Piece}
use Rattle.record.specs.Sending.{fragment_piece, requests}
use Rattle.call.specs.declared.next.Next.{Next}
use Rattle.call.specs.declared.next.Next.TheVariants as next
use Rattle.call.specs.Call.{OpenCall as Machine}
use Rattle.call.specs.Limits.{is_within_limits}
use Rattle.call.specs.Next.{is_unsettled, next_of}
use Rattle.call.specs.Steps.{entered, phase_next}
use Rattle.letter.specs.declared.letter.Letter.{Letter}
use Rattle.letter.specs.declared.telling.Telling.{Telling}
use Rattle.local_object.specs.declared.progress.Ended.{Ended}
use Rattle.local_object.specs.Coding.{call_value}
use Rattle.local_object.specs.Doing.{IsOutcome}
use Rattle.local_object.specs.Ended.{all_told}
use Rattle.local_object.specs.Events.{LocalEvent, taking_here}
use Rattle.local_object.specs.Outcomes.{Outcome, on_open_call, silent}
use Rattle.mail.specs.declared.message.Message.{Message}
use Rattle.open_calls.specs.OpenCalls.{open_call, with_open}
use Rattle.local_object.specs.Letters.{letter_in}
use Rattle.local_object.specs.Pieces.{first_pieces}
use Rattle.local_object.specs.Local.{LocalObject, Place, layout_in, heard_place}

-- a call that fetched and has settled nothing is not answered
abbrev pub unless_unsettled : Machine → Next → Next
unless_unsettled call next.Answer = if is_unsettled call then next.Wait else next.Answer
unless_unsettled call step = step

-- what a call does next here: it waits if the numbers of its next position or tag have no successors
abbrev pub next_here : Machine → Next
next_here call = if is_within_limits call then unless_unsettled call (next_of call) else next.Wait

-- whether a call that does this next begins anew, since its complete fetch lacks pieces
abbrev pub is_restart : Next → Bool
is_restart (next.Restart kind position) = true
is_restart _ = false

-- a call that would begin anew waits, unless `again` is true
abbrev pub unless_again : (again : Bool) → Next → Next
unless_again again (next.Restart kind position) = if again then next.Restart kind position else next.Wait
unless_again again step = step

-- what a call does next here, if it begins anew only if `again` is true
abbrev pub next_if : (again : Bool) → Machine → Next
next_if again call = unless_again again (next_here call)

-- the given fact holds, unless this next step of a call is to wait
abbrev pub UnlessWaiting : Next → Type 0 → Type 0
UnlessWaiting next.Wait fact = Unit {0}
UnlessWaiting _ fact = fact

-- the letters that a call sends as it begins its next phase at a position with this layout
abbrev pub next_letters : List Place → (start : ℕ) → Machine → Kind → (position : ℕ) → Layout → List Letter
next_letters places start call kind position layout =
    map (letter_in places start false layout)
    (requests call.id (suc call.phase.number) kind position layout.members 0
    (fragment_piece fragment layout (call_value call)))

-- the call at an index began its next phase at a position of which the node has heard, and these letters were sent
pub record IsAdvanced (places : List Place) (start : ℕ) (old : List Machine) (call : Machine) (index : ℕ) (kind : Kind)
    (position : ℕ) (new : List Machine) (letters : List Letter) : Type 0 where
  pub layout : Layout
  pub known : layout_in (heard_place places position) ≡ Some layout
  pub calls : new ≡ slice_set old index (entered call (phase_next call kind position layout 0))
  pub sent : letters ≡ next_letters places start call kind position layout

-- the call at an index began its next phase, if it could; otherwise nothing changed, and nothing was sent
abbrev pub IsAdvancedIf : (can : Bool) → List Place → (start : ℕ) → (old : List Machine) → Machine → (index : ℕ) →
    Kind → (position : ℕ) → (new : List Machine) → (letters : List Letter) → Type 0
IsAdvancedIf true places start old call index kind position new letters =
    IsAdvanced places start old call index kind position new letters
IsAdvancedIf false places start old call index kind position new letters = (new ≡ old) × (letters ≡ [])

-- the value is decoded from these k pieces, and no other value is decoded from them
pub record IsOnlyValue (k : ℕ) (pieces : List Piece) (value : List ℕ) : Type 0 where
  pub decoded : IsDecoded (record { k = k; pieces = pieces; value = value })
  pub only : (other : List ℕ) → IsDecoded (record { k = k; pieces = pieces; value = other }) → other ≡ value

-- the value that a call fetched: the only one that is decoded from the first k pieces of its replies, by the layout of
-- its phase's position
pub record IsFetchedValue (places : List Place) (call : Machine) (value : List ℕ) : Type 0 where
  pub layout : Layout
  pub known : layout_in (heard_place places call.phase.position) ≡ Some layout
  pub decoded : IsDecoded
      (record { k = layout.k; pieces = first_pieces layout.k call.phase.replies; value = value })
  pub only : (other : List ℕ) →
      IsDecoded (record { k = layout.k; pieces = first_pieces layout.k call.phase.replies; value = other }) →
      other ≡ value

-- what the node keeps after a call takes the message that names it, with which its member told this, if the node
-- carries out the call
abbrev pub taken_here : LocalObject → Message → Option Telling → Outcome
taken_here local message told =
    on_open_call local (open_call local.calls message.call) (λ call. silent (taking_here local call message told))

-- what the node keeps after the call with this id settles a value, if the node carries out the call
abbrev pub settled_here : LocalObject → (id : ℕ) → (value : List ℕ) → Outcome
settled_here local id value =
    on_open_call local (open_call local.calls id)
    (λ call. silent (record local { calls = with_open (record call { settled = Some value }) local.calls }))

-- some events may happen, after which the node keeps this, has sent these letters, and has answered these calls
pub record IsSomeOutcome (old new : LocalObject) (letters : List Letter) (ended : List Ended) : Type 0 where
  pub events : List LocalEvent
  pub done : IsOutcome old events new letters
  pub told : ended ≡ all_told fragment old events
