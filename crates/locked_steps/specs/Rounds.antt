-- The contracts that docs/trusted.md lists do not depend on this file; other contracts and proofs do.
-- What a round of a call does in a section.
use Rattle.std.specs.Prelude.{◌≡◌, ◌≢◌, ℕ, pred, ◌<◌, nat_lt, Bool, false, is_some, List, Option, Some, None}
use Rattle.tag.specs.Cause.{IsRefusalBy}
use Rattle.tag.specs.declared.refusal.Refusal.{Refusal}
use Rattle.tag.specs.declared.refusal.Refusal.TheVariants.{NoCall, NotNow, GaveUp}
use Rattle.record.specs.Steps.{Step}
use Rattle.record.specs.declared.stage.Want.{Want}
use Rattle.record.specs.declared.stage.Want.TheVariants as want
use Rattle.register.specs.Causes.{unless, supply_cause, settle_cause}
use Rattle.register.specs.View.{want_at}
use Rattle.cluster.specs.Cluster.{Cluster}
use Rattle.cluster.specs.Causes.{next, object_cause}
use Rattle.cluster.specs.Steps.{with_step}
use Rattle.driver.specs.Driver.{IsRefused}
use Rattle.locked_steps.specs.Moves.{asked_if}
use Rattle.driver.specs.Rounds.{MakesRound, MakesStep}
use Rattle.locked_steps.specs.Seats.{SeatState, Pending, SettlesPending, asked_once, unless_stranger}
use Rattle.driver.specs.declared.round.Round.{Round}
use Rattle.driver.specs.declared.round.Round.TheVariants as round
use Rattle.locked_steps.specs.declared.handed_in.HandedIn.{HandedIn}
use Rattle.locked_steps.specs.declared.handed_in.HandedIn.TheVariants as hand

-- why a call that wants this makes no round: there is no such call, it is answered, or no turns are left
abbrev pub open_cause : (turns : ℕ) → Option Want → Option Refusal
open_cause turns None = Some NoCall
open_cause turns (Some want.Done) = Some NotNow
open_cause turns (Some w) = unless (nat_lt 0 turns) GaveUp None

-- why the call of this number makes no round; NoObject if no object has this name
abbrev pub going_cause : Cluster → (name : List ℕ) → (call turns : ℕ) → Option Refusal
going_cause cluster name call turns = object_cause cluster name (λ object. open_cause turns (want_at object call))

-- why the pending call makes no round; NoCall if none is pending
abbrev pub pending_cause : Cluster → Option Pending → (turns : ℕ) → Option Refusal
pending_cause cluster None turns = Some NoCall
pending_cause cluster (Some p) turns = going_cause cluster p.name p.kept.call turns

-- why a seat's call makes no round; Stranger, before all others, if the seat is ahead of the cluster
abbrev pub round_cause : Cluster → SeatState → (turns : ℕ) → Option Refusal
round_cause cluster s turns = unless_stranger cluster s (pending_cause cluster s.pending turns)

-- why the cluster refuses what is handed in; nothing is refused if nothing is handed in
abbrev pub hand_cause : Cluster → (name : List ℕ) → (call : ℕ) → HandedIn → Option Refusal
hand_cause cluster name call hand.Empty = None
hand_cause cluster name call (hand.Coded coded) =
    object_cause cluster name (λ object. supply_cause (next cluster) object call coded)
hand_cause cluster name call (hand.Decoded decoded) =
    object_cause cluster name (λ object. settle_cause (next cluster) object call decoded)

-- this step is made, and the chooser is not asked
abbrev pub HandsIn : {C : Type 0} → (name : List ℕ) → Step
    → (old : Cluster) → (before : C) → (new : Cluster) → (after : C) → Round → Type 0
HandsIn name step old before new after round.Stepped = (new ≡ with_step old name step) × (after ≡ before)
HandsIn name step old before new after _ = ⊥

-- an encoded value came too late, since its phase is complete, and nothing changes
abbrev pub IsOvertaken : {C : Type 0} → Option Refusal
    → (old : Cluster) → (before : C) → (new : Cluster) → (after : C) → Type 0
IsOvertaken cause old before new after = (cause ≡ Some NotNow) × (new ≡ old) × (after ≡ before)

module _ {C : Type 0} (chooses : C → ℕ → ℕ → C → Type 0) where
  -- a round of a call: one of the driver if nothing is handed in; otherwise the call is supplied or settled
  abbrev pub Goes : (name : List ℕ) → (call : ℕ) → HandedIn → (again : Bool)
      → (old : Cluster) → (before : C) → (new : Cluster) → (after : C) → Round → Type 0
  Goes name call hand.Empty again old before new after r = MakesRound chooses name call again old before new after r
  Goes name call (hand.Coded coded) again old before new after round.Late =
      IsOvertaken (hand_cause old name call (hand.Coded coded)) old before new after
  Goes name call (hand.Coded coded) again old before new after r =
      HandsIn name (Step.Supply (pred call)) old before new after r
  Goes name call (hand.Decoded decoded) again old before new after r =
      HandsIn name (Step.Settle (pred call) decoded.value) old before new after r

  -- why a round that nothing above forbids is refused; an encoded value that came too late is not refused
  abbrev pub GoesNot : (name : List ℕ) → (call : ℕ) → HandedIn → (again : Bool) → (old : Cluster) → (before after : C)
      → Refusal → Type 0
  GoesNot name call hand.Empty again old before after r = IsRefused chooses name call old again before after r
  GoesNot name call (hand.Coded coded) again old before after r =
      (after ≡ before) × (r ≢ NotNow) × IsRefusalBy (hand_cause old name call (hand.Coded coded)) r
  GoesNot name call (hand.Decoded decoded) again old before after r =
      (after ≡ before) × IsRefusalBy (hand_cause old name call (hand.Decoded decoded)) r

  -- a round of a seat's pending call
  abbrev pub SeatGoes : Option Pending → HandedIn → (again : Bool) → (old : Cluster) → (before : C) → (new : Cluster)
      → (after : C) → Round → Type 0
  SeatGoes None h again old before new after r = ⊥
  SeatGoes (Some p) h again old before new after r = Goes p.name p.kept.call h again old before new after r

  -- why a round of a seat's pending call is refused, if nothing above forbids it
  abbrev pub SeatGoesNot : Option Pending → HandedIn → (again : Bool) → (old : Cluster) → (before after : C) → Refusal
      → Type 0
  SeatGoesNot None h again old before after r = ⊥
  SeatGoesNot (Some p) h again old before after r = GoesNot p.name p.kept.call h again old before after r

  -- a round of a seat's pending call that wants replies or to advance; nothing, if it wants something else
  abbrev pub SeatSteps : Option Pending → (old : Cluster) → (before : C) → (new : Cluster) → (after : C)
      → (is_made : Bool) → Type 0
  SeatSteps None old before new after b = ⊥
  SeatSteps (Some p) old before new after b = MakesStep chooses p.name p.kept.call old before new after b

-- the seat after a round: an answer settles its call, and any other round leaves the seat as it is
abbrev pub SeatKeeps : SeatState → Round → SeatState → Type 0
SeatKeeps s (round.Answered receipt) t = SettlesPending s.pending s receipt t
SeatKeeps s _ t = t ≡ s

-- the seat after a round; a round that asks again is counted
abbrev pub SeatLeaves : (again : Bool) → SeatState → Round → SeatState → Type 0
SeatLeaves again s r t = SeatKeeps (asked_if asked_once again s) r t

-- whether a round answered its call and returned a value
abbrev pub tells : Round → Bool
tells (round.Answered receipt) = is_some receipt.value
tells _ = false

-- if the round answered its call: the receipt has its number and the number of the next step, and `copy` is a second
-- copy of its value
abbrev pub Copies : Cluster → (call : ℕ) → Round → Option (List ℕ) → Type 0
Copies old call (round.Answered receipt) copy =
    (copy ≡ receipt.value) × (receipt.called < receipt.answered) × (receipt.call ≡ call)
    × (receipt.answered ≡ next old)
Copies old call _ copy = Unit {0}
