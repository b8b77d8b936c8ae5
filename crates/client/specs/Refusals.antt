-- The contracts that docs/trusted.md lists do not depend on this file; other contracts and proofs do.
-- Why a call or a move that has begun stays open: a round of it is refused in some state of the store.
use Rattle.std.specs.Prelude.{◌≡◌, ◌⊎◌, ℕ, ◌<◌, ◌≤◌, Bool, true, false, List, [], length, Option, Some, None}
use Rattle.tag.specs.declared.refusal.Refusal.{Refusal}
use Rattle.tag.specs.declared.refusal.Refusal.TheVariants.{NoMemory, NoObject, NoCall, NotNow, Full, Stuck, GaveUp}
use Rattle.tag.specs.declared.refusal.Refusal.TheVariants.{Collected, Stranger}
use Rattle.record.specs.Steps.{Step}
use Rattle.record.specs.declared.stage.Want.TheVariants as want
use Rattle.register.specs.Causes.{number_cause}
use Rattle.cluster.specs.Causes.{object_cause}
use Rattle.cluster.specs.Cluster.{Cluster, if_named}
use Rattle.driver.specs.Choices.{choices}
use Rattle.driver.specs.Driver.{wanted, turn_cause, IsDue, IsNotAnswered}
use Rattle.driver.specs.Rounds.{IsToEncode, IsToDecode}
use Rattle.locked_steps.specs.Course.{IsStateOf}
use Rattle.locked_steps.specs.Moves.{AdminState, Moving}
use Rattle.locked_steps.specs.Orders.{has_move}
use Rattle.locked_steps.specs.Rounds.{hand_cause}
use Rattle.locked_steps.specs.Seats.{SeatState, Pending, AddsPending}
use Rattle.locked_steps.specs.declared.call_record.Begin.{Begin}
use Rattle.locked_steps.specs.declared.handed_in.HandedIn.{HandedIn}
use Rattle.locked_steps.specs.declared.handed_in.HandedIn.TheVariants as hand
use Rattle.client.specs.Locked.{BeginsMoveThen}

-- a chooser that may choose anything
abbrev pub Anyhow : Unit {0} → ℕ → ℕ → Unit {0} → Type 0
Anyhow before count answer after = Unit {0}

module _ (name : List ℕ) (call : ℕ) where
  -- the step that comes next for the call meets a limit
  abbrev pub IsLimited : Cluster → Type 0
  IsLimited cluster =
      (again : Bool)
      × ((step : Step)
      × (IsDue Anyhow name call cluster again tt tt step × (turn_cause cluster name call step ≡ Some Full)))

  -- the call wants replies, and none of its messages can be handled
  abbrev pub IsWaitingWithoutMessages : Cluster → Type 0
  IsWaitingWithoutMessages cluster =
      (wanted cluster name call ≡ Some want.Replies)
      × (if_named cluster name (λ object. Some (choices cluster call object)) ≡ Some [])

  -- why a round of the call is refused in this state, if nothing is handed in
  abbrev pub IsHeldUp : Cluster → Refusal → Type 0
  IsHeldUp cluster GaveUp = IsNotAnswered cluster name call
  IsHeldUp cluster Stuck = IsWaitingWithoutMessages cluster
  IsHeldUp cluster Collected = wanted cluster name call ≡ Some want.Again
  IsHeldUp cluster Full = IsLimited cluster
  IsHeldUp cluster NotNow = wanted cluster name call ≡ Some want.Done
  IsHeldUp cluster NoCall = object_cause cluster name (λ object. number_cause object call) ≡ Some NoCall
  IsHeldUp cluster NoObject = object_cause cluster name (λ object. number_cause object call) ≡ Some NoObject
  IsHeldUp cluster NoMemory = Unit {0}
  IsHeldUp cluster _ = ⊥

module _ (first : Cluster) (name : List ℕ) (call : ℕ) where
  -- what is handed in, if anything, was encoded or decoded for the call, as it wanted in some state of the store
  abbrev pub IsCodedFor : HandedIn → Type 0
  IsCodedFor hand.Empty = Unit {0}
  IsCodedFor (hand.Coded coded) =
      (cluster : Cluster) × (IsStateOf first cluster × IsToEncode cluster name call coded.k coded.n coded.value)
  IsCodedFor (hand.Decoded decoded) =
      (cluster : Cluster)
      × (IsStateOf first cluster × IsToDecode cluster name call decoded.k (length decoded.value) decoded.pieces)

  -- why a round of the call is refused in this state: for a cause above, or for that of what was coded for the call
  abbrev pub IsRefusedIn : Cluster → Refusal → Type 0
  IsRefusedIn cluster r =
      IsHeldUp name call cluster r
      ⊎ ((h : HandedIn) × (IsCodedFor h × (hand_cause cluster name call h ≡ Some r)))

-- what is handed in was coded for the pending call; if none is pending, it may be anything
abbrev pub IsPendingHand : (first : Cluster) → Option Pending → HandedIn → Type 0
IsPendingHand first None h = Unit {0}
IsPendingHand first (Some p) h = IsCodedFor first p.name p.kept.call h

-- what is handed in was coded for the pending move; if none is pending, it may be anything
abbrev pub IsMovingHand : (first : Cluster) → Option Moving → HandedIn → Type 0
IsMovingHand first None h = Unit {0}
IsMovingHand first (Some m) h = IsCodedFor first m.name m.call h

module _ (first : Cluster) (cluster : Cluster) where
  -- why a round of a pending call is refused in this state; NoCall if none is pending
  abbrev pub IsPendingRefused : Option Pending → Refusal → Type 0
  IsPendingRefused None r = r ≡ NoCall
  IsPendingRefused (Some p) r = IsRefusedIn first p.name p.kept.call cluster r

  -- why a round of a seat's call is refused in this state; Stranger exactly if the seat is ahead of this state
  abbrev pub IsSeatRefused : SeatState → Refusal → Type 0
  IsSeatRefused s r =
      ((r ≡ Stranger) × (cluster.counter < s.floor))
      ⊎ ((s.floor ≤ cluster.counter) × IsPendingRefused s.pending r)

  -- why a round of a pending move is refused in this state; NoCall if none is pending, or the move is no call there
  abbrev pub IsMovingRefused : Option Moving → Refusal → Type 0
  IsMovingRefused None r = r ≡ NoCall
  IsMovingRefused (Some m) r =
      ((r ≡ NoCall) × (has_move cluster m ≡ false))
      ⊎ ((has_move cluster m ≡ true) × IsRefusedIn first m.name m.call cluster r)

-- in some state of a store that was opened with `first`, a round is refused with this refusal, as `refused` says
abbrev pub IsRefusedThen : {S : Type 0} → (first : Cluster) → (Cluster → S → Refusal → Type 0) → S → Refusal → Type 0
IsRefusedThen first refused s r = (cluster : Cluster) × (IsStateOf first cluster × refused cluster s r)

-- in some state of the store a round of the seat's call is refused so
abbrev pub SeatIsRefused : (first : Cluster) → SeatState → Refusal → Type 0
SeatIsRefused first s r = IsRefusedThen first (λ cluster seat e. IsSeatRefused first cluster seat e) s r

-- in some state of the store a round of the administrator's move is refused so
abbrev pub MoveIsRefused : (first : Cluster) → AdminState → Refusal → Type 0
MoveIsRefused first a r = IsRefusedThen first (λ cluster admin e. IsMovingRefused first cluster admin.moving e) a r

-- a seat without a call with this floor is refused so: NoCall in some state that the seat is not ahead of, or Stranger
-- in some state that it is ahead of
abbrev pub IsFreeRefused : (first : Cluster) → (floor : ℕ) → Refusal → Type 0
IsFreeRefused first floor r =
    (cluster : Cluster)
    × (IsStateOf first cluster
    × (((r ≡ NoCall) × (floor ≤ cluster.counter)) ⊎ ((r ≡ Stranger) × (cluster.counter < floor))))

-- the seat gets one more record, of a call that begins in some state of the store and stays pending, since in some
-- state a round of it is refused so
abbrev pub LeavesPending : (first : Cluster) → SeatState → (name : List ℕ) → Begin → SeatState → Refusal → Type 0
LeavesPending first s name what new r = AddsPending first s name what new × SeatIsRefused first new r

-- a move to this layout begins in some state of the store and stays open, since in some state a round of it is refused
-- so
abbrev pub LeavesMoving : (first : Cluster) → AdminState → (name : List ℕ) → (layout : ℕ) → AdminState → Refusal
    → Type 0
LeavesMoving first old name layout new r = BeginsMoveThen first old name layout new × MoveIsRefused first new r
