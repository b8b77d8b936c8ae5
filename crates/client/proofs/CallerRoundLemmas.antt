-- The rounds of a seat and of the administrator: what they hand out, and why they are refused.
use Rattle.std.proofs.Common.{◌≡◌, ◌⊎◌, ℕ, ◌≤◌, nat_le, Bool, true, false, inl, inr, Option, Some, None, refl, sym}
use Rattle.std.proofs.Common.{arith, Result, Ok, Err, IfErr}
use Rattle.std.specs.Prelude.{MatchResult}
use Rattle.std.proofs.lemmas.Bool.Decides.{nat_tests}
use Rattle.tag.specs.declared.refusal.Refusal.{Refusal}
use Rattle.tag.specs.declared.refusal.Refusal.TheVariants as refusal
use Rattle.register.specs.Causes.{unless}
use Rattle.cluster.specs.Cluster.{Cluster}
use Rattle.locked_steps.specs.Moves.{Moving}
use Rattle.locked_steps.specs.Orders.{MoveGoesNot, has_pending_move, move_cause_of}
use Rattle.locked_steps.specs.Rounds.{SeatGoesNot, pending_cause, round_cause}
use Rattle.locked_steps.specs.Seats.{SeatState, Pending}
use Rattle.locked_steps.specs.declared.handed_in.HandedIn.{HandedIn}
use Rattle.locked_steps.specs.declared.handed_in.HandedIn.TheVariants as hand
use Rattle.client.specs.Refusals.{IsMovingHand, IsMovingRefused, IsPendingHand, IsPendingRefused, IsSeatRefused}
use Rattle.client.proofs.RefusalCauseLemmas.{same_refusal, held_going, refused_goes}

-- what holds of a refusal, by the clause on each result
pub err_from : {T : Type 0} (r : Result T Refusal) (P : T → Type 0) (Q S : Refusal → Type 0) → MatchResult r P Q
    → ((e : Refusal) → Q e → S e) → IfErr r S
err_from (Ok x) P Q S holds use_it = tt
err_from (Err e) P Q S holds use_it = use_it e holds

-- nothing is handed in, whatever is pending
pub nothing_held : (first : Cluster) (p : Option Pending) → IsPendingHand first p hand.Empty
nothing_held first None = tt
nothing_held first (Some p) = tt

pub no_move_held : (first : Cluster) (m : Option Moving) → IsMovingHand first m hand.Empty
no_move_held first None = tt
no_move_held first (Some m) = tt

-- A seat

module _ (first cluster : Cluster) (turns : ℕ) where
  pending_refused : (p : Option Pending) (e : Refusal) → pending_cause cluster p turns ≡ Some e → IsPendingRefused first cluster p e
  pending_refused None e c = sym (same_refusal refusal.NoCall e c)
  pending_refused (Some p) e c = inl (held_going cluster p.name p.kept.call turns e c)

  seat_refused : (s : SeatState) (e : Refusal) → round_cause cluster s turns ≡ Some e → IsSeatRefused first cluster s e
  seat_refused s e c = pick (nat_le s.floor cluster.counter) refl c
    where
      pick : (b : Bool) → nat_le s.floor cluster.counter ≡ b → unless b refusal.Stranger (pending_cause cluster s.pending turns) ≡ Some e
          → IsSeatRefused first cluster s e
      pick true is c = inr (grind (arith, nat_tests, is), pending_refused s.pending e c)
      pick false is c = inl (sym (same_refusal refusal.Stranger e c), grind (arith, nat_tests, is))

  -- the seat has a pending call, and is not ahead of the cluster
  seat_goes : (s : SeatState) → round_cause cluster s turns ≡ None → (s.floor ≤ cluster.counter) × ((p : Pending) × (s.pending ≡ Some p))
  seat_goes s c = pick (nat_le s.floor cluster.counter) refl c
    where
      pending : (o : Option Pending) → s.pending ≡ o → pending_cause cluster o turns ≡ None → (p : Pending) × (s.pending ≡ Some p)
      pending None is c = absurd (cc)
      pending (Some p) is c = (p, is)

      pick : (b : Bool) → nat_le s.floor cluster.counter ≡ b → unless b refusal.Stranger (pending_cause cluster s.pending turns) ≡ None
          → (s.floor ≤ cluster.counter) × ((p : Pending) × (s.pending ≡ Some p))
      pick true is c = (grind (arith, nat_tests, is), pending s.pending refl c)
      pick false is c = absurd (cc)

module _ {C : Type 0} (chooses : C → ℕ → ℕ → C → Type 0) (first cluster : Cluster) (turns : ℕ) (before after : C) where
  pending_goes_not : (p : Option Pending) (h : HandedIn) (again : Bool) (e : Refusal) → IsPendingHand first p h
      → SeatGoesNot chooses p h again cluster before after e → IsPendingRefused first cluster p e
  pending_goes_not None h again e coded r = absurd r
  pending_goes_not (Some p) h again e coded r = refused_goes chooses p.name p.kept.call cluster before after first e again h coded r

  -- why a round of a seat is refused
  pub seat_stops : (s : SeatState) (h : HandedIn) (again : Bool) (e : Refusal) → IsPendingHand first s.pending h
      → ((round_cause cluster s turns ≡ Some e) × (after ≡ before))
      ⊎ ((round_cause cluster s turns ≡ None) × SeatGoesNot chooses s.pending h again cluster before after e)
      → IsSeatRefused first cluster s e
  seat_stops s h again e coded (inl c) = seat_refused first cluster turns s e c.0
  seat_stops s h again e coded (inr c) =
      inr ((seat_goes first cluster turns s c.0).0, pending_goes_not s.pending h again e coded c.1)

-- The administrator

module _ {C : Type 0} (chooses : C → ℕ → ℕ → C → Type 0) (first cluster : Cluster) (turns : ℕ) (before after : C) where
  -- why a round of a move that the cluster has is refused
  pub move_stops : (o : Option Moving) (h : HandedIn) (again : Bool) (e : Refusal) → IsMovingHand first o h
      → has_pending_move cluster o ≡ true
      → ((move_cause_of cluster o turns ≡ Some e) × (after ≡ before))
      ⊎ ((move_cause_of cluster o turns ≡ None) × MoveGoesNot chooses o h again cluster before after e)
      → IsMovingRefused first cluster o e
  move_stops None h again e coded has c = absurd (cc (has))
  move_stops (Some m) h again e coded has (inl c) = inr (has, inl (held_going cluster m.name m.call turns e c.0))
  move_stops (Some m) h again e coded has (inr c) =
      inr (has, refused_goes chooses m.name m.call cluster before after first e again h coded c.1)
