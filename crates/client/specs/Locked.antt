-- The contracts that docs/trusted.md lists do not depend on this file; other contracts and proofs do.
-- What a call through the lock does in some state of the cluster. Other threads change the cluster before and after it.
use Rattle.std.specs.Prelude.{◌≡◌, ℕ, ◌+◌, Bool, List, length, Option, None, Result, MatchResult}
use Rattle.tag.specs.Refusal.{IsByCause, IsExactlyByCause}
use Rattle.tag.specs.Cause.{IsRefusalBy}
use Rattle.tag.specs.declared.refusal.Refusal.{Refusal}
use Rattle.layout.specs.Layout.{Layout}
use Rattle.call.specs.declared.receipt.Receipt.{Receipt}
use Rattle.cluster.specs.Accounts.{stored_all}
use Rattle.cluster.specs.Cluster.{Cluster}
use Rattle.cluster.specs.Causes.{layout_cause, create_cause, server_cause}
use Rattle.cluster.specs.Steps.{created, with_layout, with_server}
use Rattle.locked_steps.specs.Course.{IsStateOf}
use Rattle.locked_steps.specs.Moves.{AdminState, Ends, ordered_by}
use Rattle.locked_steps.specs.Messages.{Stirs, StirsNot, Disturbs, DisturbsNot}
use Rattle.locked_steps.specs.Orders.{begin_move_cause, move_begun, retired, retiring_cause}

module _ {C : Type 0} (first : Cluster) (chooses : C → ℕ → ℕ → C → Type 0) (name : List ℕ) (before : C) where
  -- in some state of the cluster the chosen message is served or taken, or none can be handled
  abbrev pub StirsThen : Bool → (after : C) → Type 0
  StirsThen b after =
      (old : Cluster) × (IsStateOf first old × ((new : Cluster) × Stirs chooses name old before b new after))

  -- in some state of the cluster no message is served or taken, for this reason
  abbrev pub StirsNotThen : (after : C) → Refusal → Type 0
  StirsNotThen after r = (old : Cluster) × (IsStateOf first old × StirsNot chooses name old before after r)

  -- in some state of the cluster the chosen message is lost or repeated, or none waits
  abbrev pub DisturbsThen : Bool → (after : C) → Type 0
  DisturbsThen b after =
      (old : Cluster) × (IsStateOf first old × ((new : Cluster) × Disturbs chooses name old before b new after))

  -- in some state of the cluster no message is lost or repeated, for this reason
  abbrev pub DisturbsNotThen : (after : C) → Refusal → Type 0
  DisturbsNotThen after r = (old : Cluster) × (IsStateOf first old × DisturbsNot chooses name old before after r)

-- in some state of the cluster an order is carried out, and the administrator keeps the cluster as the order left it;
-- or the order is refused there, by its cause or for want of memory, and the administrator is unchanged
abbrev pub CarriesOut : {T : Type 0} → (first : Cluster) → (cause : Cluster → Option Refusal) → (Cluster → Cluster)
    → AdminState → Result T Refusal → AdminState → Type 0
CarriesOut first cause makes old answer new =
    (cluster : Cluster)
    × (IsStateOf first cluster
    × (IsByCause (cause cluster) answer
    × MatchResult answer (λ x. new ≡ ordered_by old (makes cluster)) (λ r. new ≡ old)))

-- in some state of the cluster the layout is added and gets the next number, or it is refused
abbrev pub AddsLayoutThen : (first : Cluster) → AdminState → Layout → Result ℕ Refusal → AdminState → Type 0
AddsLayoutThen first old layout answer new =
    (cluster : Cluster)
    × (IsStateOf first cluster
    × (IsByCause (layout_cause cluster layout) answer
    × MatchResult answer
    (λ id. (id ≡ length cluster.layouts) × (new ≡ ordered_by old (with_layout cluster layout)))
    (λ r. new ≡ old)))

-- in some state of the cluster an object is created, or the creation is refused
abbrev pub CreatesThen : {T : Type 0} → (first : Cluster) → AdminState → (name : List ℕ) → (id : ℕ) → (delta : Option ℕ)
    → Result T Refusal → AdminState → Type 0
CreatesThen first old name id delta answer new =
    CarriesOut first (λ c. create_cause c name id) (λ c. created c name id delta) old answer new

-- in some state of the cluster this position of an object is retired, and all servers store this many bytes less; or
-- the retiring is refused, and never for want of memory
abbrev pub RetiresThen : (first : Cluster) → AdminState → (name : List ℕ) → (position : ℕ) → Result ℕ Refusal
    → AdminState → Type 0
RetiresThen first old name position answer new =
    (cluster : Cluster)
    × (IsStateOf first cluster
    × (IsExactlyByCause (retiring_cause cluster name position) answer
    × MatchResult answer
    (λ bytes. (stored_all (retired cluster name) + bytes ≡ stored_all cluster)
    × (new ≡ ordered_by old (retired cluster name)))
    (λ r. new ≡ old)))

-- in some state of the cluster a server goes up or down, or that is refused
abbrev pub SetsServerThen : {T : Type 0} → (first : Cluster) → AdminState → (server : ℕ) → (up : Bool)
    → Result T Refusal → AdminState → Type 0
SetsServerThen first old server up answer new =
    CarriesOut first (λ c. server_cause c server) (λ c. with_server c server up) old answer new

-- no move was pending; in some state of the cluster a move to this layout began, and it ended with this receipt
abbrev pub MovesThen : (first : Cluster) → AdminState → (name : List ℕ) → (layout : ℕ) → Receipt → AdminState → Type 0
MovesThen first old name layout receipt new =
    (old.moving ≡ None)
    × ((cluster : Cluster) × (IsStateOf first cluster × (begin_move_cause cluster old.moving name layout ≡ None)
    × Ends (move_begun cluster old name layout) receipt new))

-- no move was pending; in some state of the cluster a move to this layout began, and it stays open
abbrev pub BeginsMoveThen : (first : Cluster) → AdminState → (name : List ℕ) → (layout : ℕ) → AdminState → Type 0
BeginsMoveThen first old name layout new =
    (old.moving ≡ None)
    × ((cluster : Cluster) × (IsStateOf first cluster × (begin_move_cause cluster old.moving name layout ≡ None)
    × (new ≡ move_begun cluster old name layout)))

-- in some state of the cluster the move is refused with this refusal, by its cause or for want of memory
abbrev pub MovesNotThen : (first : Cluster) → AdminState → (name : List ℕ) → (layout : ℕ) → Refusal → Type 0
MovesNotThen first old name layout r =
    (cluster : Cluster)
    × (IsStateOf first cluster × IsRefusalBy (begin_move_cause cluster old.moving name layout) r)
