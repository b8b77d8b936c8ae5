-- The contracts that docs/trusted.md lists do not depend on this file; other contracts and proofs do.
-- What the administrator does in one section.
use Rattle.std.specs.Prelude.{◌≡◌, ℕ, suc, not, ◌&&◌, ◌==◌, Bool, true, false, is_some, List, length}
use Rattle.std.specs.Prelude.{Option, Some, None}
use Rattle.tag.specs.declared.refusal.Refusal.{Refusal}
use Rattle.tag.specs.declared.refusal.Refusal.TheVariants.{NoCall, MovePending}
use Rattle.record.specs.Legal.{is_move}
use Rattle.record.specs.Records.{Call}
use Rattle.record.specs.Steps.{Step}
use Rattle.register.specs.Causes.{call_at, unless}
use Rattle.register.specs.Retiring.{retire_cause}
use Rattle.cluster.specs.Cluster.{Cluster, if_named, named, place_of}
use Rattle.cluster.specs.Causes.{next, object_cause, layout_cause, create_cause, server_cause, moving_cause}
use Rattle.cluster.specs.Steps.{with_step, with_layout, with_server, created, moved}
use Rattle.locked_steps.specs.Moves.{Moving, AdminState, EndsCall, asked_if, has_asked, move_receipt, ordered_by}
use Rattle.call.specs.declared.receipt.Receipt.{Receipt}
use Rattle.locked_steps.specs.Seats.{call_count}
use Rattle.locked_steps.specs.declared.admin.Order.{Order}
use Rattle.locked_steps.specs.declared.admin.Order.TheVariants as order
use Rattle.driver.specs.Rounds.{MakesStep}
use Rattle.driver.specs.declared.round.Round.{Round}
use Rattle.driver.specs.declared.round.Round.TheVariants as round
use Rattle.locked_steps.specs.declared.handed_in.HandedIn.{HandedIn}
use Rattle.locked_steps.specs.Rounds.{going_cause, Goes, GoesNot}

-- the cluster after an order is carried out
abbrev pub ordered : Cluster → Order → Cluster
ordered cluster (order.AddLayout layout) = with_layout cluster layout
ordered cluster (order.Create name layout delta) = created cluster name.now layout delta
ordered cluster (order.SetServer server up) = with_server cluster server up

-- the number of the layout that an order adds; none for other orders
abbrev pub ordered_id : Cluster → Order → Option ℕ
ordered_id cluster (order.AddLayout layout) = Some (length cluster.layouts)
ordered_id cluster _ = None

-- why an order is not carried out
abbrev pub order_cause : Cluster → Order → Option Refusal
order_cause cluster (order.AddLayout layout) = layout_cause cluster layout
order_cause cluster (order.Create name layout delta) = create_cause cluster name.now layout
order_cause cluster (order.SetServer server up) = server_cause cluster server

-- the cluster after the base of the object of this name is retired
abbrev pub retired : Cluster → (name : List ℕ) → Cluster
retired cluster name = with_step cluster name Step.Retire

-- why this position of the object of this name is not retired
abbrev pub retiring_cause : Cluster → (name : List ℕ) → (position : ℕ) → Option Refusal
retiring_cause cluster name position =
    object_cause cluster name (λ object. retire_cause (next cluster) object position)

-- why the administrator does not begin a move of the object of this name
abbrev pub begin_move_cause : Cluster → Option Moving → (name : List ℕ) → (id : ℕ) → Option Refusal
begin_move_cause cluster pending name id =
    object_cause cluster name (λ object. unless (not (is_some pending)) MovePending (moving_cause cluster id object))

-- the administrator after it begins a move to the layout of this number
abbrev pub move_begun : Cluster → AdminState → (name : List ℕ) → (id : ℕ) → AdminState
move_begun cluster a name id =
    record (ordered_by a (moved cluster name id)) {
      moving = Some (record {
        name = name;
        object = place_of cluster.objects name;
        call = suc (call_count (named cluster.objects name));
        called = next cluster;
      });
    }

-- whether there is a call, and it is a move that began at this step
abbrev pub is_move_begun : Option Call → (step : ℕ) → Bool
is_move_begun None step = false
is_move_begun (Some call) step = is_move call.kind && call.called == step

-- whether the cluster has this move: its object is at its place, and the call of its number is a move that began then
abbrev pub has_move : Cluster → Moving → Bool
has_move cluster m =
    place_of cluster.objects m.name == m.object
    && is_move_begun (if_named cluster m.name (λ object. call_at object m.call)) m.called

-- whether a move is pending and the cluster has it
abbrev pub has_pending_move : Cluster → Option Moving → Bool
has_pending_move cluster None = false
has_pending_move cluster (Some m) = has_move cluster m

-- if the cluster has the pending move, the receipt is that of this move
abbrev pub IsReceiptOfMove : Cluster → Option Moving → Receipt → Type 0
IsReceiptOfMove cluster None receipt = Unit {0}
IsReceiptOfMove cluster (Some m) receipt = has_move cluster m ≡ true → receipt ≡ move_receipt m receipt.answered

-- what a round of the pending move answers, if it answers
abbrev pub AnswersMove : Cluster → Option Moving → Round → Type 0
AnswersMove cluster pending (round.Answered receipt) = IsReceiptOfMove cluster pending receipt
AnswersMove cluster pending _ = Unit {0}

-- why no round of the pending move is made; NoCall if none is pending
abbrev pub move_cause_of : Cluster → Option Moving → (turns : ℕ) → Option Refusal
move_cause_of cluster None turns = Some NoCall
move_cause_of cluster (Some m) turns = going_cause cluster m.name m.call turns

module _ {C : Type 0} (chooses : C → ℕ → ℕ → C → Type 0) where
  -- a round of the pending move
  abbrev pub MoveGoes : Option Moving → HandedIn → (again : Bool) → (old : Cluster) → (before : C) → (new : Cluster)
      → (after : C) → Round → Type 0
  MoveGoes None h again old before new after r = ⊥
  MoveGoes (Some m) h again old before new after r = Goes chooses m.name m.call h again old before new after r

  -- why a round of the pending move is refused, if no cause above forbids the round
  abbrev pub MoveGoesNot : Option Moving → HandedIn → (again : Bool) → (old : Cluster) → (before after : C) → Refusal
      → Type 0
  MoveGoesNot None h again old before after r = ⊥
  MoveGoesNot (Some m) h again old before after r = GoesNot chooses m.name m.call h again old before after r

  -- a round of the pending move that wants replies or to advance; nothing, if it wants something else
  abbrev pub MoveSteps : Option Moving → (old : Cluster) → (before : C) → (new : Cluster) → (after : C)
      → (is_made : Bool) → Type 0
  MoveSteps None old before new after b = ⊥
  MoveSteps (Some m) old before new after b = MakesStep chooses m.name m.call old before new after b

-- the administrator after a round: an answer ends its move, and any other round leaves it as it is
abbrev pub RoundLeaves : AdminState → Round → AdminState → Type 0
RoundLeaves a (round.Answered receipt) new = EndsCall a.moving a receipt new
RoundLeaves a _ new = new ≡ a

-- the administrator after a round; a round that asks again is counted
abbrev pub MoveLeaves : (again : Bool) → AdminState → Round → AdminState → Type 0
MoveLeaves again a r new = RoundLeaves (asked_if has_asked again a) r new
