-- The contracts that docs/trusted.md lists do not depend on this file; other contracts and proofs do.
-- The administrator's state, and how an answered move changes it.
use Rattle.std.specs.Prelude.{◌≡◌, ℕ, ◌+◌, ◌%◌, ◌^◌, ◌<◌, Bool, true, false, refl, List, Option, Some, None}
use Rattle.std.specs.Coded.{Coded, code_by, coded×, coded_list, coded_option, coded_ℕ}
use Rattle.record.specs.declared.call.Operation.TheVariants as operation
use Rattle.call.specs.declared.receipt.Receipt.{Receipt}
use Rattle.cluster.specs.Cluster.{Cluster}
use Rattle.locked_steps.specs.declared.admin.PendingMove.{PendingMove}

-- the pending move: the name and the place of its object, its number, and the step that began it
pub record Moving : Type 0 where
  pub name : List ℕ
  pub object : ℕ
  pub call : ℕ
  pub called : ℕ

-- an administrator: its pending move, how many orders it carried out, moves that it began among them, how many rounds
-- of its moves asked again, and the cluster as the last order left it
pub record AdminState : Type 0 where
  pub moving : Option Moving
  pub orders : ℕ
  pub asked : ℕ
  pub left : Cluster

-- how a pending move is encoded: as the tuple of its parts
abbrev pub moving_code : Coded Moving
moving_code =
    code_by (List ℕ × (ℕ × (ℕ × ℕ))) (coded× (coded_list coded_ℕ) (coded× coded_ℕ (coded× coded_ℕ coded_ℕ)))
    (λ m. (m.name, (m.object, (m.call, m.called))))
    (λ p. record { name = p.0; object = p.1.0; call = p.1.1.0; called = p.1.1.1 }) (λ _. refl)

-- how an administrator is encoded: as the tuple of its parts
abbrev pub admin_code : Coded Cluster → Coded AdminState
admin_code cluster =
    code_by (Option Moving × (ℕ × (ℕ × Cluster)))
    (coded× (coded_option moving_code) (coded× coded_ℕ (coded× coded_ℕ cluster)))
    (λ a. (a.moving, (a.orders, (a.asked, a.left))))
    (λ p. record { moving = p.0; orders = p.1.0; asked = p.1.1.0; left = p.1.1.1 }) (λ _. refl)

-- the pending move of the object of this name
abbrev pub moving : List ℕ → PendingMove → Moving
moving name p = record { name = name; object = p.object; call = p.call; called = p.called }

-- the pending move of the object of this name; none if none is kept
abbrev pub moving_of : List ℕ → Option PendingMove → Option Moving
moving_of name None = None
moving_of name (Some p) = Some (moving name p)

-- the administrator of a store that is opened with this cluster
abbrev pub new_admin : Cluster → AdminState
new_admin cluster = record { moving = None; orders = 0; asked = 0; left = cluster }

-- one more, modulo 2^64; the counters never wrap, since a store has fewer steps
abbrev pub one_more : ℕ → ℕ
one_more n = (n + 1) % 2 ^ 64

-- the administrator after one more order, which left this cluster
abbrev pub ordered_by : AdminState → Cluster → AdminState
ordered_by a cluster = record a { orders = one_more a.orders; left = cluster }

-- the administrator after one more round of a move that asked again
abbrev pub has_asked : AdminState → AdminState
has_asked a = record a { asked = one_more a.asked }

-- the state after a round: one that asks again, so that it may resend or restart, is counted; any other changes nothing
abbrev pub asked_if : {S : Type 0} → (S → S) → (again : Bool) → S → S
asked_if asks true s = asks s
asked_if asks false s = s

-- the receipt of a move that is answered at a step: it has the move's object, number and first step, and no value
abbrev pub move_receipt : Moving → (answered : ℕ) → Receipt
move_receipt m answered = record {
  object = m.object;
  kind = operation.Move;
  call = m.call;
  called = m.called;
  answered = answered;
  value = None;
}

-- there is a pending move, and the receipt has its number
abbrev pub IsOfMove : Option Moving → Receipt → Type 0
IsOfMove None receipt = ⊥
IsOfMove (Some m) receipt = receipt.call ≡ m.call

-- the pending move ends: the receipt has its number and is answered later than called, and no move is pending then
abbrev pub EndsCall : Option Moving → AdminState → Receipt → AdminState → Type 0
EndsCall None a receipt new = ⊥
EndsCall (Some m) a receipt new =
    (receipt.call ≡ m.call) × (receipt.called < receipt.answered) × (new ≡ record a { moving = None })

-- the pending move ends: the receipt is that of this move, answered later than called, and no move is pending then
abbrev pub EndsMove : Option Moving → AdminState → Receipt → AdminState → Type 0
EndsMove None a receipt new = ⊥
EndsMove (Some m) a receipt new =
    (receipt ≡ move_receipt m receipt.answered) × (receipt.called < receipt.answered)
    × (new ≡ record a { moving = None })

-- the administrator's pending move ends with this receipt
abbrev pub Ends : AdminState → Receipt → AdminState → Type 0
Ends a receipt new = EndsMove a.moving a receipt new
