-- When a call may advance, be supplied or be answered, by what it wants.
use Rattle.std.proofs.Common.{◌≡◌, ℕ, ◌<◌, ◌⊎◌, true, false, Some, None, IsSome, inl, inr, arith}
use Rattle.mail.specs.Phase.{Phase, lacks_pieces}
use Rattle.record.specs.Records.{Call, Object}
use Rattle.record.specs.PhaseOrder.{EndsBefore}
use Rattle.record.specs.Legal.{due_of}
use Rattle.record.specs.Fragments.{IsFetch}
use Rattle.soundness.specs.Sound.{IsPhasePast, IsCallPast}
use Rattle.record.specs.Wants.{current_phase, want_of}
use Rattle.record.specs.declared.stage.Want.TheVariants as wants
use Rattle.soundness.proofs.ListLemmas.{all_get}
use Rattle.soundness.proofs.Sound.WantCaseLemmas.{last_at, ends_before, PhaseEnded, Ready, Unsettled, Waiting, Sending, says}
pub use Rattle.soundness.proofs.Sound.WantCaseLemmas.{Plain}

module _ (object : Object) (index : ℕ) (call : Call) where
  pub answer_ready : want_of object index call ≡ wants.Answer → Ready call × (due_of object index call ≡ None)
  answer_ready e = says object index call wants.Answer e

  pub advance_ready : want_of object index call ≡ wants.Advance → Ready call × Plain (due_of object index call)
  advance_ready e = says object index call wants.Advance e

  pub supply_ready : (k n : ℕ) → want_of object index call ≡ wants.Supply k n →
      Ready call × Sending object (due_of object index call) k n
  supply_ready k n e = says object index call (wants.Supply k n) e

  -- a call that wants its value
  pub unsettled_of : (k len : ℕ) → want_of object index call ≡ wants.Settle k len → Unsettled call false
  unsettled_of k len e = says object index call (wants.Settle k len) e

  -- a call that wants to begin anew
  pub lacking_of : want_of object index call ≡ wants.Again → Unsettled call true
  lacking_of e = says object index call wants.Again e

  -- a call that waits for replies
  pub waiting_of : want_of object index call ≡ wants.Replies → Waiting call
  waiting_of e = says object index call wants.Replies e

-- the current phase ended before now
pub ended_before : (call : Call) (phase : Phase) (end step now : ℕ) → current_phase call.phases ≡ Some phase →
    phase.end ≡ Some end → IsCallPast step call → step < now → EndsBefore call.phases now
ended_before call phase end step now current ended past less =
    let there = last_at call.phases phase current in
    let before = (all_get (IsPhasePast step) call.phases there.place phase past.phases there.within).end end ended in
    ends_before call.phases phase end now current ended (omega arith)

-- a call that may begin its next phase: its current one is complete, and if it is a fetch, settled or lacking pieces
pub record MayGoOn (call : Call) : Type 0 where
  pub last : PhaseEnded call
  pub open last use *
  pub settled : IsFetch phase.kind → IsSome call.settled ⊎ (lacks_pieces phase ≡ true)

pub ready_on : (call : Call) → Ready call → MayGoOn call
ready_on call ready = record { last = ready.last; settled = λ fetch. inl (ready.settled fetch) }

pub lacking_on : (call : Call) → Unsettled call true → MayGoOn call
lacking_on call wanting = record { last = wanting.last; settled = λ fetch. inr wanting.lacking }
