-- How an open move goes on does not depend on the start of the object: no move begins anew there.
use Rattle.std.proofs.Common.{◌≡◌, ℕ, ◌+◌, ◌^◌, Bool, true, false, ◌&&◌, ◌||◌, not, cond, is_some, nat_lt, List, [], ◌∷◌, Some, refl}
use Rattle.std.proofs.Common.{suc, sym, ap, ◌∙◌}
use Rattle.bank.specs.declared.kind.Kind.{Kind}
use Rattle.bank.specs.declared.kind.Kind.TheVariants.{Next, Spread, Query, PreWrite, Finalize, Fetch}
use Rattle.call.specs.declared.next.Next.{Next as Step}
use Rattle.call.specs.declared.next.Next.TheVariants as next
use Rattle.call.specs.Call.{OpenCall as Machine, reached}
use Rattle.mail.specs.Message.{status_names_next}
use Rattle.record.specs.Legal.{is_move}
use Rattle.open_calls.specs.OpenCalls.{NodeCall, open_call}
use Rattle.local_object.specs.Coding.{is_sendable}
use Rattle.local_object.specs.Events.{LocalEvent}
use Rattle.local_object.specs.Going.{next_if}
use Rattle.local_object.specs.Local.{LocalObject, Place, heard_place, layout_here, layout_in}
use Rattle.local_object.specs.Starting.{first_number}
use Rattle.local_object.specs.Taking.{begin_anew_events, begin_events, call_events, is_read_begin, knows_next, lead_events}
use Rattle.local_object.specs.Taking.{machine_of, restart_events, step_events}
use Rattle.recoveries.proofs.KeptCallLemmas.{moves_call}

-- no move begins anew at the start
pub no_move_anew : (local : LocalObject) (call : Machine) → is_move call.kind ≡ true → begin_anew_events local call ≡ []
no_move_anew local call move =
    ap (λ b. cond (not b && (is_some (layout_here local local.start)
    && nat_lt (call.phase.number + first_number local.start) (2 ^ 32))) (LocalEvent.BeginAnew call.id ∷ []) []) move

same_begin : (a b : List Place) (call : Machine) (asked : Kind) (q : ℕ) →
    ((p : ℕ) → layout_in (heard_place b p) ≡ layout_in (heard_place a p)) → begin_events b call asked q ≡ begin_events a call asked q
same_begin a b call asked q heard =
    ap (λ o. cond (is_some o && (nat_lt (call.phase.number + 1) (2 ^ 32) && (is_sendable asked call && knows_next b asked q)))
    (LocalEvent.Advance call.id ∷ []) []) (heard q)
    ∙ ap (λ n. cond (is_some (layout_in (heard_place a q)) && (nat_lt (call.phase.number + 1) (2 ^ 32)
    && (is_sendable asked call && n))) (LocalEvent.Advance call.id ∷ []) []) (same_next asked)
  where
    same_next : (k : Kind) → knows_next b k q ≡ knows_next a k q
    same_next Next = refl
    same_next (Spread status) = ap (λ o. not (status_names_next status) || is_some o) (heard (suc q))
    same_next Query = refl
    same_next (PreWrite tag) = refl
    same_next (Finalize tag) = refl
    same_next (Fetch tag) = refl

-- two that have heard of the same layouts
module _ (a b : LocalObject) (heard : (q : ℕ) → layout_here b q ≡ layout_here a q) where
  same_restart : (call : Machine) → is_move call.kind ≡ true → (asked : Kind) (q : ℕ) →
      restart_events b call asked q ≡ restart_events a call asked q
  same_restart call move asked q = go (is_read_begin (reached call))
    where
      go : (r : Bool) → cond r (begin_anew_events b call) (begin_events b.places call asked q)
          ≡ cond r (begin_anew_events a call) (begin_events a.places call asked q)
      go true = no_move_anew b call move ∙ sym (no_move_anew a call move)
      go false = same_begin a.places b.places call asked q heard

  same_step : (call : Machine) → is_move call.kind ≡ true → (n : Step) → step_events b call n ≡ step_events a call n
  same_step call move next.Wait = refl
  same_step call move next.Settle = refl
  same_step call move (next.Restart asked position) = same_restart call move asked position
  same_step call move (next.Begin asked position) = same_begin a.places b.places call asked position heard
  same_step call move next.Answer = refl

  pub same_lead : (anew : Bool) (id : ℕ) (call : NodeCall) → moves_call call ≡ true → open_call a.calls id ≡ Some call →
      open_call b.calls id ≡ Some call → lead_events anew b id ≡ lead_events anew a id
  same_lead anew id call move found again =
      ap (call_events anew b) again ∙ same_step (machine_of call) move (next_if anew (machine_of call))
      ∙ ap (call_events anew a) (sym found)
