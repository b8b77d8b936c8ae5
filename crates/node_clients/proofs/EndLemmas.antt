-- A call that was answered ends, or passes to what is left of its command.
use Rattle.std.proofs.Common.{◌≡◌, ◌≢◌, ℕ, Bool, true, false, cond, nat_eq, List, [], ◌∷◌, ◌++◌, Option, None, Some, is_some}
use Rattle.std.proofs.Common.{refl, sym, subst, ap, ◌∙◌}
use Rattle.std.proofs.lemmas.Bool.{false≢true}
use Rattle.std.proofs.lemmas.List.{append-nil}
use Rattle.local_object.specs.declared.progress.Ended.{Ended}
use Rattle.indexmap.specs.IndexMap.{get}
use Rattle.client_commands.specs.declared.answer.Answer.{Answer}
use Rattle.node_effects.specs.Work.{IsGrown}
use Rattle.node_effects.specs.declared.notice.Notice.{Notice}
use Rattle.node_effects.specs.declared.notice.Notice.TheVariants as notice
use Rattle.node_effects.specs.declared.work.Work.{Work}
use Rattle.node_clients.specs.Answers.{answer_growth, due_growth}
use Rattle.node_clients.specs.Calls.{call_answer, call_under, rest_of, waiting_for}
use Rattle.node_clients.specs.Connections.{doing, waiting_on}
use Rattle.node_clients.specs.Desk.{IsEndedFor, IsIdleAgain, IsIdleFor, IsPutBack, end_growth, growth_for, has_listener}
use Rattle.node_clients.specs.Desk.{is_answered_for, is_connected, listener, with_told}
use Rattle.node_clients.specs.Served.{IsCallClosed, IsServiceDone, KeepsOtherCalls}
use Rattle.node_clients.specs.Services.{Service, service_dues, service_frames, service_notices}
use Rattle.node_clients.specs.declared.connection.Connection.{Connection}
use Rattle.node_clients.specs.declared.connections.Connections.{Connections}
use Rattle.node_clients.specs.declared.desk.Desk.{Desk}
use Rattle.node_clients.specs.declared.rest.Rest.{Rest}
use Rattle.node_clients.proofs.ServedLemmas.{growth_dues, growth_frames, growth_notices}

-- a call of the object of this name was answered
abbrev pub IsEnding : Service → Type 0
IsEnding (Service.Ends name ended answer told) = Unit {0}
IsEnding (Service.Passes name ended client rest) = Unit {0}
IsEnding service = ⊥

-- what was done for the client of a call that was answered
pub record EndsAs (ticks : ℕ) (delta : Option ℕ) (name : List ℕ) (ended : Ended) (old : Desk) (before : Work) (new : Desk)
    (after : Work) : Type 0 where
  pub service : Service
  pub done : IsServiceDone ticks delta old service new
  pub ending : IsEnding service
  pub told : after.to_clients.items ≡ before.to_clients.items ++ service_frames service
  pub due : after.due.items ≡ before.due.items ++ service_dues service
  pub notices : after.notices.items ≡ before.notices.items
  pub seen : service_notices service ≡ notice.Tells name ended ∷ []

-- how the desk changed as a call was answered, by the client that waited and what is left of its command
pub record IsConcluded (old : Desk) (id : ℕ) (who : Option ℕ) (rest : Option Rest) (new : Desk) : Type 0 where
  pub gone : call_under new.calls id ≡ None
  pub others : KeepsOtherCalls old id new
  pub idle : IsEndedFor old.clients who rest new.clients
  pub counts : new.counts ≡ with_told (is_answered_for old who rest) old.counts

-- nothing waits on a connection that is not there
nothing_waits : (connection : Option Connection) → is_some connection ≡ false → waiting_on connection ≡ []
nothing_waits None gone = refl
nothing_waits (Some connection) gone = absurd (cc)

-- nothing was put back on a connection that is not there
not_back : (old : Connections) (client : ℕ) (rest : Rest) (new : Connections) → IsPutBack old client rest new →
    is_some (get nat_eq old.by_number client) ≡ false → IsIdleAgain old client new
not_back old client rest new back gone = record {
  stays = back.stays;
  state = back.state;
  waiting = nothing_waits (get nat_eq new.by_number client) (back.stays ∙ gone)
      ∙ sym (nothing_waits (get nat_eq old.by_number client) gone);
  others = back.others;
}

module _ (ticks : ℕ) (delta : Option ℕ) (name : List ℕ) (ended : Ended) (a b : Desk) (u v : Work) where
  -- the call ends
  ends : (who : Option ℕ) → waiting_for a.calls ended.id ≡ who → (answer : Answer) →
      answer ≡ call_answer (call_under a.calls ended.id) ended →
      (has_listener a (waiting_for a.calls ended.id) ≡ true → rest_of delta (call_under a.calls ended.id) ≡ None) →
      IsGrown u v (growth_for a who answer) → call_under b.calls ended.id ≡ None → KeepsOtherCalls a ended.id b →
      IsIdleFor a.clients who b.clients → b.counts ≡ with_told (has_listener a who) a.counts →
      EndsAs ticks delta name ended a u b v
  ends who waits answer is last grown gone others idle counts = record {
    service = Service.Ends name ended answer (listener a who);
    done = (
      is,
      last,
      record {
        who = ap (λ w. listener a w) (sym waits);
        gone = gone;
        others = others;
        idle = subst (λ w. IsIdleFor a.clients w b.clients) (sym waits) idle;
      },
      counts ∙ ap (λ w. with_told (has_listener a w) a.counts) (sym waits),
    );
    ending = tt;
    told = grown.to_clients ∙ ap (λ xs. u.to_clients.items ++ xs) (growth_frames a who answer);
    due = grown.due ∙ ap (λ xs. u.due.items ++ xs) (growth_dues a who answer);
    notices = grown.notices ∙ ap (λ xs. u.notices.items ++ xs) (growth_notices a who answer) ∙ append-nil u.notices.items;
    seen = refl;
  }

  -- the call passes to what is left
  passes : (client : ℕ) (rest : Rest) → listener a (waiting_for a.calls ended.id) ≡ Some client →
      rest_of delta (call_under a.calls ended.id) ≡ Some rest → IsGrown u v (due_growth true client) →
      call_under b.calls ended.id ≡ None → KeepsOtherCalls a ended.id b → IsPutBack a.clients client rest b.clients →
      b.counts ≡ a.counts → EndsAs ticks delta name ended a u b v
  passes client rest waits left grown gone others back counts = record {
    service = Service.Passes name ended client rest;
    done = record { who = waits; left = left; gone = gone; others = others; back = back; counts = counts };
    ending = tt;
    told = grown.to_clients;
    due = grown.due;
    notices = grown.notices ∙ append-nil u.notices.items;
    seen = refl;
  }

  -- a call with more to do was answered, and its client's connection is there or not
  more_left : (client : ℕ) (rest : Rest) → waiting_for a.calls ended.id ≡ Some client →
      rest_of delta (call_under a.calls ended.id) ≡ Some rest → (there : Bool) → is_connected a client ≡ there →
      IsGrown u v (due_growth there client) → IsConcluded a ended.id (Some client) (Some rest) b →
      EndsAs ticks delta name ended a u b v
  more_left client rest waits left true there grown done =
      passes client rest (ap (λ w. listener a w) waits ∙ ap (λ t. cond t (Some client) None) there) left grown done.gone done.others
      done.idle done.counts
  more_left client rest waits left false there grown done =
      let answer = call_answer (call_under a.calls ended.id) ended in
      ends (Some client) waits answer refl
      (λ listens. absurd (false≢true (sym there ∙ sym (ap (λ w. has_listener a w) waits) ∙ listens)))
      (subst (λ t. IsGrown u v (answer_growth t client answer)) (sym there) grown) done.gone done.others
      (not_back a.clients client rest b.clients done.idle there)
      (done.counts ∙ ap (λ t. with_told t a.counts) (sym there))

  -- a call was answered
  pub concluded : (who : Option ℕ) → waiting_for a.calls ended.id ≡ who → (rest : Option Rest) →
      rest_of delta (call_under a.calls ended.id) ≡ rest →
      IsGrown u v (end_growth a who rest (call_answer (call_under a.calls ended.id) ended)) →
      IsConcluded a ended.id who rest b → EndsAs ticks delta name ended a u b v
  concluded None waits rest left grown done =
      ends None waits (call_answer (call_under a.calls ended.id) ended) refl
      (λ listens. absurd (false≢true (sym (ap (λ w. has_listener a w) waits) ∙ listens))) grown done.gone done.others done.idle
      done.counts
  concluded (Some client) waits None left grown done =
      ends (Some client) waits (call_answer (call_under a.calls ended.id) ended) refl (λ listens. left) grown done.gone done.others
      done.idle done.counts
  concluded (Some client) waits (Some rest) left grown done =
      more_left client rest waits left (is_connected a client) refl grown done
