-- One event of a run beside one of the other run, in which a call that reads first has queried already: the call is in
-- the same phase before the event and after it.
use Rattle.std.proofs.Common.{◌≡◌, ℕ, Bool, true, false, eqb, eqb-true, eq-eqb, List, [], ◌∷◌, ◌++◌, length, Some}
use Rattle.std.proofs.Common.{refl, sym, ◌∙◌, subst}
use Rattle.std.specs.List.{AllByRecursion}
use Rattle.layout.specs.Layout.{Layout}
use Rattle.bank.specs.declared.kind.Kind.TheVariants.{Next, Spread}
use Rattle.bank.specs.declared.status.Status.TheVariants.{Pending}
use Rattle.mail.specs.declared.message.Message.{Message}
use Rattle.record.specs.declared.call.CallKind.TheVariants.{Move, Read, Write}
use Rattle.record.specs.Fragments.{Code}
use Rattle.record.specs.Legal.{first_stage}
use Rattle.record.specs.PhaseOrder.{begun_at}
use Rattle.open_calls.specs.OpenCalls.{NodeCall, due_phase, taking_open, with_open}
use Rattle.open_calls.proofs.CallsOfNodeLemmas.{differs}
use Rattle.open_calls.proofs.OpenCallLemmas.{all_with, found}
use Rattle.network.specs.Worlds.{World, new_banks}
use Rattle.network.specs.Events.{Event, IsOpen, MayHappen, advanced_world, answered_world, happens}
use Rattle.network.specs.Premises.{IsPremised, IsUnused, WasSent}
use Rattle.starts.proofs.FinalPointerLemmas.{ticked}
use Rattle.starts.proofs.TrueReplyLemmas.{IsKnown}
use Rattle.told_queries.proofs.ApartEventLemmas.{IsAmong, advance_beside, alongside, answer_beside, begin_beside, beside_is}
use Rattle.told_queries.proofs.ApartEventLemmas.{change_beside, fetched_still, give_up_beside, other_open, serve_beside, with_beside}
use Rattle.told_queries.proofs.BesideLemmas.{IsBeside, IsSoFar, querying}
use Rattle.told_queries.proofs.OwnEventLemmas.{kept_along, not_advanced, not_answered, not_given_up, not_settled, own_taken}
use Rattle.told_queries.proofs.SentPhaseLemmas.{IsOrderly, known_open, none_unused, open_id}
use Rattle.told_queries.proofs.TurnLemmas.{IsStep}

-- the event of the other run: where a node starts again, its calls are those of the other world
abbrev pub beside_event : (asking : NodeCall) → Event → Event
beside_event asking (Event.Restart node banks calls) = Event.Restart node banks (with_open asking calls)
beside_event asking event = event

module _ (fragment : Code) (begun : NodeCall) (layout : Layout) (reads : begun.phase.kind ≡ Next) (world : World) (sent : List Message)
    (keeps : (message : Message) → WasSent world message → IsAmong sent message) (is : IsOrderly world)
    (so_far : IsSoFar begun world) where
  abbrev asking : NodeCall
  asking = querying begun layout

  abbrev along : World
  along = alongside asking world sent

  -- the event leads on, and so does the one of the other run
  abbrev Step : Event → Type 0
  Step event = IsStep fragment begun layout world along event (beside_event asking event)

  unused_apart : (id : ℕ) → IsUnused world id → eqb id begun.id ≡ false
  unused_apart id unused = differs id begun.id
      (λ same. none_unused world.history id unused (subst (IsKnown world.history) (sym same)
      (known_open world begun.id so_far.call is so_far.open_there)))

  -- another id is not that of the call, and neither is that of another call
  not_to : (id : ℕ) → (id ≡ begun.id → ⊥) → eqb begun.id id ≡ false
  not_to id apart = differs begun.id id (λ same. apart (sym same))

  apart_to : (id : ℕ) (call : NodeCall) → (id ≡ begun.id → ⊥) → IsOpen world id call → eqb begun.id call.id ≡ false
  apart_to id call apart open_there = not_to call.id (λ same. apart (sym (open_id world id call is open_there) ∙ same))

  apart_from : (id : ℕ) (call : NodeCall) → (id ≡ begun.id → ⊥) → IsOpen world id call → eqb call.id begun.id ≡ false
  apart_from id call apart open_there =
      differs call.id begun.id (λ same. apart (sym (open_id world id call is open_there) ∙ same))

  by_id : (event : Event) (id : ℕ) → (id ≡ begun.id → Step event) → ((id ≡ begun.id → ⊥) → Step event) → Step event
  by_id event id own other = go (eqb id begun.id) refl
    where
      go : (b : Bool) → eqb id begun.id ≡ b → Step event
      go true e = own (eqb-true id begun.id e)
      go false e = other (λ same. absurd (let wrong : false ≡ true = sym e ∙ eq-eqb id begun.id same in cc))

  -- what is so of all calls, and of the call as it queries, is so of the calls of the other world
  all_along : (P : NodeCall → Type 0) → (P so_far.call → P asking) → AllByRecursion P world.calls →
      AllByRecursion P along.calls
  all_along P so all =
      all_with P P asking world.calls all (so (found P world.calls begun.id so_far.call all so_far.open_there).0) (λ other apart it. it)

  -- Events

  advance_step : (id : ℕ) → MayHappen fragment world (Event.Advance id) →
      IsSoFar begun (happens fragment world (Event.Advance id)) → Step (Event.Advance id)
  advance_step id may next =
      by_id (Event.Advance id) id (λ own. absurd (not_advanced fragment begun world is so_far reads id own may next))
      (λ apart. record {
        may = (may.0, other_open fragment asking world sent keeps id may.0 apart may.1, may.2);
        premised = record { network = tt; log = tt; ids = tt };
        beside = change_beside fragment asking world sent keeps id
            (λ call. advanced_world fragment (ticked world) call (due_phase call))
            (λ call. advanced_world fragment (ticked along) call (due_phase call)) apart
            (λ call open_there. advance_beside fragment asking world sent keeps call (apart_to id call apart open_there)
            (apart_from id call apart open_there) (due_phase call));
        served = λ request e. e;
      })

  take_step : (message : Message) → MayHappen fragment world (Event.Take message) → WasSent world message → Step (Event.Take message)
  take_step message may was = by_id (Event.Take message) message.call
      (λ own. done (own_taken fragment begun world is so_far layout sent keeps message own was))
      (λ apart. done (change_beside fragment asking world sent keeps message.call
      (λ call. record (ticked world) { calls = with_open (taking_open message call) world.calls })
      (λ call. record (ticked along) { calls = with_open (taking_open message call) along.calls }) apart
      (λ call open_there. with_beside fragment asking world sent keeps (taking_open message call)
      (apart_to message.call call apart open_there) (apart_from message.call call apart open_there))))
    where
      done : IsBeside asking (happens fragment world (Event.Take message)) (happens fragment along (Event.Take message)) →
          Step (Event.Take message)
      done beside = record {
        may = may;
        premised = record { network = keeps message was; log = tt; ids = tt };
        beside = beside;
        served = λ request e. e;
      }

  settle_step : (id : ℕ) (value : List ℕ) → MayHappen fragment world (Event.Settle id value) → Step (Event.Settle id value)
  settle_step id value may =
      by_id (Event.Settle id value) id (λ own. absurd (not_settled fragment begun world is so_far reads id own value may))
      (λ apart. record {
        may = (
          may.0,
          other_open fragment asking world sent keeps id may.0 apart may.1,
          fetched_still fragment asking world sent keeps may.0 value may.2,
        );
        premised = record { network = tt; log = tt; ids = tt };
        beside = change_beside fragment asking world sent keeps id
            (λ call. record (ticked world) { calls = with_open (record call { settled = Some value }) world.calls })
            (λ call. record (ticked along) { calls = with_open (record call { settled = Some value }) along.calls }) apart
            (λ call open_there. with_beside fragment asking world sent keeps (record call { settled = Some value })
            (apart_to id call apart open_there) (apart_from id call apart open_there));
        served = λ request e. e;
      })

  answer_step : (id : ℕ) → MayHappen fragment world (Event.Answer id) → IsSoFar begun (happens fragment world (Event.Answer id)) →
      Step (Event.Answer id)
  answer_step id may next =
      by_id (Event.Answer id) id (λ own. absurd (not_answered fragment begun world is so_far id own may next))
      (λ apart. record {
        may = (may.0, other_open fragment asking world sent keeps id may.0 apart may.1, may.2, may.3);
        premised = record { network = tt; log = tt; ids = tt };
        beside = change_beside fragment asking world sent keeps id (λ call. answered_world (ticked world) call)
            (λ call. answered_world (ticked along) call) apart
            (λ call open_there. answer_beside fragment asking world sent keeps call (apart_to id call apart open_there));
        served = λ request e. e;
      })

  give_up_step : (id : ℕ) → MayHappen fragment world (Event.GiveUp id) → IsSoFar begun (happens fragment world (Event.GiveUp id)) →
      Step (Event.GiveUp id)
  give_up_step id may next =
      by_id (Event.GiveUp id) id (λ own. absurd (not_given_up fragment begun world is so_far id own next))
      (λ apart. record {
        may = all_along (λ (call : NodeCall). call.id ≡ id → call.kind ≡ Move → ⊥) (λ it same. absurd (apart (sym same))) may;
        premised = record { network = tt; log = tt; ids = tt };
        beside = give_up_beside fragment asking world sent keeps id (not_to id apart);
        served = λ request e. e;
      })

  move_step : (node id : ℕ) (new : Layout) → MayHappen fragment world (Event.BeginMove node id new) → IsUnused world id →
      Step (Event.BeginMove node id new)
  move_step node id new may unused =
      let last = length world.later in
      let base : World = record (ticked world) {
        later = world.later ++ new ∷ [];
        banks = world.banks ++ new_banks world.files new.members 0 ∷ [];
      } in
      record {
        may = (
          may.0,
          may.1,
          all_along (λ (call : NodeCall). call.node ≡ node → call.kind ≡ Move → ⊥)
              (subst (λ (call : NodeCall). call.node ≡ node → call.kind ≡ Move → ⊥) so_far.same) may.2,
        );
        premised = record { network = tt; log = tt; ids = unused };
        beside = begin_beside fragment asking base sent keeps node id Move (first_stage Move last) (Spread Pending) last
            (unused_apart id unused);
        served = λ request e. e;
      }

  -- each event leads on beside that of the other run
  step_along : (event : Event) → MayHappen fragment world event → IsPremised world event → IsSoFar begun (happens fragment world event) →
      Step event
  step_along (Event.BeginRead node id) may premised next = record {
    may = may;
    premised = record { network = tt; log = tt; ids = premised.ids };
    beside = begin_beside fragment asking (ticked world) sent keeps node id Read (begun_at (first_stage Read 0) 0) Next 0
        (unused_apart id premised.ids);
    served = λ request e. e;
  }
  step_along (Event.BeginWrite node id value) may premised next = record {
    may = may;
    premised = record { network = tt; log = tt; ids = premised.ids };
    beside = begin_beside fragment asking (ticked world) sent keeps node id (Write value)
        (begun_at (first_stage (Write value) 0) 0) Next 0 (unused_apart id premised.ids);
    served = λ request e. e;
  }
  step_along (Event.BeginMove node id new) may premised next = move_step node id new may premised.ids
  step_along (Event.Advance id) may premised next = advance_step id may next
  step_along (Event.Serve message) may premised next = record {
    may = may;
    premised = record { network = keeps message premised.network; log = tt; ids = tt };
    beside = serve_beside fragment asking world sent keeps message message.body;
    served = λ request e. e;
  }
  step_along (Event.Take message) may premised next = take_step message may premised.network
  step_along (Event.Settle id value) may premised next = settle_step id value may
  step_along (Event.Answer id) may premised next = answer_step id may next
  step_along (Event.GiveUp id) may premised next = give_up_step id may next
  step_along (Event.Restart node banks calls) may premised next = record {
    may = tt;
    premised = record {
      network = tt;
      log = kept_along fragment begun world is so_far layout sent keeps node banks calls premised.log next;
      ids = tt;
    };
    beside = record { files = refl; later = refl; banks = refl; history = refl; now = refl; calls = refl; sent = keeps };
    served = λ request e. absurd (let clash : Event.Restart node banks calls ≡ Event.Serve request = e in cc);
  }

-- an event of the run, by which the call stays in its phase, leads on beside the event of the other run
pub step_beside : (fragment : Code) (begun : NodeCall) (layout : Layout) (world other : World) (event : Event) →
    begun.phase.kind ≡ Next → IsOrderly world → IsBeside (querying begun layout) world other → MayHappen fragment world event →
    IsPremised world event → IsSoFar begun world → IsSoFar begun (happens fragment world event) →
    IsStep fragment begun layout world other event (beside_event (querying begun layout) event)
step_beside fragment begun layout world other event reads is beside may premised so_far next =
    subst (λ o. IsStep fragment begun layout world o event (beside_event (querying begun layout) event))
    (sym (beside_is (querying begun layout) world other beside))
    (step_along fragment begun layout reads world other.sent beside.sent is so_far event may premised next)
