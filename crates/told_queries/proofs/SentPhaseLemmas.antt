-- Worlds that are reached: their open calls have distinct ids, which the history has, and messages are of calls of the
-- history, of a call's current phase or of an earlier one.
use Rattle.std.proofs.Common.{◌≡◌, inl, inr, ℕ, suc, ◌≤◌, ◌&&◌, Bool, true, false, cond, eqb, not, List, [], ◌∷◌, ◌++◌, map}
use Rattle.std.proofs.Common.{Option, Some, None, option_map, refl, sym, ap, ◌∙◌, subst, arith}
use Rattle.std.proofs.lemmas.Option.{slice_get-map}
use Rattle.std.specs.List.{AllByRecursion}
use Rattle.bank.specs.declared.kind.Kind.{Kind}
use Rattle.mail.specs.declared.message.Body.{Body}
use Rattle.mail.specs.declared.message.Body.TheVariants as body
use Rattle.mail.specs.declared.message.Message.{Message}
use Rattle.record.specs.declared.call.Entry.{Entry}
use Rattle.record.specs.Fragments.{Code}
use Rattle.record.specs.Journals.{entry_value}
use Rattle.record.specs.Legal.{is_move}
use Rattle.layout.specs.Layout.{IsLawful}
use Rattle.open_calls.specs.OpenCalls.{NodeCall, NodeCallsDiffer, due_phase, open_call, taking_open, with_open}
use Rattle.open_calls.proofs.DistinctCallLemmas.{distinct_filter, distinct_push, distinct_with}
use Rattle.open_calls.proofs.ListLemmas.{all_at, all_weaker}
use Rattle.network.specs.Worlds.{ClusterFile, World, opened_world}
use Rattle.network.specs.Events.{Event, IsOpen, MayHappen, advanced_world, answered_entry, answered_world, happens, on_open}
use Rattle.network.specs.Events.{served_world, world_after}
use Rattle.network.specs.Laws.{IsReached}
use Rattle.network.specs.Premises.{IsOneFile, IsPremised, IsUnused, MayHappenInTurn, WasSent}
use Rattle.starts.proofs.FinalPointerLemmas.{get_more, ticked}
use Rattle.starts.proofs.TrueCallLemmas.{found_true}
use Rattle.starts.proofs.TrueReplyLemmas.{IsKnown, IsSoFar, IsTrueCall, IsTruthful}
use Rattle.starts.proofs.TrueWorldLemmas.{event_true, opened_true}

-- what messages and open calls tell is true, and open calls have distinct ids
pub record IsOrderly (world : World) : Type 0 where
  pub truth : IsTruthful world
  pub distinct : NodeCallsDiffer world.calls

-- What is so in such a world

pub known_open : (world : World) (id : ℕ) (call : NodeCall) → IsOrderly world → IsOpen world id call →
    IsKnown world.history id
known_open world id call is open_there =
    let it = found_true world is.truth id call open_there in subst (IsKnown world.history) it.1 it.0.known

pub open_id : (world : World) (id : ℕ) (call : NodeCall) → IsOrderly world → IsOpen world id call → call.id ≡ id
open_id world id call is open_there = (found_true world is.truth id call open_there).1

pub known_sent : (world : World) (message : Message) → IsOrderly world → WasSent world message →
    IsKnown world.history message.call
known_sent world message is was = (is.truth.messages message was).known

-- a message is of the call's current phase, or of an earlier one
pub sent_so_far : (world : World) (id : ℕ) (call : NodeCall) (message : Message) → IsOrderly world → IsOpen world id call →
    WasSent world message → message.call ≡ id → message.phase ≤ call.phase.number
sent_so_far world id call message is open_there was own = go (it.0.sent message was (own ∙ sym it.1))
  where
    it : IsTrueCall world call × (call.id ≡ id)
    it = found_true world is.truth id call open_there

    go : IsSoFar world call.phase message → message.phase ≤ call.phase.number
    go (inl before) = omega (arith, before)
    go (inr of) = let h = of.number in omega arith

pub none_unused : (history : List Entry) (id : ℕ) → AllByRecursion (λ entry. entry.call ≡ id → ⊥) history → IsKnown history id → ⊥
none_unused history id unused was = all_at (λ (e : Entry). e.call ≡ id → ⊥) history was.0 was.1 unused was.2 was.3

-- no open call has an unused id
apart_unused : (world : World) (id : ℕ) → IsOrderly world → IsUnused world id →
    AllByRecursion (λ call. call.id ≡ id → ⊥) world.calls
apart_unused world id is unused =
    all_weaker (IsTrueCall world) (λ (call : NodeCall). call.id ≡ id → ⊥)
    (λ call it same. none_unused world.history id unused (subst (IsKnown world.history) same it.known)) world.calls is.truth.calls

-- One event

distinct_open : (base : World) (o : Option NodeCall) (change : NodeCall → World) → NodeCallsDiffer base.calls →
    ((call : NodeCall) → NodeCallsDiffer (change call).calls) → NodeCallsDiffer (on_open base o change).calls
distinct_open base None change none each = none
distinct_open base (Some call) change none each = each call

distinct_advanced : (fragment : Code) (world : World) (call : NodeCall) (o : Option (Kind × ℕ)) → NodeCallsDiffer world.calls →
    NodeCallsDiffer (advanced_world fragment world call o).calls
distinct_advanced fragment world call None distinct = distinct
distinct_advanced fragment world call (Some next) distinct = distinct_with _ world.calls distinct

distinct_served : (world : World) (message : Message) (b : Body) → NodeCallsDiffer world.calls →
    NodeCallsDiffer (served_world world message b).calls
distinct_served world message (body.Request asked) distinct = distinct
distinct_served world message (body.Reply kind made) distinct = distinct

distinct_next : (fragment : Code) (world : World) (event : Event) → IsPremised world event → IsOrderly world →
    NodeCallsDiffer (happens fragment world event).calls
distinct_next fragment world (Event.BeginRead node id) premised is =
    distinct_push world.calls _ is.distinct (apart_unused world id is premised.ids)
distinct_next fragment world (Event.BeginWrite node id value) premised is =
    distinct_push world.calls _ is.distinct (apart_unused world id is premised.ids)
distinct_next fragment world (Event.BeginMove node id layout) premised is =
    distinct_push world.calls _ is.distinct (apart_unused world id is premised.ids)
distinct_next fragment world (Event.Advance id) premised is =
    distinct_open (ticked world) (open_call world.calls id)
    (λ call. advanced_world fragment (ticked world) call (due_phase call)) is.distinct
    (λ call. distinct_advanced fragment (ticked world) call (due_phase call) is.distinct)
distinct_next fragment world (Event.Serve message) premised is = distinct_served (ticked world) message message.body is.distinct
distinct_next fragment world (Event.Take message) premised is =
    distinct_open (ticked world) (open_call world.calls message.call)
    (λ call. record (ticked world) { calls = with_open (taking_open message call) world.calls }) is.distinct
    (λ call. distinct_with (taking_open message call) world.calls is.distinct)
distinct_next fragment world (Event.Settle id value) premised is =
    distinct_open (ticked world) (open_call world.calls id)
    (λ call. record (ticked world) { calls = with_open (record call { settled = Some value }) world.calls }) is.distinct
    (λ call. distinct_with (record call { settled = Some value }) world.calls is.distinct)
distinct_next fragment world (Event.Answer id) premised is =
    distinct_open (ticked world) (open_call world.calls id) (λ call. answered_world (ticked world) call) is.distinct
    (λ call. distinct_filter (λ c. not (eqb c.id call.id)) world.calls is.distinct)
distinct_next fragment world (Event.GiveUp id) premised is = distinct_filter (λ c. not (eqb c.id id)) world.calls is.distinct
distinct_next fragment world (Event.Restart node banks calls) premised is =
    subst NodeCallsDiffer (sym premised.log.1)
    (distinct_filter (λ c. not (eqb c.node node && not (is_move c.kind))) world.calls is.distinct)

pub orderly_next : (fragment : Code) (world : World) (event : Event) → MayHappen fragment world event → IsPremised world event →
    IsOrderly world → IsOrderly (happens fragment world event)
orderly_next fragment world event may premised is = record {
  truth = event_true fragment world event may premised is.truth;
  distinct = distinct_next fragment world event premised is;
}

-- Several events

pub orderly_later : (fragment : Code) (events : List Event) (world : World) → MayHappenInTurn fragment events world →
    IsOrderly world → IsOrderly (world_after fragment events world)
orderly_later fragment [] world may is = is
orderly_later fragment (event ∷ events) world may is =
    orderly_later fragment events (happens fragment world event) may.2 (orderly_next fragment world event may.0 may.1 is)

pub opened_orderly : (files : ℕ → ClusterFile) → IsOneFile files → IsLawful (files 0).first → IsOrderly (opened_world files)
opened_orderly files one lawful = record { truth = opened_true files one lawful; distinct = tt }

pub reached_orderly : (fragment : Code) (world : World) → IsReached fragment world → IsOrderly world
reached_orderly fragment world reached =
    subst IsOrderly reached.result
    (orderly_later fragment reached.events (opened_world reached.files) reached.may
    (opened_orderly reached.files reached.one reached.lawful))

-- The ids of a history

known_more : (history : List Entry) (entry : Entry) (id : ℕ) → IsKnown history id → IsKnown (history ++ entry ∷ []) id
known_more history entry id was = (was.0, was.1, get_more history (entry ∷ []) was.0 was.1 was.2, was.3)

answered_id : (call : NodeCall) (now : ℕ) (entry : Entry) (b : Bool) →
    (cond b (record entry { answered = Some now; value = entry_value call.kind (Some now) call.settled }) entry).call ≡ entry.call
answered_id call now entry true = refl
answered_id call now entry false = refl

known_answered : (call : NodeCall) (now : ℕ) (history : List Entry) (id : ℕ) → IsKnown history id →
    IsKnown (map (answered_entry call now) history) id
known_answered call now history id was = (
  was.0,
  answered_entry call now was.1,
  slice_get-map (answered_entry call now) history was.0 ∙ ap (option_map (answered_entry call now)) was.2,
  answered_id call now was.1 (eqb was.1.call call.id) ∙ was.3,
)

known_if_open : (base : World) (o : Option NodeCall) (change : NodeCall → World) (id : ℕ) → IsKnown base.history id →
    ((call : NodeCall) → IsKnown (change call).history id) → IsKnown (on_open base o change).history id
known_if_open base None change id none each = none
known_if_open base (Some call) change id none each = each call

known_advanced : (fragment : Code) (world : World) (call : NodeCall) (o : Option (Kind × ℕ)) (id : ℕ) →
    IsKnown world.history id → IsKnown (advanced_world fragment world call o).history id
known_advanced fragment world call None id was = was
known_advanced fragment world call (Some next) id was = was

known_served : (world : World) (message : Message) (b : Body) (id : ℕ) → IsKnown world.history id →
    IsKnown (served_world world message b).history id
known_served world message (body.Request asked) id was = was
known_served world message (body.Reply kind made) id was = was

-- the ids of calls stay in the history
pub known_next : (fragment : Code) (world : World) (event : Event) (id : ℕ) → IsKnown world.history id →
    IsKnown (happens fragment world event).history id
known_next fragment world (Event.BeginRead node new) id was = known_more world.history _ id was
known_next fragment world (Event.BeginWrite node new value) id was = known_more world.history _ id was
known_next fragment world (Event.BeginMove node new layout) id was = known_more world.history _ id was
known_next fragment world (Event.Advance other) id was =
    known_if_open (ticked world) (open_call world.calls other)
    (λ call. advanced_world fragment (ticked world) call (due_phase call)) id was
    (λ call. known_advanced fragment (ticked world) call (due_phase call) id was)
known_next fragment world (Event.Serve message) id was = known_served (ticked world) message message.body id was
known_next fragment world (Event.Take message) id was =
    known_if_open (ticked world) (open_call world.calls message.call)
    (λ call. record (ticked world) { calls = with_open (taking_open message call) world.calls }) id was (λ call. was)
known_next fragment world (Event.Settle other value) id was =
    known_if_open (ticked world) (open_call world.calls other)
    (λ call. record (ticked world) { calls = with_open (record call { settled = Some value }) world.calls }) id was (λ call. was)
known_next fragment world (Event.Answer other) id was =
    known_if_open (ticked world) (open_call world.calls other) (λ call. answered_world (ticked world) call) id was
    (λ call. known_answered call (suc world.now) world.history id was)
known_next fragment world (Event.GiveUp other) id was = was
known_next fragment world (Event.Restart node banks calls) id was = was
