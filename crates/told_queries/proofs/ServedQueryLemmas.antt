-- Waiting events of a run beside those of the other run, in which members serve requests of the query in their place.
use Rattle.std.proofs.Common.{◌≡◌, ℕ, suc, Bool, true, false, cond, eqb, eq-eqb, List, [], ◌∷◌, ◌++◌, length, get_or, set}
use Rattle.std.proofs.Common.{None, Some, refl, sym, ap, ◌∙◌, subst}
use Rattle.std.proofs.lemmas.List.{set-get_or}
use Rattle.std.specs.List.{AllByRecursion}
use Rattle.layout.specs.Layout.{Layout}
use Rattle.bank.specs.Bank.{Bank}
use Rattle.bank.specs.Serve.{greatest_final}
use Rattle.bank.specs.declared.reply.Answer.TheVariants as answer
use Rattle.bank.specs.declared.request.Request.TheVariants as request
use Rattle.mail.specs.Message.{answered}
use Rattle.mail.specs.declared.message.Body.TheVariants as body
use Rattle.mail.specs.declared.message.Message.{Message}
use Rattle.record.specs.Fragments.{Code}
use Rattle.record.specs.Records.{no_bank}
use Rattle.record.specs.declared.call.CallKind.TheVariants.{Move}
use Rattle.open_calls.specs.OpenCalls.{NodeCall, open_call}
use Rattle.open_calls.proofs.CallsOfNodeLemmas.{nothing_without}
use Rattle.open_calls.proofs.ListLemmas.{all_weaker}
use Rattle.network.specs.Worlds.{World, member_bank}
use Rattle.network.specs.Events.{Event, MayHappen, happens, served_world}
use Rattle.network.specs.Premises.{IsPremised, WasSent}
use Rattle.network.proofs.StepLemmas.{get_end}
use Rattle.starts.proofs.FinalPointerLemmas.{get_more, ticked}
use Rattle.told_queries.specs.Courses.{IsWait}
use Rattle.told_queries.proofs.BesideEventLemmas.{beside_event}
use Rattle.told_queries.proofs.BesideLemmas.{IsBeside, querying}
use Rattle.told_queries.proofs.ReplayLemmas.{IsStillServed}
use Rattle.told_queries.proofs.RunLemmas.{closed_other}
use Rattle.told_queries.proofs.TurnLemmas.{IsStep}

-- Waiting events

-- a waiting event counts, and changes nothing else
pub wait_counts : (fragment : Code) (world : World) (event : Event) → IsWait world event → happens fragment world event ≡ ticked world
wait_counts fragment world event is =
    ap (happens fragment world) is.1
    ∙ ap (λ calls. let w : World = record world { calls = calls; now = suc world.now } in w) (nothing_without world.calls is.0 is.2)

-- an id that no open call has
none_open : (calls : List NodeCall) (id : ℕ) → open_call calls id ≡ None → AllByRecursion (λ call. call.id ≡ id → ⊥) calls
none_open [] id none = tt
none_open (first ∷ calls) id none = go (eqb first.id id) refl none (λ rest. none_open calls id rest)
  where
    go : (b : Bool) → eqb first.id id ≡ b → cond b (Some first) (open_call calls id) ≡ None →
        (open_call calls id ≡ None → AllByRecursion (λ (call : NodeCall). call.id ≡ id → ⊥) calls) →
        AllByRecursion (λ (call : NodeCall). call.id ≡ id → ⊥) (first ∷ calls)
    go true e there rest = absurd (cc)
    go false e there rest =
        (λ same. absurd (let wrong : false ≡ true = sym e ∙ eq-eqb first.id id same in cc), rest there)

-- it may happen at any time
pub may_wait : (fragment : Code) (world : World) (event : Event) → IsWait world event → MayHappen fragment world event
may_wait fragment world event is =
    subst (MayHappen fragment world) (sym is.1)
    (all_weaker (λ (call : NodeCall). call.id ≡ is.0 → ⊥) (λ (call : NodeCall). call.id ≡ is.0 → call.kind ≡ Move → ⊥)
    (λ call apart same move. apart same) world.calls (none_open world.calls is.0 is.2))

pub wait_premised : (world : World) (event : Event) → IsWait world event → IsPremised world event
wait_premised world event is = subst (IsPremised world) (sym is.1) (record { network = tt; log = tt; ids = tt })

-- a waiting event serves no request
serves_none : (world : World) (event other : Event) → IsWait world event → IsStillServed event other
serves_none world event other is request served =
    absurd (let clash : Event.GiveUp is.0 ≡ Event.Serve request = sym is.1 ∙ served in cc)

-- a waiting event of a world is one of each world beside it
pub still_wait : (asking : NodeCall) (world other : World) (event : Event) → IsBeside asking world other → IsWait world event →
    IsWait other event
still_wait asking world other event beside is =
    (is.0, is.1, ap (λ calls. open_call calls is.0) beside.calls ∙ closed_other asking world.calls is.0 is.2)

pub same_wait : (asking : NodeCall) (world : World) (event : Event) → IsWait world event → beside_event asking event ≡ event
same_wait asking world event is = ap (beside_event asking) is.1 ∙ sym is.1

-- Requests of a query

-- the reply of the member to a query
abbrev pub reply_in : World → (query : Message) → Message
reply_in world query =
    answered query (record { step = 0; answer = answer.Greatest (greatest_final (member_bank world query.position query.member)) })

-- the world after a member served a query: it has the reply, and one more event counts
abbrev pub replied_world : World → (query : Message) → World
replied_world world query = record world { sent = world.sent ++ reply_in world query ∷ []; now = suc world.now }

pub query_served : (fragment : Code) (world : World) (query : Message) → query.body ≡ body.Request request.Query →
    happens fragment world (Event.Serve query) ≡ replied_world world query
query_served fragment world query asks =
    ap (served_world (ticked world) query) asks
    ∙ ap (λ r. with_banks (set world.banks query.position r)) (set-get_or row query.member no_bank)
    ∙ ap with_banks (set-get_or world.banks query.position [])
  where
    row : List Bank
    row = get_or world.banks query.position []

    with_banks : List (List Bank) → World
    with_banks banks = record world { banks = banks; sent = world.sent ++ reply_in world query ∷ []; now = suc world.now }

pub reply_sent : (fragment : Code) (world : World) (query : Message) → query.body ≡ body.Request request.Query →
    WasSent (happens fragment world (Event.Serve query)) (reply_in world query)
reply_sent fragment world query asks =
    subst (λ (w : World). WasSent w (reply_in world query)) (sym (query_served fragment world query asks))
    (length world.sent, get_end world.sent (reply_in world query))

-- Beside each other

module _ (fragment : Code) (begun : NodeCall) (layout : Layout) (world other : World)
    (beside : IsBeside (querying begun layout) world other) (wait : Event) (is : IsWait world wait) where
  -- the other world, one event later, with more messages
  later_beside : (more : List Message) →
      IsBeside (querying begun layout) (ticked world) (record other { sent = other.sent ++ more; now = suc other.now })
  later_beside more = record {
    files = beside.files;
    later = beside.later;
    banks = beside.banks;
    history = beside.history;
    now = ap suc beside.now;
    calls = beside.calls;
    sent = λ message was. let there = beside.sent message was in (there.0, get_more other.sent more there.0 message there.1);
  }

  ticked_both : IsBeside (querying begun layout) (ticked world) (ticked other)
  ticked_both = record {
    files = beside.files;
    later = beside.later;
    banks = beside.banks;
    history = beside.history;
    now = ap suc beside.now;
    calls = beside.calls;
    sent = beside.sent;
  }

  -- both runs wait
  pub wait_step : IsStep fragment begun layout world other wait wait
  wait_step =
      let there = still_wait (querying begun layout) world other wait beside is in record {
        may = may_wait fragment other wait there;
        premised = wait_premised other wait there;
        beside = subst (λ w. IsBeside (querying begun layout) w (happens fragment other wait)) (sym (wait_counts fragment world wait is))
            (subst (IsBeside (querying begun layout) (ticked world)) (sym (wait_counts fragment other wait there)) ticked_both);
        served = λ request served. served;
      }

  -- where the run waits, a member serves a query in the other
  pub query_step : (query : Message) → query.body ≡ body.Request request.Query → WasSent other query →
      IsStep fragment begun layout world other wait (Event.Serve query)
  query_step query asks was = record {
    may = (request.Query, asks);
    premised = record { network = was; log = tt; ids = tt };
    beside = subst (λ w. IsBeside (querying begun layout) w (happens fragment other (Event.Serve query)))
        (sym (wait_counts fragment world wait is))
        (subst (IsBeside (querying begun layout) (ticked world)) (sym (query_served fragment other query asks))
        (later_beside (reply_in other query ∷ [])));
    served = serves_none world wait (Event.Serve query) is;
  }
