-- Events, and then more events, that change one open call.
use Rattle.std.proofs.Common.{◌≡◌, ℕ, true, cond, eqb, List, [], ◌∷◌, ◌++◌, Some, refl, sym, ap, ◌∙◌, subst, append_assoc}
use Rattle.std.proofs.Common.{eq-eqb, ◌+◌, ◌≤◌, arith, length}
use Rattle.std.proofs.lemmas.List.{length-append}
use Rattle.std.proofs.Common.{Bool, false}
use Rattle.mail.specs.declared.message.Message.{Message}
use Rattle.record.specs.Fragments.{Code}
use Rattle.open_calls.specs.OpenCalls.{NodeCall, open_call, with_open}
use Rattle.open_calls.proofs.OpenCallLemmas.{found_with}
use Rattle.network.specs.Worlds.{World}
use Rattle.network.specs.Events.{Event, happens, world_after}
use Rattle.network.specs.Premises.{MayHappenInTurn, WasSent}
use Rattle.starts.specs.Reading.{HasSent, LeadsTo, world_with}
use Rattle.starts.proofs.FinalPointerLemmas.{get_more}

run_append : (fragment : Code) (first second : List Event) (world : World) →
    world_after fragment (first ++ second) world ≡ world_after fragment second (world_after fragment first world)
run_append fragment [] second world = refl
run_append fragment (event ∷ first) second world = run_append fragment first second (happens fragment world event)

may_append : (fragment : Code) (first second : List Event) (world : World) → MayHappenInTurn fragment first world →
    MayHappenInTurn fragment second (world_after fragment first world) → MayHappenInTurn fragment (first ++ second) world
may_append fragment [] second world a b = b
may_append fragment (event ∷ first) second world a b =
    (a.0, a.1, may_append fragment first second (happens fragment world event) a.2 b)

-- a call that is changed twice
pub with_twice : (first second : NodeCall) (calls : List NodeCall) → second.id ≡ first.id →
    with_open second (with_open first calls) ≡ with_open second calls
with_twice first second [] same = refl
with_twice first second (call ∷ calls) same =
    ap (λ (c : NodeCall). c ∷ with_open second (with_open first calls)) (head (eqb call.id first.id) refl)
    ∙ ap (λ l. cond (eqb call.id second.id) second call ∷ l) (with_twice first second calls same)
  where
    head : (b : Bool) → eqb call.id first.id ≡ b →
        cond (eqb (cond b first call).id second.id) second (cond b first call) ≡ cond (eqb call.id second.id) second call
    head true is =
        ap (λ c. cond c second first) (eq-eqb first.id second.id (sym same))
        ∙ sym (ap (λ c. cond c second call) (ap (eqb call.id) same ∙ is))
    head false is = refl

-- what was sent stays sent
pub still_sent : (world : World) (call : NodeCall) (sent : List Message) (now : ℕ) (message : Message) → WasSent world message →
    WasSent (world_with world call sent now) message
still_sent world call sent now message was = (was.0, get_more world.sent sent was.0 message was.1)

-- the call that was changed is found by its id
pub found_changed : (calls : List NodeCall) (old new : NodeCall) → open_call calls new.id ≡ Some old →
    open_call (with_open new calls) new.id ≡ Some new
found_changed calls old new found =
    found_with new calls new.id old found ∙ ap (λ b. Some (cond b new old)) (eq-eqb new.id new.id refl)

-- the world, where one call is changed twice
twice_with : (world : World) (first second : NodeCall) (sent more : List Message) (now later : ℕ) → second.id ≡ first.id →
    world_with (world_with world first sent now) second more later ≡ world_with world second (sent ++ more) later
twice_with world first second sent more now later same =
    ap (λ calls. let w : World = record world { calls = calls; sent = (world.sent ++ sent) ++ more; now = later } in w)
    (with_twice first second world.calls same)
    ∙ ap (λ all. let w : World = record world { calls = with_open second world.calls; sent = all; now = later } in w)
    (append_assoc world.sent sent more)

-- the requests of the call to which events lead were sent
pub sent_there : (fragment : Code) (world : World) (call : NodeCall) (most : ℕ) (a : LeadsTo fragment world call most) →
    HasSent (world_with world call a.sent a.now) call
sent_there fragment world call most a = subst (λ w. HasSent w call) a.result a.asked

-- events that lead to a call, and then events that lead from there to what it becomes
pub then_leads : (fragment : Code) (world : World) (first second : NodeCall) (m n : ℕ) → second.id ≡ first.id →
    (a : LeadsTo fragment world first m) → LeadsTo fragment (world_with world first a.sent a.now) second n →
    LeadsTo fragment world second (m + n)
then_leads fragment world first second m n same a b =
    let middle : world_after fragment (a.events ++ b.events) world ≡ world_after fragment b.events (world_with world first a.sent a.now) =
    run_append fragment a.events b.events world ∙ ap (world_after fragment b.events) a.result in record {
      events = a.events ++ b.events;
      few = within;
      may = may_append fragment a.events b.events world a.may (subst (MayHappenInTurn fragment b.events) (sym a.result) b.may);
      sent = a.sent ++ b.sent;
      now = b.now;
      result = middle ∙ b.result ∙ twice_with world first second a.sent b.sent a.now b.now same;
      asked = subst (λ w. HasSent w second) (sym middle) b.asked;
    }
  where
    within : length (a.events ++ b.events) ≤ m + n
    within = let e = length-append a.events b.events in omega (arith, e, a.few, b.few)

-- at most so many events are at most as many as a greater number
pub leads_within : (fragment : Code) (world : World) (call : NodeCall) (m n : ℕ) → m ≤ n → LeadsTo fragment world call m →
    LeadsTo fragment world call n
leads_within fragment world call m n more a = record {
  events = a.events;
  few = omega (arith, more, a.few);
  may = a.may;
  sent = a.sent;
  now = a.now;
  result = a.result;
  asked = a.asked;
}
