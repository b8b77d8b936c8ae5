-- A world counts its events.
use Rattle.std.proofs.Common.{◌≡◌, ℕ, suc, ◌+◌, List, [], ◌∷◌, length, Option, Some, None, refl, arith}
use Rattle.mail.specs.declared.message.Body.{Body}
use Rattle.mail.specs.declared.message.Body.TheVariants as body
use Rattle.mail.specs.declared.message.Message.{Message}
use Rattle.bank.specs.declared.kind.Kind.{Kind}
use Rattle.record.specs.Fragments.{Code}
use Rattle.open_calls.specs.OpenCalls.{NodeCall, due_phase, open_call}
use Rattle.network.specs.Worlds.{World}
use Rattle.network.specs.Events.{Event, advanced_world, changed, happens, on_open, served_world, world_after}

-- a change that needs a call leaves the number of events as it is, if it does so where there is one
counted_open : (world : World) (o : Option NodeCall) (change : NodeCall → World) →
    ((call : NodeCall) → (change call).now ≡ world.now) → (on_open world o change).now ≡ world.now
counted_open world None change same = refl
counted_open world (Some call) change same = same call

counted_advance : (fragment : Code) (world : World) (call : NodeCall) (o : Option (Kind × ℕ)) →
    (advanced_world fragment world call o).now ≡ world.now
counted_advance fragment world call None = refl
counted_advance fragment world call (Some next) = refl

counted_serve : (world : World) (message : Message) (b : Body) → (served_world world message b).now ≡ world.now
counted_serve world message (body.Request asked) = refl
counted_serve world message (body.Reply kind made) = refl

counted : (fragment : Code) (world : World) (event : Event) → (changed fragment world event).now ≡ world.now
counted fragment world (Event.BeginRead node id) = refl
counted fragment world (Event.BeginWrite node id value) = refl
counted fragment world (Event.BeginMove node id layout) = refl
counted fragment world (Event.Advance id) =
    counted_open world (open_call world.calls id) (λ call. advanced_world fragment world call (due_phase call))
    (λ call. counted_advance fragment world call (due_phase call))
counted fragment world (Event.Serve message) = counted_serve world message message.body
counted fragment world (Event.Take message) = counted_open world (open_call world.calls message.call) _ (λ call. refl)
counted fragment world (Event.Settle id value) = counted_open world (open_call world.calls id) _ (λ call. refl)
counted fragment world (Event.Answer id) = counted_open world (open_call world.calls id) _ (λ call. refl)
counted fragment world (Event.GiveUp id) = refl
counted fragment world (Event.Restart node banks calls) = refl

pub count_after : (fragment : Code) (events : List Event) (world : World) →
    (world_after fragment events world).now ≡ world.now + length events
count_after fragment [] world = omega arith
count_after fragment (event ∷ events) world =
    let one : (happens fragment world event).now ≡ suc world.now =
    counted fragment (record world { now = suc world.now }) event in
    let rest : (world_after fragment events (happens fragment world event)).now ≡ (happens fragment world event).now + length events =
    count_after fragment events (happens fragment world event) in omega arith
