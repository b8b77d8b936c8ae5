-- Messages that were sent stay sent, and layouts of positions with members stay known.
use Rattle.std.proofs.Common.{◌≡◌, ℕ, List, [], ◌∷◌, ◌++◌, Option, None, Some, slice_get}
use Rattle.bank.specs.declared.kind.Kind.{Kind}
use Rattle.mail.specs.declared.message.Body.{Body}
use Rattle.mail.specs.declared.message.Body.TheVariants as body
use Rattle.mail.specs.declared.message.Message.{Message}
use Rattle.record.specs.Fragments.{Code}
use Rattle.open_calls.specs.OpenCalls.{NodeCall, due_phase, open_call, taking_open, with_open}
use Rattle.network.specs.Worlds.{World}
use Rattle.network.specs.Events.{Event, advanced_world, answered_world, happens, on_open, served_world, world_after}
use Rattle.network.specs.Premises.{WasSent}
use Rattle.starts.proofs.FinalPointerLemmas.{get_more, ticked}

-- what was sent in the one world was sent in the other
abbrev pub StillSent : World → World → Type 0
StillSent world new = (message : Message) → WasSent world message → WasSent new message

-- with more messages behind
sent_more : (world : World) (more : List Message) (message : Message) → WasSent world message →
    (place : ℕ) × (slice_get (world.sent ++ more) place ≡ Some message)
sent_more world more message was = (was.0, get_more world.sent more was.0 message was.1)

still_open : (world base : World) (o : Option NodeCall) (change : NodeCall → World) → StillSent world base →
    ((call : NodeCall) → StillSent world (change call)) → StillSent world (on_open base o change)
still_open world base None change none some = none
still_open world base (Some call) change none some = some call

still_advanced : (fragment : Code) (world : World) (call : NodeCall) (o : Option (Kind × ℕ)) →
    StillSent world (advanced_world fragment (ticked world) call o)
still_advanced fragment world call None = λ message was. was
still_advanced fragment world call (Some next) = sent_more world _

still_served : (world : World) (message : Message) (b : Body) → StillSent world (served_world (ticked world) message b)
still_served world message (body.Request asked) = sent_more world _
still_served world message (body.Reply kind made) = λ other was. was

pub sent_stays : (fragment : Code) (world : World) (event : Event) → StillSent world (happens fragment world event)
sent_stays fragment world (Event.BeginRead node id) = sent_more world _
sent_stays fragment world (Event.BeginWrite node id value) = sent_more world _
sent_stays fragment world (Event.BeginMove node id layout) = sent_more world _
sent_stays fragment world (Event.Advance id) =
    still_open world (ticked world) (open_call world.calls id)
    (λ call. advanced_world fragment (ticked world) call (due_phase call)) (λ message was. was)
    (λ call. still_advanced fragment world call (due_phase call))
sent_stays fragment world (Event.Serve message) = still_served world message message.body
sent_stays fragment world (Event.Take message) =
    still_open world (ticked world) (open_call world.calls message.call)
    (λ call. record (ticked world) { calls = with_open (taking_open message call) world.calls }) (λ other was. was)
    (λ call other was. was)
sent_stays fragment world (Event.Settle id value) =
    still_open world (ticked world) (open_call world.calls id)
    (λ call. record (ticked world) { calls = with_open (record call { settled = Some value }) world.calls }) (λ other was. was)
    (λ call other was. was)
sent_stays fragment world (Event.Answer id) =
    still_open world (ticked world) (open_call world.calls id) (λ call. answered_world (ticked world) call) (λ other was. was)
    (λ call other was. was)
sent_stays fragment world (Event.GiveUp id) = λ message was. was
sent_stays fragment world (Event.Restart node banks calls) = λ message was. was

pub run_sent : (fragment : Code) (events : List Event) (world : World) → StillSent world (world_after fragment events world)
run_sent fragment [] world = λ message was. was
run_sent fragment (event ∷ events) world =
    λ message was. run_sent fragment events (happens fragment world event) message (sent_stays fragment world event message was)
