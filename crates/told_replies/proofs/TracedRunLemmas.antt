-- A run and its record: for each world on the way there is a record that this world followed, of which the last record
-- keeps the past.
use Rattle.std.proofs.Common.{◌≡◌, ℕ, zero, suc, ◌+◌, ◌≤◌, List, [], ◌∷◌, ◌++◌, Option, None, Some, refl, sym, subst, arith}
use Rattle.bank.specs.declared.kind.Kind.{Kind}
use Rattle.mail.specs.declared.message.Body.{Body}
use Rattle.mail.specs.declared.message.Body.TheVariants as body
use Rattle.mail.specs.declared.message.Message.{Message}
use Rattle.layout.specs.Layout.{IsLawful}
use Rattle.record.specs.Fragments.{Code, IsCode}
use Rattle.record.specs.Records.{Object}
use Rattle.record.specs.Steps.{opened_object}
use Rattle.soundness.specs.Sound.{IsSound}
use Rattle.open_calls.specs.OpenCalls.{NodeCall, due_phase, open_call, taking_open, with_open}
use Rattle.network.specs.Worlds.{ClusterFile, World, opened_world}
use Rattle.network.specs.Events.{Event, MayHappen, advanced_world, answered_world, happens, on_open, served_world}
use Rattle.network.specs.Events.{world_after}
use Rattle.network.specs.Premises.{IsOneFile, IsPremised, MayHappenInTurn}
use Rattle.network.specs.Following.{Follows, LeadsOn, last_step_after, run_numbered}
use Rattle.network.specs.Followed.{IsFollowed}
use Rattle.network.proofs.AnsweredCallLemmas.{answer_followed}
use Rattle.network.proofs.BegunCallLemmas.{read_followed, write_followed}
use Rattle.network.proofs.BegunMoveLemmas.{move_followed}
use Rattle.network.proofs.BegunPhaseLemmas.{advance_followed}
use Rattle.network.proofs.RestartedNodeLemmas.{give_up_followed, restart_followed}
use Rattle.network.proofs.ServedRequestLemmas.{serve_followed}
use Rattle.network.proofs.SettledValueLemmas.{settle_followed}
use Rattle.network.proofs.TakenReplyLemmas.{take_followed}
use Rattle.network.proofs.WorldLawLemmas.{all_runs_followed}
use Rattle.told_replies.proofs.KeptPastLemmas.{KeepsPast, past_same, past_twice}
use Rattle.told_replies.proofs.KeptStepLemmas.{run_keeps, run_rises}

event_followed : (event : Event) → IsFollowed event
event_followed (Event.BeginRead node id) = read_followed node id
event_followed (Event.BeginWrite node id value) = write_followed node id value
event_followed (Event.BeginMove node id layout) = move_followed node id layout
event_followed (Event.Advance id) = advance_followed id
event_followed (Event.Serve message) = serve_followed message
event_followed (Event.Take message) = take_followed message
event_followed (Event.Settle id value) = settle_followed id value
event_followed (Event.Answer id) = answer_followed id
event_followed (Event.GiveUp id) = give_up_followed id
event_followed (Event.Restart node banks calls) = restart_followed node banks calls

-- the world followed a record of which the last one keeps the past
pub record Remembers (fragment : Code) (world : World) (last : Object) : Type 0 where
  pub object : Object
  pub sound : IsSound fragment object (last_step_after world.now)
  pub follows : Follows world object
  pub kept : KeepsPast (last_step_after world.now) object last

-- the record at the end of a run, which keeps the past of each world on the way
pub record IsTraced (fragment : Code) (world : World) (events : List Event) (object : Object) : Type 0 where
  pub last : Object
  pub sound : IsSound fragment last (last_step_after (world_after fragment events world).now)
  pub follows : Follows (world_after fragment events world) last
  pub kept : KeepsPast (last_step_after world.now) object last
  pub each : (before after : List Event) → events ≡ before ++ after → Remembers fragment (world_after fragment before world) last

-- an event, and then others
one_more : (fragment : Code) (event : Event) (events : List Event) (world : World) (object : Object) →
    IsSound fragment object (last_step_after world.now) → Follows world object →
    (led : LeadsOn fragment object (last_step_after world.now) (happens fragment world event)) →
    IsTraced fragment (happens fragment world event) events (run_numbered fragment led.steps object) →
    IsTraced fragment world (event ∷ events) object
one_more fragment event events world object sound follows led rest = record {
  last = rest.last;
  sound = rest.sound;
  follows = rest.follows;
  kept = kept;
  each = split;
}
  where
    kept : KeepsPast (last_step_after world.now) object rest.last
    kept =
        past_twice (last_step_after world.now) (last_step_after (happens fragment world event).now) object
        (run_numbered fragment led.steps object) rest.last
        (run_rises fragment led.steps (last_step_after world.now) (last_step_after (happens fragment world event).now) object led.may)
        (run_keeps fragment led.steps (last_step_after world.now) (last_step_after (happens fragment world event).now) object led.may)
        rest.kept

    split : (before after : List Event) → event ∷ events ≡ before ++ after →
        Remembers fragment (world_after fragment before world) rest.last
    split [] after e = record { object = object; sound = sound; follows = follows; kept = kept }
    split (first ∷ before) after e =
        let same : first ≡ event = cc in
        let later : events ≡ before ++ after = cc in
        subst (λ f. Remembers fragment (world_after fragment before (happens fragment world f)) rest.last) (sym same)
        (rest.each before after later)

traced : (fragment : Code) → IsCode fragment → (events : List Event) (world : World) (object : Object) →
    IsSound fragment object (last_step_after world.now) → Follows world object → MayHappenInTurn fragment events world →
    IsTraced fragment world events object
traced fragment code [] world object sound follows may = record {
  last = object;
  sound = sound;
  follows = follows;
  kept = past_same (last_step_after world.now) object;
  each = none;
}
  where
    none : (before after : List Event) → [] ≡ before ++ after → Remembers fragment (world_after fragment before world) object
    none [] after e = record {
      object = object;
      sound = sound;
      follows = follows;
      kept = past_same (last_step_after world.now) object;
    }
    none (event ∷ before) after e = absurd (cc)
traced fragment code (event ∷ events) world object sound follows may =
    let led = event_followed event fragment world object code sound follows may.0 may.1 in
    one_more fragment event events world object sound follows led
    (traced fragment code events (happens fragment world event) (run_numbered fragment led.steps object) led.sound led.follows may.2)

-- the record of a run from an opened world
pub record IsRecorded (fragment : Code) (files : ℕ → ClusterFile) (events : List Event) : Type 0 where
  pub last : Object
  pub sound : IsSound fragment last (last_step_after (world_after fragment events (opened_world files)).now)
  pub follows : Follows (world_after fragment events (opened_world files)) last
  pub each : (before after : List Event) → events ≡ before ++ after →
      Remembers fragment (world_after fragment before (opened_world files)) last

pub recorded : (fragment : Code) → IsCode fragment → (files : ℕ → ClusterFile) (events : List Event) → IsOneFile files →
    IsLawful (files 0).first → MayHappenInTurn fragment events (opened_world files) → IsRecorded fragment files events
recorded fragment code files events one lawful may =
    let start = all_runs_followed fragment files [] code one lawful tt in
    let object = run_numbered fragment start.steps (opened_object (files 0).first (files 0).delta 0) in
    let it = traced fragment code events (opened_world files) object start.sound start.follows may in
    record { last = it.last; sound = it.sound; follows = it.follows; each = it.each }

-- An event of a run

-- an event of a run might happen, and met the premises
pub may_at : (fragment : Code) (before : List Event) (event : Event) (after : List Event) (world : World) →
    MayHappenInTurn fragment (before ++ event ∷ after) world →
    MayHappen fragment (world_after fragment before world) event × IsPremised (world_after fragment before world) event
may_at fragment [] event after world may = (may.0, may.1)
may_at fragment (first ∷ before) event after world may = may_at fragment before event after (happens fragment world first) may.2

-- the events up to one of them, and that event
pub after_one : (fragment : Code) (before : List Event) (event : Event) (world : World) →
    world_after fragment (before ++ event ∷ []) world ≡ happens fragment (world_after fragment before world) event
after_one fragment [] event world = refl
after_one fragment (first ∷ before) event world = after_one fragment before event (happens fragment world first)

pub after_append : (fragment : Code) (first second : List Event) (world : World) →
    world_after fragment (first ++ second) world ≡ world_after fragment second (world_after fragment first world)
after_append fragment [] second world = refl
after_append fragment (event ∷ first) second world = after_append fragment first second (happens fragment world event)

-- Numbers of events

opened_now : (base : World) (o : Option NodeCall) (change : NodeCall → World) → ((call : NodeCall) → (change call).now ≡ base.now) →
    (on_open base o change).now ≡ base.now
opened_now base None change each = refl
opened_now base (Some call) change each = each call

advanced_now : (fragment : Code) (world : World) (call : NodeCall) (o : Option (Kind × ℕ)) →
    (advanced_world fragment world call o).now ≡ world.now
advanced_now fragment world call None = refl
advanced_now fragment world call (Some next) = refl

served_now : (world : World) (message : Message) (b : Body) → (served_world world message b).now ≡ world.now
served_now world message (body.Request asked) = refl
served_now world message (body.Reply kind made) = refl

-- the world with one more event counted
abbrev ticked : World → World
ticked world = record world { now = suc world.now }

happens_now : (fragment : Code) (world : World) (event : Event) → (happens fragment world event).now ≡ suc world.now
happens_now fragment world (Event.BeginRead node id) = refl
happens_now fragment world (Event.BeginWrite node id value) = refl
happens_now fragment world (Event.BeginMove node id layout) = refl
happens_now fragment world (Event.Advance id) =
    opened_now (ticked world) (open_call world.calls id)
    (λ call. advanced_world fragment (ticked world) call (due_phase call))
    (λ call. advanced_now fragment (ticked world) call (due_phase call))
happens_now fragment world (Event.Serve message) = served_now (ticked world) message message.body
happens_now fragment world (Event.Take message) =
    opened_now (ticked world) (open_call world.calls message.call)
    (λ call. record (ticked world) { calls = with_open (taking_open message call) world.calls }) (λ call. refl)
happens_now fragment world (Event.Settle id value) =
    opened_now (ticked world) (open_call world.calls id)
    (λ call. record (ticked world) { calls = with_open (record call { settled = Some value }) world.calls }) (λ call. refl)
happens_now fragment world (Event.Answer id) =
    opened_now (ticked world) (open_call world.calls id) (λ call. answered_world (ticked world) call) (λ call. refl)
happens_now fragment world (Event.GiveUp id) = refl
happens_now fragment world (Event.Restart node banks calls) = refl

pub now_rises : (fragment : Code) (events : List Event) (world : World) → world.now ≤ (world_after fragment events world).now
now_rises fragment [] world = (let same : world.now ≤ world.now = omega arith in same)
now_rises fragment (event ∷ events) world =
    let first = happens_now fragment world event in
    let rest = now_rises fragment events (happens fragment world event) in omega arith

pub steps_of : (events : ℕ) → last_step_after events ≡ events + events
steps_of zero = refl
steps_of (suc events) = let rest = steps_of events in omega arith
