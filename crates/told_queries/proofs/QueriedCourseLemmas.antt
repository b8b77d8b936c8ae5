-- The other course replays the first one, and the call takes the replies to its query in the end.
use Rattle.std.proofs.Common.{◌≡◌, ◌+◌, List, [], ◌∷◌, ◌++◌, length, map, sym, subst, subst₂, ap, ◌∙◌}
use Rattle.std.specs.List.{AllByRecursion}
use Rattle.layout.specs.Layout.{Layout}
use Rattle.record.specs.Fragments.{Code}
use Rattle.open_calls.specs.OpenCalls.{NodeCall, with_open}
use Rattle.open_calls.specs.Queries.{ToldTag, queried}
use Rattle.network.specs.Worlds.{World, opened_world}
use Rattle.network.specs.Events.{Event, IsOpen, happens, world_after}
use Rattle.network.specs.Premises.{WasSent}
use Rattle.told_replies.specs.Tellings.{world_of}
use Rattle.told_queries.specs.Courses.{Course, HasRoom, Turn, as_begun, events_of, run_of}
use Rattle.told_queries.specs.Laws.{HasToldTag, IsCourse, IsFirstReading, IsToldTags}
use Rattle.told_queries.proofs.BegunCourseLemmas as way
use Rattle.told_queries.proofs.BesideEventLemmas.{beside_event}
use Rattle.told_queries.proofs.BesideLemmas.{querying}
use Rattle.told_queries.proofs.LastTakesLemmas.{Does, last_takes, query_reply, takes_tags_there}
use Rattle.told_queries.proofs.OtherCourseLemmas as there
use Rattle.told_queries.proofs.OtherRunLemmas as run
use Rattle.told_queries.proofs.ReplayLemmas.{Replays, replays_append, replays_same, same_world}
use Rattle.told_queries.proofs.ToldTurnLemmas as told_there
use Rattle.told_queries.proofs.TurnStepLemmas as step

-- what is so of each of a list, from what it has
all_told : (P Has : ToldTag → Type 0) → ((one : ToldTag) → Has one → P one) → (told : List ToldTag) →
    AllByRecursion Has told → AllByRecursion P told
all_told P Has each [] all = tt
all_told P Has each (one ∷ told) all = (each one all.0, all_told P Has each told all.1)

module _ (fragment : Code) (course : Course) (call : NodeCall) (is : IsCourse fragment course)
    (open_there : IsOpen (world_of fragment (run_of course)) call.id call) (first : IsFirstReading call)
    (room : HasRoom fragment course call) (layout : Layout) (told : List ToldTag)
    (tells : IsToldTags fragment course call layout told) where
  abbrev opened : World
  opened = opened_world course.files

  abbrev begun_world : World
  begun_world = way.begun_world fragment course call is open_there first room

  abbrev before_world : World
  before_world = way.before_world fragment course call is open_there first room

  abbrev next_of : Event → Event
  next_of event = beside_event (querying (as_begun call) layout) event

  abbrev quickly : List Event
  quickly = there.quickly fragment course call is open_there first room layout told tells

  abbrev first_part : List Event
  first_part = (there.parts fragment course call is open_there first room layout told tells).first

  abbrev second_part : List Event
  second_part = (there.parts fragment course call is open_there first room layout told tells).second

  abbrev quick_there : World
  quick_there = there.quick_there fragment course call is open_there first room layout told tells

  abbrev others : List Turn
  others = run.others fragment course call is open_there first room layout told tells

  abbrev behind : List Turn
  behind = run.behind fragment course call is open_there first room layout told tells

  abbrev last : World
  last = world_of fragment (run_of course)

  abbrev beside_last : World
  beside_last = run.beside_last fragment course call is open_there first room layout told tells

  -- The other run replays the first one

  replays_behind : Replays fragment call.id (second_part ++ events_of room.after) (world_after fragment first_part begun_world)
      (map next_of second_part ++ events_of behind) quick_there
  replays_behind =
      replays_append fragment call.id second_part (events_of room.after) (world_after fragment first_part begun_world)
      (map next_of second_part) (events_of behind) quick_there
      (there.spare_steps fragment course call is open_there first room layout told tells).replays
      (there.turns fragment course call is open_there first room layout told tells).does.replays

  replays_begun : Replays fragment call.id (first_part ++ (second_part ++ events_of room.after)) begun_world
      (quickly ++ (map next_of second_part ++ events_of behind)) begun_world
  replays_begun =
      let quick = there.quick fragment course call is open_there first room layout told tells in
      replays_append fragment call.id first_part (second_part ++ events_of room.after) begun_world quickly
      (map next_of second_part ++ events_of behind) begun_world
      (quick.replays begun_world first_part (same_world call.id begun_world)
      (there.first_waits fragment course call is open_there first room layout told tells)
      (there.parts fragment course call is open_there first room layout told tells).long)
      (subst (λ w. Replays fragment call.id (second_part ++ events_of room.after) (world_after fragment first_part begun_world)
      (map next_of second_part ++ events_of behind) w) (sym quick.does.result) replays_behind)

  replays_all : Replays fragment call.id
      (events_of room.before ++ (room.turn.acts ++ (first_part ++ (second_part ++ events_of room.after)))) opened
      (events_of room.before ++ (room.turn.acts ++ (quickly ++ (map next_of second_part ++ events_of behind)))) opened
  replays_all =
      replays_append fragment call.id (events_of room.before) (room.turn.acts ++ (first_part ++ (second_part ++ events_of room.after)))
      opened (events_of room.before) (room.turn.acts ++ (quickly ++ (map next_of second_part ++ events_of behind))) opened
      (replays_same fragment call.id (events_of room.before) opened)
      (replays_append fragment call.id room.turn.acts (first_part ++ (second_part ++ events_of room.after)) before_world room.turn.acts
      (quickly ++ (map next_of second_part ++ events_of behind)) before_world
      (replays_same fragment call.id room.turn.acts before_world) replays_begun)

  pub replays : Replays fragment call.id (events_of course.turns) opened (events_of others) opened
  replays =
      subst₂ (λ a b. Replays fragment call.id a opened b opened)
      (sym (run.firsts_are fragment course call is open_there first room layout told tells))
      (sym (run.others_are fragment course call is open_there first room layout told tells)) replays_all

  -- The replies

  replied : (one : ToldTag) → HasToldTag fragment course call one → WasSent beside_last (query_reply call one)
  replied one has =
      let behind_is = told_there.is_behind fragment course call is open_there first room one has in
      subst (WasSent beside_last)
      (told_there.reply_is fragment course call is open_there first room layout tells.lawful tells.known one has)
      (subst (λ w. WasSent beside_last (step.query_reply (happens fragment w (Event.Serve has.request)) has.request))
      (later_is behind_is.middle)
      ((there.turns fragment course call is open_there first room layout told tells).replied behind_is.middle has.was.turn has.was.after
      has.request behind_is.after_is (record {
        about = has.was.about ∙ has.same_call;
        serves = has.was.serves;
        same_call = has.same_call;
        same_phase = has.same_phase;
      })))
    where
      later_is : (middle : List Turn) → world_after fragment (events_of middle) (there.turned fragment course call is open_there first room
          layout told tells) ≡ world_after fragment (events_of middle) (way.later_world fragment course call is open_there first room)
      later_is middle =
          ap (world_after fragment (events_of middle))
          (sym (there.spare_is fragment course call is open_there first room layout told tells))

  -- the world as it is beside the last one
  beside_is : record last { calls = with_open (querying call layout) last.calls; sent = beside_last.sent } ≡ beside_last
  beside_is =
      let is_beside = run.beside fragment course call is open_there first room layout told tells in
      sym (ap (λ files. let w : World = record beside_last { files = files } in w) is_beside.files
      ∙ ap (λ later. let w : World = record beside_last { files = last.files; later = later } in w) is_beside.later
      ∙ ap (λ banks. let w : World = record beside_last { files = last.files; later = last.later; banks = banks } in w) is_beside.banks
      ∙ ap (λ history. let w : World = record last {
        calls = beside_last.calls;
        sent = beside_last.sent;
        history = history;
        now = beside_last.now;
      } in w) is_beside.history
      ∙ ap (λ now. let w : World = record last { calls = beside_last.calls; sent = beside_last.sent; now = now } in w) is_beside.now
      ∙ ap (λ calls. let w : World = record last { calls = calls; sent = beside_last.sent } in w) is_beside.calls)

  abbrev pub end : World
  end = record last {
    calls = with_open (queried call layout told) last.calls;
    sent = beside_last.sent;
    now = last.now + length told;
  }

  pub takes : Does fragment (last_takes call told) beside_last end
  takes =
      subst (λ w. Does fragment (last_takes call told) w end) beside_is
      (takes_tags_there fragment last beside_last.sent call layout told open_there
      (there.some fragment course call is open_there first room layout told tells) tells.quorum tells.distinct
      (all_told (λ one. WasSent (record last { sent = beside_last.sent }) (query_reply call one)) (HasToldTag fragment course call)
      replied told tells.each))
