-- The run of the other course: it may happen, replays the first one, and the call takes the replies to its query in the end.
use Rattle.std.proofs.Common.{◌≡◌, ◌+◌, List, [], ◌∷◌, ◌++◌, append_assoc, length, map, refl, sym, subst, ap, ◌∙◌}
use Rattle.std.proofs.lemmas.List.{length-append, length-map}
use Rattle.layout.specs.Layout.{Layout}
use Rattle.record.specs.Fragments.{Code}
use Rattle.open_calls.specs.OpenCalls.{NodeCall}
use Rattle.open_calls.specs.Queries.{ToldTag}
use Rattle.network.specs.Worlds.{World, opened_world}
use Rattle.network.specs.Events.{Event, IsOpen, world_after}
use Rattle.network.specs.Premises.{MayHappenInTurn}
use Rattle.told_replies.specs.Tellings.{world_of}
use Rattle.told_queries.specs.Courses.{Course, HasRoom, Turn, as_begun, events_of, run_of}
use Rattle.told_queries.specs.Laws.{IsCourse, IsFirstReading, IsToldTags}
use Rattle.told_queries.proofs.AlikeLemmas.{AreAlike}
use Rattle.told_queries.proofs.AlikeTurnLemmas.{alike_append, alike_same, alike_turns}
use Rattle.told_queries.proofs.BegunCourseLemmas as way
use Rattle.told_queries.proofs.BesideEventLemmas.{beside_event}
use Rattle.told_queries.proofs.BesideLemmas.{IsBeside, querying}
use Rattle.told_queries.proofs.CutLemmas.{IsCut}
use Rattle.told_queries.proofs.LastTakesLemmas.{Does, last_takes}
use Rattle.told_queries.proofs.ManyTurnsLemmas.{HasTurns, beside_all}
use Rattle.told_queries.proofs.OtherCourseLemmas as there
use Rattle.told_queries.proofs.RunLemmas.{may_append, run_append}
use Rattle.told_queries.proofs.SplitCourseLemmas.{events_append}
use Rattle.told_queries.proofs.StepsBesideLemmas.{steps_beside}

module _ (fragment : Code) (course : Course) (call : NodeCall) (is : IsCourse fragment course)
    (open_there : IsOpen (world_of fragment (run_of course)) call.id call) (first : IsFirstReading call)
    (room : HasRoom fragment course call) (layout : Layout) (told : List ToldTag)
    (tells : IsToldTags fragment course call layout told) where
  abbrev opened : World
  opened = opened_world course.files

  abbrev begun_world : World
  begun_world = way.begun_world fragment course call is open_there first room

  abbrev before_world : World
  before_world = way.before_world fragment course call is open_there first room

  abbrev next_of : Event → Event
  next_of event = beside_event (querying (as_begun call) layout) event

  abbrev quickly : List Event
  quickly = there.quickly fragment course call is open_there first room layout told tells

  abbrev first_part : List Event
  first_part = (there.parts fragment course call is open_there first room layout told tells).first

  abbrev second_part : List Event
  second_part = (there.parts fragment course call is open_there first room layout told tells).second

  abbrev quick_there : World
  quick_there = there.quick_there fragment course call is open_there first room layout told tells

  abbrev turned : World
  turned = there.turned fragment course call is open_there first room layout told tells

  abbrev turned_other : World
  turned_other = there.turned_other fragment course call is open_there first room layout told tells

  abbrev turns : HasTurns fragment (as_begun call) layout next_of (steps_beside fragment (as_begun call) layout first.kind) turned
      turned_other room.after
  turns = there.turns fragment course call is open_there first room layout told tells

  -- The turns of the other course

  abbrev pub turn : Turn
  turn = record { call = room.turn.call; acts = room.turn.acts; spare = quickly ++ map next_of second_part }

  abbrev pub behind : List Turn
  behind = beside_all fragment (as_begun call) layout next_of (steps_beside fragment (as_begun call) layout first.kind) room.after

  abbrev pub others : List Turn
  others = room.before ++ turn ∷ behind

  -- the turn in which the call takes the replies
  abbrev pub last_turn : Turn
  last_turn = record { call = call.id; acts = last_takes call told; spare = [] }

  abbrev pub other : Course
  other = record { files = course.files; turns = others ++ last_turn ∷ [] }

  alike_begun : AreAlike call.id (room.turn ∷ room.after) (turn ∷ behind)
  alike_begun = (
    record {
      call = refl;
      acts = refl;
      spare = length-append quickly (map next_of second_part)
          ∙ ap (λ n. n + length (map next_of second_part)) (sym cut_is.long)
          ∙ ap (λ n. length first_part + n) (length-map second_part next_of)
          ∙ sym (length-append first_part second_part) ∙ ap length (sym cut_is.split);
      serves = λ message it. it;
      served = λ message it. it;
      reserve = λ apart world are. absurd (apart room.about);
    },
    alike_turns (as_begun call) (querying (as_begun call) layout) room.after,
  )
    where
      cut_is : IsCut room.turn.spare (length quickly)
      cut_is = there.parts fragment course call is open_there first room layout told tells

  pub alike : AreAlike call.id course.turns others
  alike =
      subst (λ all. AreAlike call.id all others) (sym room.split)
      (alike_append call.id room.before (room.turn ∷ room.after) room.before (turn ∷ behind) (alike_same call.id room.before) alike_begun)

  -- Their events

  pub others_are : events_of others
      ≡ events_of room.before ++ (room.turn.acts ++ (quickly ++ (map next_of second_part ++ events_of behind)))
  others_are =
      events_append room.before (turn ∷ behind)
      ∙ ap (λ l. events_of room.before ++ l) (append_assoc room.turn.acts (quickly ++ map next_of second_part) (events_of behind)
      ∙ ap (λ l. room.turn.acts ++ l) (append_assoc quickly (map next_of second_part) (events_of behind)))

  pub firsts_are : events_of course.turns
      ≡ events_of room.before ++ (room.turn.acts ++ (first_part ++ (second_part ++ events_of room.after)))
  firsts_are =
      way.all_events fragment course call is open_there first room
      ∙ ap (λ spare. events_of room.before ++ (room.turn.acts ++ (spare ++ events_of room.after)))
      (there.parts fragment course call is open_there first room layout told tells).split
      ∙ ap (λ l. events_of room.before ++ (room.turn.acts ++ l)) (append_assoc first_part second_part (events_of room.after))

  may_behind : MayHappenInTurn fragment (map next_of second_part ++ events_of behind) quick_there
  may_behind =
      may_append fragment (map next_of second_part) (events_of behind) quick_there
      (there.spare_steps fragment course call is open_there first room layout told tells).may turns.does.may

  quick_is : Does fragment quickly begun_world quick_there
  quick_is = (there.quick fragment course call is open_there first room layout told tells).does

  may_begun : MayHappenInTurn fragment (quickly ++ (map next_of second_part ++ events_of behind)) begun_world
  may_begun =
      may_append fragment quickly (map next_of second_part ++ events_of behind) begun_world quick_is.may
      (subst (MayHappenInTurn fragment (map next_of second_part ++ events_of behind)) (sym quick_is.result) may_behind)

  pub may_others : MayHappenInTurn fragment (events_of others) opened
  may_others =
      subst (λ events. MayHappenInTurn fragment events opened) (sym others_are)
      (may_append fragment (events_of room.before) (room.turn.acts ++ (quickly ++ (map next_of second_part ++ events_of behind))) opened
      (way.may_before fragment course call is open_there first room)
      (may_append fragment room.turn.acts (quickly ++ (map next_of second_part ++ events_of behind)) before_world
      (way.may_acts fragment course call is open_there first room) may_begun))

  -- the world after them
  abbrev pub beside_last : World
  beside_last = world_after fragment (events_of behind) turned_other

  pub world_others : world_after fragment (events_of others) opened ≡ beside_last
  world_others =
      ap (λ events. world_after fragment events opened) others_are
      ∙ run_append fragment (events_of room.before) _ opened ∙ run_append fragment room.turn.acts _ before_world
      ∙ run_append fragment quickly _ begun_world
      ∙ ap (world_after fragment (map next_of second_part ++ events_of behind)) quick_is.result
      ∙ run_append fragment (map next_of second_part) (events_of behind) quick_there

  pub world_last : world_of fragment (run_of course) ≡ world_after fragment (events_of room.after) turned
  world_last =
      way.last_is fragment course call is open_there first room
      ∙ ap (λ spare. world_after fragment (spare ++ events_of room.after) begun_world)
      (there.parts fragment course call is open_there first room layout told tells).split
      ∙ run_append fragment (first_part ++ second_part) (events_of room.after) begun_world
      ∙ ap (world_after fragment (events_of room.after)) (run_append fragment first_part second_part begun_world)

  pub beside : IsBeside (querying call layout) (world_of fragment (run_of course)) beside_last
  beside = subst (λ w. IsBeside (querying call layout) w beside_last) (sym world_last) turns.does.beside
