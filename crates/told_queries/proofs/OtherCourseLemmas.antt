-- The other course, in which the call queried as it began to read, up to the world that is beside the last one.
use Rattle.std.proofs.Common.{◌≡◌, ℕ, suc, ◌<◌, ◌≤◌, List, [], ◌∷◌, ◌++◌, append_assoc, length, map, Some, slice_get, subst, ap, ◌∙◌, arith}
use Rattle.std.proofs.lemmas.List.{length-map}
use Rattle.std.specs.List.{AllByRecursion}
use Rattle.tag.specs.declared.limits.TheConstants.{MOST_MEMBERS}
use Rattle.layout.specs.Layout.{IsLawful, Layout, quorum_of}
use Rattle.bank.specs.Bank.{empty_piece}
use Rattle.bank.specs.declared.kind.Kind.TheVariants.{Query}
use Rattle.mail.specs.declared.message.Message.{Message}
use Rattle.record.specs.Fragments.{Code}
use Rattle.record.specs.Sending.{requests}
use Rattle.open_calls.specs.OpenCalls.{NodeCall}
use Rattle.open_calls.specs.Queries.{ToldTag, telling_members}
use Rattle.network.specs.Worlds.{World}
use Rattle.network.specs.Events.{Event, IsOpen, world_after}
use Rattle.network.specs.Premises.{WasSent}
use Rattle.starts.proofs.FinalPositionLemmas.{lawful_quorum}
use Rattle.told_replies.specs.Tellings.{world_of}
use Rattle.told_queries.specs.Courses.{AreWaits, Course, HasRoom, ServesLeaveRoom, as_begun, events_of, run_of}
use Rattle.told_queries.specs.Courses.{turn_events}
use Rattle.told_queries.specs.Laws.{HasToldTag, IsCourse, IsFirstReading, IsToldTags}
use Rattle.told_queries.proofs.AskedTurnLemmas.{HasAsked, knows_later}
use Rattle.told_queries.proofs.BegunCourseLemmas as way
use Rattle.told_queries.proofs.BesideEventLemmas.{beside_event}
use Rattle.told_queries.proofs.BesideLemmas.{IsBeside, querying}
use Rattle.told_queries.proofs.CutLemmas.{IsCut, all_first, cut}
use Rattle.told_queries.proofs.ManyTurnsLemmas.{HasTurns, beside_all, many_turns}
use Rattle.told_queries.proofs.QuickPartLemmas.{asked_quickly, count_quick, is_first_of, query_sent, quick_beside, quick_part}
use Rattle.told_queries.proofs.QuickQueryLemmas.{IsFirstOf, IsQuick, quick_events, quick_world}
use Rattle.told_queries.proofs.RunLemmas.{run_append}
use Rattle.told_queries.proofs.SentMessageLemmas.{run_sent}
use Rattle.told_queries.proofs.StepsBesideLemmas.{steps_beside}
use Rattle.told_queries.proofs.ToldTurnLemmas as told_there
use Rattle.told_queries.proofs.TurnLemmas.{AreSteps}
use Rattle.told_queries.proofs.TurnStepLemmas.{HasSteps, IsKept, events_beside, kept_first, kept_second}
use Rattle.told_queries.proofs.UnsetPointerLemmas.{HasUnset}

-- a quorum has at most as many members as a layout may have
small_quorum : (layout : Layout) → IsLawful layout → quorum_of layout ≤ MOST_MEMBERS
small_quorum layout lawful = let a = lawful.enough in let b = lawful.few in omega arith

-- what is so of each member that told something
all_members : (P : ℕ → Type 0) (Has : ToldTag → Type 0) → ((one : ToldTag) → Has one → P one.member) → (told : List ToldTag) →
    AllByRecursion Has told → AllByRecursion P (telling_members told)
all_members P Has each [] all = tt
all_members P Has each (one ∷ told) all = (each one all.0, all_members P Has each told all.1)

module _ (fragment : Code) (course : Course) (call : NodeCall) (is : IsCourse fragment course)
    (open_there : IsOpen (world_of fragment (run_of course)) call.id call) (first : IsFirstReading call)
    (room : HasRoom fragment course call) (layout : Layout) (told : List ToldTag)
    (tells : IsToldTags fragment course call layout told) where
  abbrev begun : NodeCall
  begun = as_begun call

  abbrev begun_world : World
  begun_world = way.begun_world fragment course call is open_there first room

  abbrev before_world : World
  before_world = way.before_world fragment course call is open_there first room

  abbrev next_of : Event → Event
  next_of event = beside_event (querying begun layout) event

  abbrev steps : HasSteps fragment begun layout next_of
  steps = steps_beside fragment begun layout first.kind

  abbrev Kept : World → List Event → Type 0
  Kept world events = IsKept fragment begun layout next_of steps world events

  abbrev members : List ℕ
  members = telling_members told

  pub some : 0 < quorum_of layout
  some = lawful_quorum layout tells.lawful

  counted : length members ≡ quorum_of layout
  counted = length-map told (λ (one : ToldTag). one.member) ∙ tells.quorum

  -- The query that follows at once

  is_first : IsFirstOf call layout
  is_first =
      is_first_of fragment begun_world (way.reached_begun fragment course call is open_there first room) call layout first room.begun
      room.asked (way.known_begun fragment course call is open_there first room layout tells.lawful tells.known) tells.lawful

  pub quick : IsQuick fragment begun_world call layout members
  quick =
      quick_part fragment begun_world call layout is_first
      (way.known_begun fragment course call is open_there first room layout tells.lawful tells.known) room.begun room.asked members some
      counted tells.distinct
      (all_members (λ m. m < length layout.members) (HasToldTag fragment course call)
      (told_there.within fragment course call is open_there first room layout tells.lawful tells.known) told tells.each)
      (all_members (HasUnset begun_world call.phase.position) (HasToldTag fragment course call)
      (told_there.unset fragment course call is open_there first room layout tells.lawful tells.known) told tells.each)

  abbrev pub quickly : List Event
  quickly = quick_events call members

  abbrev pub quick_there : World
  quick_there = quick_world begun_world call layout members

  pub few : length quickly ≤ length room.turn.spare
  few =
      let a = count_quick call members in
      let b = small_quorum layout tells.lawful in
      let c = room.enough in omega (arith, counted)

  abbrev pub parts : IsCut room.turn.spare (length quickly)
  parts = cut (length quickly) room.turn.spare few

  pub first_waits : AreWaits begun_world parts.first
  first_waits = all_first _ parts.first parts.second (subst (AreWaits begun_world) parts.split room.waits)

  abbrev waited : World
  waited = world_after fragment parts.first begun_world

  beside_quick : IsBeside (querying begun layout) waited quick_there
  beside_quick =
      quick_beside fragment begun_world call layout is_first
      (way.known_begun fragment course call is open_there first room layout tells.lawful tells.known) members parts.first first_waits
      parts.long

  -- The rest of the turn, and the turns behind it

  rest_is : way.rest fragment course call is open_there first room ≡ parts.first ++ (parts.second ++ events_of room.after)
  rest_is = ap (λ spare. spare ++ events_of room.after) parts.split ∙ append_assoc parts.first parts.second (events_of room.after)

  kept_all : Kept begun_world (parts.first ++ (parts.second ++ events_of room.after))
  kept_all = subst (Kept begun_world) rest_is (record {
    reached = way.reached_begun fragment course call is open_there first room;
    may = way.may_rest fragment course call is open_there first room;
    from = way.from fragment course call is open_there first room;
    until = way.until fragment course call is open_there first room;
  })

  kept_rest : Kept waited (parts.second ++ events_of room.after)
  kept_rest = kept_second fragment begun layout next_of steps parts.first (parts.second ++ events_of room.after) begun_world kept_all

  pub spare_steps : AreSteps fragment begun layout waited quick_there parts.second (map next_of parts.second)
  spare_steps =
      events_beside fragment begun layout next_of steps parts.second waited quick_there beside_quick
      (kept_first fragment begun layout next_of steps parts.second (events_of room.after) waited kept_rest)

  abbrev pub turned : World
  turned = world_after fragment parts.second waited

  abbrev pub turned_other : World
  turned_other = world_after fragment (map next_of parts.second) quick_there

  pub spare_is : way.later_world fragment course call is open_there first room ≡ turned
  spare_is =
      ap (λ spare. world_after fragment spare begun_world) parts.split ∙ run_append fragment parts.first parts.second begun_world

  pub turned_is : world_after fragment (turn_events room.turn) before_world ≡ turned
  turned_is =
      run_append fragment room.turn.acts room.turn.spare before_world
      ∙ ap (λ spare. world_after fragment spare begun_world) parts.split ∙ run_append fragment parts.first parts.second begun_world

  asked : HasAsked fragment begun layout turned_other
  asked member within =
      run_sent fragment (map next_of parts.second) quick_there _
      (query_sent fragment begun_world call layout is_first
      (way.known_begun fragment course call is open_there first room layout tells.lawful tells.known) members member within)

  pub turns : HasTurns fragment begun layout next_of steps turned turned_other room.after
  turns =
      let here = kept_first fragment begun layout next_of steps parts.second (events_of room.after) waited kept_rest in
      let before = kept_first fragment begun layout next_of steps parts.first (parts.second ++ events_of room.after) begun_world kept_all in
      many_turns fragment begun layout next_of steps room.after turned turned_other spare_steps.beside
      (kept_second fragment begun layout next_of steps parts.second (events_of room.after) waited kept_rest)
      (knows_later fragment call.phase.position layout parts.second waited here.may
      (knows_later fragment call.phase.position layout parts.first begun_world before.may
      (way.knows fragment course call is open_there first room layout tells.lawful tells.known))) asked
      (subst (λ w. ServesLeaveRoom fragment call.id call.phase.number w room.after) turned_is room.serves)

  -- the requests of the query were sent, and stay sent
  pub quick_asked : (place : ℕ) (message : Message) →
      slice_get (requests call.id (suc call.phase.number) Query call.phase.position layout.members 0 empty_piece) place ≡ Some message →
      WasSent (world_after fragment (events_of (beside_all fragment begun layout next_of steps room.after)) turned_other) message
  quick_asked place message at =
      let known = way.known_begun fragment course call is open_there first room layout tells.lawful tells.known in
      run_sent fragment (events_of (beside_all fragment begun layout next_of steps room.after)) turned_other message
      (run_sent fragment (map next_of parts.second) quick_there message
      (asked_quickly fragment begun_world call layout is_first known members place message
      (ap (λ (l : Layout). slice_get (requests call.id (suc call.phase.number) Query call.phase.position l.members 0 empty_piece) place)
      known ∙ at)))
