-- The first reading of a call stands for its query: all nodes have a world in which the call queried.
use Rattle.std.proofs.Common.{◌≡◌, ◌+◌, ℕ, true, false, eq-eqb, List, [], ◌++◌, length, None, sym, subst, ap, ◌∙◌, arith}
use Rattle.std.specs.List.{AllByRecursion}
use Rattle.layout.specs.Layout.{Layout, quorum_of}
use Rattle.record.specs.Fragments.{Code}
use Rattle.record.specs.declared.stage.Stage.TheVariants.{ReadNext}
use Rattle.soundness.proofs.ListLemmas.{all_both, all_weaker}
use Rattle.network.specs.Worlds.{World}
use Rattle.network.specs.Premises.{IsUnused, WasSent}
use Rattle.open_calls.specs.OpenCalls.{NodeCall, open_call, with_open}
use Rattle.open_calls.specs.Queries.{ToldTag, queried, query_stage}
use Rattle.open_calls.proofs.ListLemmas.{all_append}
use Rattle.open_calls.proofs.OpenCallLemmas.{all_with, found}
use Rattle.starts.specs.Reading.{HasSent}
use Rattle.letter.specs.declared.letter.Letter.{Letter}
use Rattle.local_object.specs.declared.report.Report.{Report}
use Rattle.local_object.specs.Local.{LocalObject, layout_here}
use Rattle.local_object.specs.Events.{LocalEvent, done_here, queried_here}
use Rattle.local_object.specs.May.{MayHappenHere}
use Rattle.local_object.specs.Outcomes.{Outcome, on_open_call, silent}
use Rattle.local_object.specs.Reports.{tags_told}
use Rattle.told_replies.specs.EarlyAnswers.{EarlyAnswer, IsEarly, early_answer_to, early_history}
use Rattle.told_replies.specs.Tellings.{world_of}
use Rattle.told_queries.specs.Courses.{Course, HasRoom, Turn, run_of, spare_events}
use Rattle.told_queries.specs.Laws.{IsFirstReading, IsToldTags, ReadingsMayQuery, StandsForQuery}
use Rattle.refinement.specs.Parts.{IsPartOf, WasSentAs}
use Rattle.refinement.specs.Starting.{event_count, is_querying, quorum_known, replies_taken}
use Rattle.refinement.specs.Systems.{AreEarlyAnswers, HasPartsOf, HasRoomIfReading, IsToldTruth, MayHappenIn, System, SystemEvent}
use Rattle.refinement.specs.Systems.{system_after, with_object_at}
use Rattle.refinement.specs.ToldLetters.{AreApart, IsTrueReport, TellsTruth}
use Rattle.refinement.specs.WellFormed.{IsWellFormed}
use Rattle.refinement.proofs.ChangedCallLemmas.{IsCarried, carried}
use Rattle.refinement.proofs.EarlyRunLemmas.{course_longer, early_later, letter_later, reached_longer, report_later}
use Rattle.refinement.proofs.EarlyRunLemmas.{run_course_longer, world_longer}
use Rattle.refinement.proofs.PartLemmas.{IsKept}
use Rattle.refinement.proofs.QueriedCourseLemmas.{at_each, letter_there, none_to, others_differ, report_there}
use Rattle.refinement.proofs.QueriedTagLemmas.{told_by_quorum}
use Rattle.refinement.proofs.QueriedWorldLemmas.{queried_kept, queried_world}
use Rattle.refinement.proofs.RoomLemmas.{room_later}
use Rattle.refinement.proofs.SystemPremiseLemmas.{HasRun}
use Rattle.refinement.proofs.WaitingLemmas.{WaitsLong, later_world, waits_long}

append_sums : (a b c : ℕ) → (a + b) + c ≡ a + (b + c)
append_sums a b c = omega arith

module _ (fragment : Code) (system : System) (has : HasRun fragment system) (node id : ℕ)
    (may : MayHappenHere fragment (system.objects node) (LocalEvent.Query id)) where
  abbrev world : World
  world = world_of fragment (run_of has.course)

  abbrev parts : HasPartsOf world system
  parts = has.is.parts

  abbrev local : LocalObject
  local = system.objects node

  abbrev call : NodeCall
  call = may.0

  abbrev layout : Layout
  layout = may.2.layout

  abbrev told : List ToldTag
  told = tags_told layout call.id call.phase.number local.reports

  -- the call after the query, and what the node keeps then
  abbrev new : NodeCall
  new = queried call layout told

  abbrev after : LocalObject
  after = record local { calls = with_open new local.calls }

  is : IsCarried world local id call
  is = carried fragment world local id call has.formed (parts.parts node) may.1

  reads : IsFirstReading call
  reads = record { client = may.2.client; stage = may.2.stage; kind = may.2.kind }

  tags : IsToldTags fragment has.course call layout told
  tags = told_by_quorum fragment has.course call local has.formed (parts.parts node) is.node (has.is.told.reports node)
      (has.is.told.apart node) layout may.2.known may.2.quorum

  room : HasRoom fragment has.course call
  room = (found (HasRoomIfReading fragment has.course) local.calls id call (has.is.rooms node) may.1).0 reads

  stands_if : ReadingsMayQuery → StandsForQuery fragment has.course call layout told
  stands_if law =
      law fragment has.course call layout told has.reached (ap (open_call world.calls) is.same_id ∙ is.open_there) reads room tags

  -- all nodes after the node did this, and after so many events
  abbrev system_of : Outcome → (count : ℕ) → System
  system_of done count = record {
    files = system.files;
    objects = with_object_at system.objects node done.local;
    letters = system.letters ++ done.sent;
    history = system.history;
    now = system.now + (count + spare_events);
  }

  module _ (stands : StandsForQuery fragment has.course call layout told) where
    -- the world after the query, and so many events since the world from before
    abbrev world_at : (count : ℕ) → World
    world_at count = queried_world fragment world local id call has.formed (parts.parts node) is layout may.2.known told stands.sent count

    kept : (count : ℕ) → IsKept fragment world (world_at count) (silent after) count world.history
    kept count = queried_kept fragment world local id call has.formed (parts.parts node) is layout may.2.known told stands.sent count
        (λ message was. subst (λ w. WasSent w message) stands.world (stands.still_sent message was))
        (subst (λ w. HasSent w new) stands.world stands.asked)

    -- the world of the other course waits
    waits : WaitsLong fragment (world_of fragment (run_of stands.other)) (silent after) spare_events
    waits =
        let first = kept (length told) in
        waits_long fragment spare_events (world_of fragment (run_of stands.other)) (silent after)
        (subst (IsWellFormed fragment) (sym stands.world) first.formed) (subst (λ w. IsPartOf w after) (sym stands.world) first.part) tt

    abbrev turn : Turn
    turn = record { call = 0; acts = []; spare = waits.events }

    -- the other course with this turn, and its world
    abbrev course : Course
    course = course_longer stands.other turn

    abbrev count : ℕ
    count = length told + spare_events

    abbrev later : World
    later = world_at count

    there : world_of fragment (run_of course) ≡ later
    there = ap (world_of fragment) (run_course_longer stands.other turn)
        ∙ world_longer fragment (run_of stands.other) waits.events ∙ waits.later
        ∙ ap (λ (w : World). later_world w (w.now + spare_events)) stands.world
        ∙ ap (later_world later) (append_sums world.now (length told) spare_events)

    -- other calls
    room_there : (other : NodeCall) → (other.id ≡ id → ⊥) → HasRoomIfReading fragment has.course other →
        HasRoomIfReading fragment course other
    room_there other differ had reading =
        room_later fragment stands.other turn other (λ request acts. absurd (cc))
        (stands.still_room other (λ same. differ (same ∙ is.same_id)) (had reading))

    other_ids : (other : ℕ) → (other ≡ node → ⊥) → AllByRecursion (λ c. c.id ≡ id → ⊥) (system.objects other).calls
    other_ids other apart =
        subst (AllByRecursion (λ c. c.id ≡ id → ⊥)) (sym (parts.parts other).calls)
        (others_differ world.calls id call (system.objects other).node has.formed.ids is.open_there
        (λ same. apart (sym (parts.nodes other) ∙ same ∙ is.node ∙ parts.nodes node)))

    rooms : (other : ℕ) →
        AllByRecursion (HasRoomIfReading fragment course) (with_object_at system.objects node after other).calls
    rooms = at_each (λ other object. AllByRecursion (HasRoomIfReading fragment course) object.calls) system.objects node after
        (all_with (HasRoomIfReading fragment has.course) (HasRoomIfReading fragment course) new local.calls (has.is.rooms node)
        (λ reading. absurd (let wrong : query_stage call.phase.position ≡ ReadNext call.phase.position call.phase.position =
        reading.stage in cc))
        (λ other differ had. room_there other
        (λ same. absurd (let wrong : false ≡ true = sym differ ∙ eq-eqb other.id call.id (same ∙ sym is.same_id) in cc)) had))
        (λ other apart. all_both room_there (system.objects other).calls (other_ids other apart) (has.is.rooms other))

    parts_there : HasPartsOf later (system_of (silent after) (quorum_of layout))
    parts_there = record {
      files = (kept count).files ∙ parts.files;
      nodes = at_each (λ other object. object.node ≡ other) system.objects node after (parts.nodes node)
          (λ other apart. parts.nodes other);
      parts = at_each (λ other object. IsPartOf later object) system.objects node after (kept count).part
          (λ other apart. (kept count).others (system.objects other) (λ same. apart (sym (parts.nodes other) ∙ same ∙ parts.nodes node))
          (parts.parts other));
      letters = all_append (WasSentAs later) system.letters []
          (all_weaker (WasSentAs world) (WasSentAs later) (kept count).kept system.letters parts.letters) tt;
      now = ap (λ n. world.now + (n + spare_events)) tags.quorum ∙ ap (λ n. n + (quorum_of layout + spare_events)) parts.now;
    }

    -- what was told is true in the new course
    letter_still : (letter : Letter) → TellsTruth fragment has.course letter → TellsTruth fragment course letter
    letter_still letter tells = letter_later fragment stands.other turn letter
        (letter_there fragment has.course stands.other stands.still_told letter tells)

    report_still : (report : Report) → IsTrueReport fragment has.course report → IsTrueReport fragment course report
    report_still report is_true = report_later fragment stands.other turn report
        (report_there fragment has.course stands.other stands.still_told report is_true)

    reports_still : (other : ℕ) → AllByRecursion (IsTrueReport fragment course) (system.objects other).reports
    reports_still other =
        all_weaker (IsTrueReport fragment has.course) (IsTrueReport fragment course) report_still (system.objects other).reports
        (has.is.told.reports other)

    told_there : IsToldTruth fragment course (system_of (silent after) (quorum_of layout))
    told_there = record {
      letters = all_append (TellsTruth fragment course) system.letters []
          (all_weaker (TellsTruth fragment has.course) (TellsTruth fragment course) letter_still system.letters has.is.told.letters) tt;
      reports = at_each (λ other object. AllByRecursion (IsTrueReport fragment course) object.reports) system.objects node after
          (reports_still node) (λ other apart. reports_still other);
      apart = at_each (λ other object. AreApart object.reports) system.objects node after (has.is.told.apart node)
          (λ other apart. has.is.told.apart other);
    }

    -- no answer was to the call
    none : early_answer_to has.answers call.id ≡ None
    none = (found (λ (c : NodeCall). early_answer_to has.answers c.id ≡ None) world.calls id call has.is.early.ended is.open_there).0

    early_there : (answer : EarlyAnswer) → (answer.id ≡ call.id → ⊥) → IsEarly fragment (run_of has.course) answer →
        IsEarly fragment (run_of course) answer
    early_there answer differ early =
        subst (λ run. IsEarly fragment run answer) (sym (run_course_longer stands.other turn))
        (early_later fragment (run_of stands.other) waits.events answer (stands.still_early answer differ early))

    answers_there : AreEarlyAnswers fragment (run_of course) has.answers system.history
    answers_there = record {
      early = all_both early_there has.answers (none_to has.answers call.id none) has.is.early.early;
      ended = subst (λ (w : World). AllByRecursion (λ (c : NodeCall). early_answer_to has.answers c.id ≡ None) w.calls) (sym there)
          (all_with (λ (c : NodeCall). early_answer_to has.answers c.id ≡ None)
          (λ (c : NodeCall). early_answer_to has.answers c.id ≡ None) new world.calls has.is.early.ended none (λ other apart e. e));
      used = λ other unused. has.is.early.used other (subst (λ w. IsUnused w other) there unused);
      same = ap (λ (w : World). early_history has.answers w.history) there ∙ has.is.early.same;
    }

    has_queried : HasRun fragment (system_of (silent after) (quorum_of layout))
    has_queried = record {
      course = course;
      answers = has.answers;
      reached = reached_longer fragment stands.other turn stands.is_course waits.refined.may;
      formed = subst (IsWellFormed fragment) (sym there) (kept count).formed;
      is = record {
        parts = subst (λ w. HasPartsOf w (system_of (silent after) (quorum_of layout))) (sym there) parts_there;
        told = told_there;
        early = answers_there;
        rooms = rooms;
      };
    }

  done_is : silent after ≡ done_here fragment local (LocalEvent.Query id)
  done_is = ap (queried_here local call) (sym may.2.known)
      ∙ ap (λ o. on_open_call local o (λ c. queried_here local c (layout_here local c.phase.position))) (sym may.1)

  counted : quorum_of layout ≡ event_count local (LocalEvent.Query id)
  counted = ap quorum_known (sym may.2.known) ∙ ap (replies_taken local) (sym may.1)

-- by the law, the event leads to a world of all nodes
pub queried_if : ReadingsMayQuery → (fragment : Code) (system : System) (has : HasRun fragment system) (node : ℕ) (event : LocalEvent) →
    is_querying event ≡ true → MayHappenIn fragment system (SystemEvent.Acts node event) →
    HasRun fragment (system_after fragment system (SystemEvent.Acts node event))
queried_if law fragment system has node (LocalEvent.Query id) querying may =
    subst (λ count. HasRun fragment (system_of fragment system has node id may.0 (done_here fragment (system.objects node)
    (LocalEvent.Query id)) count)) (counted fragment system has node id may.0)
    (subst (λ done. HasRun fragment (system_of fragment system has node id may.0 done (quorum_of may.0.2.layout)))
    (done_is fragment system has node id may.0)
    (has_queried fragment system has node id may.0 (stands_if fragment system has node id may.0 law)))
queried_if law fragment system has node _ querying may = absurd (cc)
