-- An event of all nodes leads to a longer course of their world.
use Rattle.std.proofs.Common.{◌≡◌, ℕ, suc, ◌+◌, Bool, true, false, [], ◌∷◌, List, refl, sym, subst, ap, ◌∙◌, arith}
use Rattle.std.specs.List.{AllByRecursion}
use Rattle.record.specs.Fragments.{Code}
use Rattle.record.specs.Legal.{is_move}
use Rattle.soundness.proofs.ListLemmas.{all_get, all_weaker}
use Rattle.open_calls.proofs.ListLemmas.{all_append}
use Rattle.open_calls.proofs.OpenCallLemmas.{all_filter}
use Rattle.network.specs.Worlds.{World}
use Rattle.network.specs.Events.{world_after}
use Rattle.letter.specs.declared.letter.Letter.{Letter}
use Rattle.local_object.specs.Local.{LocalObject}
use Rattle.local_object.specs.Events.{LocalEvent, done_here}
use Rattle.local_object.specs.Outcomes.{Outcome}
use Rattle.local_object.specs.Resent.{IsResent}
use Rattle.local_object.specs.Restarts.{IsKeptHere}
use Rattle.told_replies.specs.EarlyAnswers.{early_history}
use Rattle.told_replies.specs.Tellings.{Run, world_of}
use Rattle.told_queries.specs.Courses.{Course, Turn, run_of, spare_events, turn_events}
use Rattle.refinement.specs.Parts.{WasSentAs}
use Rattle.refinement.specs.Refined.{IsPremisedHere, history_after, restart_event}
use Rattle.refinement.specs.Starting.{event_count, is_querying}
use Rattle.refinement.specs.Systems.{AreEarlyAnswers, HasPartsOf, HasRoomIfReading, IsPremisedIn, MayHappenIn, System, SystemEvent}
use Rattle.refinement.specs.Systems.{WasPosted, system_after}
use Rattle.refinement.specs.ToldLetters.{AreApart, IsTrueReport, TellsTruth}
use Rattle.refinement.specs.WellFormed.{IsWellFormed}
use Rattle.refinement.proofs.CallRoomLemmas.{rooms_done}
use Rattle.refinement.proofs.EarlyAnswerLemmas.{answers_later}
use Rattle.refinement.proofs.EarlyEventLemmas.{acted_here}
use Rattle.refinement.proofs.EarlyRunLemmas.{IsReportOf, course_longer, reached_longer, report_in_run, run_course_longer, world_longer}
use Rattle.refinement.proofs.KeptNodeLemmas.{node_kept}
use Rattle.refinement.proofs.QueriedActLemmas.{queried_acted}
use Rattle.refinement.proofs.ReportLemmas.{apart_done, true_done}
use Rattle.refinement.proofs.ResentLetterLemmas.{letters_sent}
use Rattle.refinement.proofs.RestartedNodeLemmas.{restarts_refined}
use Rattle.refinement.proofs.RoomLemmas.{LeavesRoom, waits_leave_room}
use Rattle.refinement.proofs.SystemPremiseLemmas.{HasRun, mover_here, premised_there}
use Rattle.refinement.proofs.SystemTurnLemmas.{letters_later, nodes_after, parts_after, rooms_after, rooms_here, rooms_later, told_after}
use Rattle.refinement.proofs.ToldLetterLemmas.{HearsTruth, resent_tell, sent_tell}
use Rattle.refinement.proofs.TurnLemmas.{HasTurn, with_spare}

module _ (fragment : Code) (system : System) (has : HasRun fragment system) where
  abbrev course : Course
  course = has.course

  abbrev run : Run
  run = run_of course

  abbrev world : World
  world = world_of fragment run

  abbrev is : HasPartsOf world system
  is = has.is.parts

  -- Events

  tells : (letter : Letter) → WasPosted system letter → TellsTruth fragment course letter
  tells letter posted = all_get (TellsTruth fragment course) system.letters posted.0 letter has.is.told.letters posted.1

  hears : (node : ℕ) (event : LocalEvent) → IsPremisedIn system node event → HearsTruth fragment course event
  hears node (LocalEvent.Serve letter) posted =
      all_get (WasSentAs world) system.letters posted.0 letter is.letters posted.1
  hears node (LocalEvent.Take letter) posted = tells letter posted
  hears node (LocalEvent.Redirect letter) posted = tells letter posted
  hears node _ premised = tt

  acted : (node : ℕ) (event : LocalEvent) → is_querying event ≡ false → MayHappenIn fragment system (SystemEvent.Acts node event) →
      HasRun fragment (system_after fragment system (SystemEvent.Acts node event))
  acted node event plain may = record {
    course = course_longer course turn;
    answers = led.answers;
    reached = reached_longer fragment course turn has.reached led.refined.may;
    formed = subst (IsWellFormed fragment) (sym there) led.refined.formed;
    is = record {
      parts = subst (λ w. HasPartsOf w after) (sym there) (record {
        files = led.refined.files ∙ is.files;
        nodes = nodes_after fragment system has node done.local own;
        parts = parts_after fragment system has later node done.local own led.refined.part led.refined.others;
        letters = all_append (WasSentAs later) system.letters done.sent
            (all_weaker (WasSentAs world) (WasSentAs later) led.refined.kept system.letters is.letters) led.refined.sent;
        now = led.refined.now ∙ ap (λ n. world.now + n) led.number
            ∙ ap (λ now. now + (event_count local event + spare_events)) is.now;
      });
      told = told_after fragment system has turn node done.local after refl
          (all_append (TellsTruth fragment (course_longer course turn)) system.letters done.sent
          (letters_later fragment system has turn)
          (sent_tell fragment course local event turn led.is_about has.formed (is.parts node) may.0 (hears node event may.1) led.served))
          (true_done fragment course local event (λ letter same. tells letter (subst (IsPremisedIn system node) same may.1))
          (has.is.told.reports node))
          (apart_done fragment local event (has.is.told.apart node));
      early = subst (AreEarlyAnswers fragment (run_of (course_longer course turn)) led.answers)
          (ap (λ now. history_after local event (suc now) system.history) is.now) led.early;
      rooms = rooms_after fragment system has turn leaves node done.local
          (rooms_here fragment course turn event done.local led.is_about led.acted.formed led.acted.part led.waits led.enough
          (rooms_done fragment (course_longer course turn) world local event plain has.formed (is.parts node) may.0 premised
          (rooms_later fragment system has turn leaves node)));
    };
  }
    where
      local : LocalObject
      local = system.objects node

      done : Outcome
      done = done_here fragment local event

      after : System
      after = system_after fragment system (SystemEvent.Acts node event)

      premised : IsPremisedHere world local event
      premised = premised_there fragment system has node event may.0 may.1

      led : HasTurn fragment course local event (history_after local event (suc world.now) system.history)
      led =
          with_spare fragment course local event (history_after local event (suc world.now) system.history)
          (acted_here fragment run has.answers system.history local has.reached.may has.formed (is.parts node) has.is.early event plain
          may.0 premised
          (all_weaker (IsTrueReport fragment course) (IsReportOf fragment run) (report_in_run fragment course) local.reports
          (has.is.told.reports node)) (has.is.told.apart node))

      turn : Turn
      turn = led.turn

      later : World
      later = world_after fragment (turn_events turn) world

      there : world_of fragment (run_of (course_longer course turn)) ≡ later
      there = ap (world_of fragment) (run_course_longer course turn) ∙ world_longer fragment run (turn_events turn)

      leaves : LeavesRoom fragment world turn
      leaves = waits_leave_room fragment world turn led.enough led.waits

      own : done.local.node ≡ node
      own = node_kept fragment local event ∙ is.nodes node

  resent : (node : ℕ) (letters : List Letter) → MayHappenIn fragment system (SystemEvent.Resends node letters) →
      HasRun fragment (system_after fragment system (SystemEvent.Resends node letters))
  resent node letters may =
      let local = system.objects node in record {
        course = course;
        answers = has.answers;
        reached = has.reached;
        formed = has.formed;
        is = record {
          parts = record {
            files = is.files;
            nodes = is.nodes;
            parts = is.parts;
            letters = all_append (WasSentAs world) system.letters letters is.letters
                (all_weaker (IsResent fragment local) (WasSentAs world)
                (λ letter again. letters_sent fragment world local letter has.formed (is.parts node) again) letters may);
            now = is.now;
          };
          told = record {
            letters = all_append (TellsTruth fragment course) system.letters letters has.is.told.letters
                (all_weaker (IsResent fragment local) (TellsTruth fragment course)
                (λ letter again. resent_tell fragment course local letter again) letters may);
            reports = has.is.told.reports;
            apart = has.is.told.apart;
          };
          early = has.is.early;
          rooms = has.is.rooms;
        };
      }

  restarted : (node : ℕ) (after : LocalObject) → MayHappenIn fragment system (SystemEvent.Restarts node after) →
      HasRun fragment (system_after fragment system (SystemEvent.Restarts node after))
  restarted node after may =
      let before = system.objects node in
      let events = restart_event world before.node ∷ [] in
      let turn : Turn = record { call = 0; acts = events; spare = [] } in
      let further = course_longer course turn in
      let later = world_after fragment events world in
      let there : world_of fragment (run_of further) ≡ later =
      ap (world_of fragment) (run_course_longer course turn) ∙ world_longer fragment run events in
      let kept : IsKeptHere (before.node ≡ (world.files before.node).mover) before after = record {
        node = may.node;
        delta = may.delta;
        start = may.start;
        layouts = may.layouts;
        first = may.first;
        banks = may.banks;
        reports = may.reports;
        calls = may.calls;
        mover = λ moves. may.mover (mover_here fragment system has node moves);
      } in
      let led = restarts_refined fragment world before after has.formed (is.parts node) kept in
      let own = may.node ∙ is.nodes node in
      let one : later.now ≡ suc system.now = omega (arith, led.0.now, is.now) in
      let none = sym may.reports in
      let leaves : LeavesRoom fragment world turn = λ request acts. absurd (cc) in record {
        course = further;
        answers = has.answers;
        reached = reached_longer fragment course turn has.reached led.0.may;
        formed = subst (IsWellFormed fragment) (sym there) led.0.formed;
        is = record {
          parts = subst (λ w. HasPartsOf w (system_after fragment system (SystemEvent.Restarts node after))) (sym there) (record {
            files = led.0.files ∙ is.files;
            nodes = nodes_after fragment system has node after own;
            parts = parts_after fragment system has later node after own led.0.part led.0.others;
            letters = all_weaker (WasSentAs world) (WasSentAs later) led.0.kept system.letters is.letters;
            now = one;
          });
          told = told_after fragment system has turn node after (system_after fragment system (SystemEvent.Restarts node after)) refl
              (letters_later fragment system has turn) (subst (AllByRecursion (IsTrueReport fragment course)) none tt)
              (subst AreApart none tt);
          early = subst (λ r. AreEarlyAnswers fragment r has.answers system.history) (sym (run_course_longer course turn))
              (answers_later fragment run events has.answers system.history system.history has.is.early led.0.may
              (ap (early_history has.answers) led.1 ∙ has.is.early.same));
          rooms = rooms_after fragment system has turn leaves node after
              (subst (AllByRecursion (HasRoomIfReading fragment further)) (sym may.calls)
              (all_filter (HasRoomIfReading fragment further) (λ call. is_move call.kind) before.calls
              (rooms_later fragment system has turn leaves node)));
        };
      }

  -- a first reading that stands for its query has a proof of its own
  acts : (node : ℕ) (event : LocalEvent) (querying : Bool) → is_querying event ≡ querying →
      MayHappenIn fragment system (SystemEvent.Acts node event) →
      HasRun fragment (system_after fragment system (SystemEvent.Acts node event))
  acts node event false plain may = acted node event plain may
  acts node event true querying may = queried_acted fragment system has node event querying may

  pub one_event : (event : SystemEvent) → MayHappenIn fragment system event → HasRun fragment (system_after fragment system event)
  one_event (SystemEvent.Acts node event) may = acts node event (is_querying event) refl may
  one_event (SystemEvent.Resends node letters) may = resent node letters may
  one_event (SystemEvent.Restarts node after) may = restarted node after may
