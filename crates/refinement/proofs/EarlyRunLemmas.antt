-- What was told and answered in a run lasts as the run goes on, and so does what was told in the turns of a course.
use Rattle.std.proofs.Common.{◌≡◌, ℕ, List, [], ◌∷◌, ◌++◌, append_assoc, append-nil, refl, sym, subst, ap, ◌∙◌}
use Rattle.mail.specs.declared.message.Message.{Message}
use Rattle.record.specs.Fragments.{Code}
use Rattle.letter.specs.Tellings.{SaysNoMore}
use Rattle.letter.specs.declared.letter.Letter.{Letter}
use Rattle.letter.specs.declared.telling.Telling.{Telling}
use Rattle.local_object.specs.declared.report.Report.{Report}
use Rattle.network.specs.Worlds.{opened_world}
use Rattle.network.specs.Events.{Event, world_after}
use Rattle.network.specs.Laws.{IsReached}
use Rattle.network.specs.Premises.{MayHappenInTurn}
use Rattle.told_replies.specs.EarlyAnswers.{EarlyAnswer, IsEarly}
use Rattle.told_replies.specs.Tellings.{Run, WasTold, run_until, world_of}
use Rattle.told_queries.specs.Courses.{Course, Turn, WasToldIn, events_of, run_of, turn_events}
use Rattle.told_queries.specs.Laws.{IsCourse}
use Rattle.refinement.specs.ToldLetters.{IsTrueReport, IsTrueTelling, TellsTruth}
use Rattle.refinement.proofs.EventRunLemmas.{may_append, run_append}

-- the run with more events
abbrev pub longer : Run → List Event → Run
longer run more = run_until run (run.events ++ more)

pub world_longer : (fragment : Code) (run : Run) (more : List Event) →
    world_of fragment (longer run more) ≡ world_after fragment more (world_of fragment run)
world_longer fragment run more = run_append fragment run.events more (opened_world run.files)

pub longer_twice : (run : Run) (first second : List Event) → longer (longer run first) second ≡ longer run (first ++ second)
longer_twice run first second = ap (run_until run) (append_assoc run.events first second)

abbrev pub is_reached : (fragment : Code) (course : Course) → IsCourse fragment course →
    IsReached fragment (world_of fragment (run_of course))
is_reached fragment course reached = record {
  files = course.files;
  one = reached.one;
  lawful = reached.lawful;
  events = events_of course.turns;
  may = reached.may;
  result = refl;
}

-- Courses with one more turn

-- the course with this turn at its end
abbrev pub course_longer : Course → Turn → Course
course_longer course turn = record { files = course.files; turns = course.turns ++ turn ∷ [] }

pub events_append : (first second : List Turn) → events_of (first ++ second) ≡ events_of first ++ events_of second
events_append [] second = refl
events_append (turn ∷ first) second =
    ap (λ events. turn_events turn ++ events) (events_append first second)
    ∙ sym (append_assoc (turn_events turn) (events_of first) (events_of second))

pub events_longer : (turns : List Turn) (turn : Turn) → events_of (turns ++ turn ∷ []) ≡ events_of turns ++ turn_events turn
events_longer turns turn =
    events_append turns (turn ∷ []) ∙ ap (λ events. events_of turns ++ events) (append-nil (turn_events turn))

pub run_course_longer : (course : Course) (turn : Turn) → run_of (course_longer course turn) ≡ longer (run_of course) (turn_events turn)
run_course_longer course turn = ap (run_until (run_of course)) (events_longer course.turns turn)

pub reached_longer : (fragment : Code) (course : Course) (turn : Turn) → IsCourse fragment course →
    MayHappenInTurn fragment (turn_events turn) (world_of fragment (run_of course)) → IsCourse fragment (course_longer course turn)
reached_longer fragment course turn reached may = record {
  one = reached.one;
  lawful = reached.lawful;
  may = subst (λ events. MayHappenInTurn fragment events (opened_world course.files)) (sym (events_longer course.turns turn))
      (may_append fragment (events_of course.turns) (turn_events turn) (opened_world course.files) reached.may may);
}

-- What was told in a course

module _ (fragment : Code) (course : Course) (turn : Turn) where
  told_later : (request : Message) (telling : Telling) → WasToldIn fragment course request telling →
      WasToldIn fragment (course_longer course turn) request telling
  told_later request telling told = record {
    before = told.before;
    turn = told.turn;
    after = told.after ++ turn ∷ [];
    split = ap (λ turns. turns ++ turn ∷ []) told.split ∙ append_assoc told.before (told.turn ∷ told.after) (turn ∷ []);
    about = told.about;
    serves = told.serves;
    tells = told.tells;
  }

  pub true_later : (call phase member : ℕ) (telling : Telling) → IsTrueTelling fragment course call phase member telling →
      IsTrueTelling fragment (course_longer course turn) call phase member telling
  true_later call phase member telling is = record {
    request = is.request;
    whole = is.whole;
    told = told_later is.request is.whole is.told;
    less = is.less;
    same_call = is.same_call;
    same_phase = is.same_phase;
    same_member = is.same_member;
  }

  pub letter_later : (letter : Letter) → TellsTruth fragment course letter →
      TellsTruth fragment (course_longer course turn) letter
  unfolding true_later
  letter_later letter tells telling told =
      let truth = tells telling told in
      (true_later letter.message.call letter.message.phase letter.message.member telling truth.0, truth.1)

  pub report_later : (report : Report) → IsTrueReport fragment course report →
      IsTrueReport fragment (course_longer course turn) report
  report_later report is = true_later report.call report.phase report.member report.telling is

-- What was told in a run

-- the member told this phase of the call at least this, with a reply that it made in the run
pub record IsTrueInRun (fragment : Code) (run : Run) (call phase member : ℕ) (telling : Telling) : Type 0 where
  pub request : Message
  pub whole : Telling
  pub told : WasTold fragment run request whole
  pub less : SaysNoMore telling whole
  pub same_call : request.call ≡ call
  pub same_phase : request.phase ≡ phase
  pub same_member : request.member ≡ member

-- what the report says was told in the run
abbrev pub IsReportOf : Code → Run → Report → Type 0
IsReportOf fragment run report = IsTrueInRun fragment run report.call report.phase report.member report.telling

-- what was told in a turn of a course was told in its run
pub told_in_run : (fragment : Code) (course : Course) (request : Message) (telling : Telling) →
    WasToldIn fragment course request telling → WasTold fragment (run_of course) request telling
told_in_run fragment course request telling told = record {
  before = events_of told.before;
  after = told.turn.spare ++ events_of told.after;
  served = ap events_of told.split ∙ events_append told.before (told.turn ∷ told.after)
      ∙ ap (λ events. events_of told.before ++ events)
      (append_assoc told.turn.acts told.turn.spare (events_of told.after)
      ∙ ap (λ acts. acts ++ (told.turn.spare ++ events_of told.after)) told.serves);
  tells = told.tells;
}

pub report_in_run : (fragment : Code) (course : Course) (report : Report) → IsTrueReport fragment course report →
    IsReportOf fragment (run_of course) report
report_in_run fragment course report is = record {
  request = is.request;
  whole = is.whole;
  told = told_in_run fragment course is.request is.whole is.told;
  less = is.less;
  same_call = is.same_call;
  same_phase = is.same_phase;
  same_member = is.same_member;
}

module _ (fragment : Code) (run : Run) (more : List Event) where
  pub run_report_later : (report : Report) → IsReportOf fragment run report → IsReportOf fragment (longer run more) report
  run_report_later report is =
      let told = is.told in record {
        request = is.request;
        whole = is.whole;
        told = record {
          before = told.before;
          after = told.after ++ more;
          served = ap (λ events. events ++ more) told.served
              ∙ append_assoc told.before (Event.Serve is.request ∷ told.after) more;
          tells = told.tells;
        };
        less = is.less;
        same_call = is.same_call;
        same_phase = is.same_phase;
        same_member = is.same_member;
      }

  pub early_later : (answer : EarlyAnswer) → IsEarly fragment run answer → IsEarly fragment (longer run more) answer
  early_later answer early = record {
    before = early.before;
    after = early.after ++ more;
    until = ap (λ events. events ++ more) early.until ∙ append_assoc early.before early.after more;
    now = early.now;
    call = early.call;
    carried = early.carried;
    ends = early.ends;
  }
