-- The phases of a finished call have the shape of a whole one, and a call whose phases have that shape is finished.
use Rattle.std.proofs.Common.{◌≡◌, ◌≢◌, ℕ, ◌≤◌, List, [], ◌∷◌, ◌++◌, length}
use Rattle.std.proofs.Common.{Some, is_some, refl, sym, subst, ap, arith, le_refl}
use Rattle.tag.specs.declared.tag.Tag.{Tag}
use Rattle.tag.specs.Tag.{opening_tag}
use Rattle.mail.specs.Phase.{Phase}
use Rattle.record.specs.declared.call.CallKind.{CallKind}
use Rattle.record.specs.declared.call.CallKind.TheVariants.{Read, Write, Move}
use Rattle.record.specs.declared.stage.Stage.{Stage}
use Rattle.record.specs.declared.stage.Stage.TheVariants.{ReadBegin, ReadNext, QueryFrom}
use Rattle.record.specs.declared.stage.Stage.TheVariants.{MoveSpread}
use Rattle.record.specs.declared.stage.Stage.TheVariants.{Ended, Moved}
use Rattle.record.specs.PhaseOrder.{tagged, stage_after}
use Rattle.record.specs.Legal.{source_of, stage_of}
use Rattle.record.specs.Journals.{stage_tag}
use Rattle.record.specs.Grammar.{AreQueries, greatest_shown, TakesTag, place_shown, IsRest, ArePhasesOfCall, attempt_phases}
use Rattle.record.specs.Shape.{AreInTurn, IsFinished, FinishedAreWhole, AnsweredAreWhole}
use Rattle.record.proofs.Phases.AfterQueryLemmas.{rest_of, rest_path, rest_placed, rest_from}
use Rattle.record.proofs.Phases.AttemptLemmas.{place_same, attempt_split}
use Rattle.record.proofs.Phases.CourseAndPathLemmas.{IsLast, path_of_course, course_of_path, reading-bound}
use Rattle.record.proofs.Phases.GivenUpAttemptLemmas.{attempts_path}
use Rattle.record.proofs.Phases.PhasePathLemmas.{IsPath, path-append, reading_path, begin_path}
use Rattle.record.proofs.Phases.QueryPathLemmas.{place_after, takes_of}
use Rattle.record.proofs.Phases.RepeatedReadingLemmas.{queries_path}
use Rattle.record.proofs.Phases.WholeMoveLemmas.{move_of_path, path_of_move}

pub whole_of_path : (kind : CallKind) (number : ℕ) (phases : List Phase) (end : Stage) (tag : Tag) → kind ≢ Move → IsLast end →
    stage_tag end ≡ Some tag → IsPath kind number ReadBegin phases end → ArePhasesOfCall kind number phases tag
whole_of_path kind number phases end tag reads ends has path =
    let found = attempt_split kind reads number (length phases) phases (le_refl (length phases)) end (ap is_some has) path in
    let place = place_after opening_tag found.to found.to found.queries in
    let top = greatest_shown opening_tag found.queries in
    let takes = takes_of kind number place found.last top found.rest end tag reads has found.enough found.path in
    record {
      finds = record {
        attempts = found.attempts;
        first = found.first;
        queries = found.queries;
        rest = found.rest;
        given_up = found.given_up;
        split = found.split;
        last = found.last;
        finalized = found.to;
        start = found.start;
        reading = found.reading;
        asked = found.asked;
        takes = takes;
      };
      rest = rest_placed kind number found.last top tag found.rest (λ t. place_shown t found.to found.to found.queries) place
          (place_same found.queries found.to) takes
          (rest_of kind number place found.last top found.rest end tag ends takes found.enough found.path);
    }

after_queries : (kind : CallKind) (number : ℕ) (queries rest : List Phase) (last finalized : ℕ) (tag : Tag) →
    finalized ≤ last → AreQueries finalized last queries → TakesTag kind number (greatest_shown opening_tag queries) tag →
    IsRest kind tag (place_shown tag finalized finalized queries) last rest →
    (at : ℕ) × IsPath kind number (QueryFrom finalized last opening_tag finalized) (queries ++ rest) (Ended at tag)
after_queries kind number [] rest last finalized tag h asked takes is = absurd (let e = asked in omega arith)
after_queries kind number (query ∷ later) rest last finalized tag h asked takes is =
    let queries = query ∷ later in
    let top = greatest_shown opening_tag queries in
    let place = place_after opening_tag finalized finalized queries in
    let way = rest_path kind number place last top rest tag takes
    (rest_from kind number last top tag rest (λ t. place_shown t finalized finalized queries) place
    (place_same queries finalized) takes is) in (
      way.0,
      path-append kind number queries rest (QueryFrom finalized last opening_tag finalized)
          (tagged kind number place last top) (Ended way.0 tag)
          (queries_path kind number query later finalized last opening_tag finalized asked) way.1,
    )

pub path_of_whole : (kind : CallKind) (number : ℕ) (phases : List Phase) (tag : Tag) → ArePhasesOfCall kind number phases tag →
    (at : ℕ) × IsPath kind number ReadBegin phases (Ended at tag)
path_of_whole kind number phases tag whole =
    let finds = whole.finds in
    let way = after_queries kind number finds.queries finds.rest finds.last finds.finalized tag
    (reading-bound finds.first finds.start finds.start finds.last finds.finalized (le_refl finds.start) finds.reading)
    finds.asked finds.takes whole.rest in (
      way.0,
      subst (λ xs. IsPath kind number ReadBegin xs (Ended way.0 tag)) (sym finds.split)
          (path-append kind number (attempt_phases finds.attempts) (finds.first ++ (finds.queries ++ finds.rest)) ReadBegin
          ReadBegin (Ended way.0 tag) (attempts_path kind number finds.attempts finds.given_up)
          (begin_path kind number finds.first (finds.queries ++ finds.rest) finds.start finds.start finds.last finds.finalized
          (Ended way.0 tag) finds.reading
          (path-append kind number finds.first (finds.queries ++ finds.rest) (ReadNext finds.start finds.start)
          (QueryFrom finds.finalized finds.last opening_tag finds.finalized) (Ended way.0 tag)
          (reading_path kind number finds.first finds.start finds.start finds.last finds.finalized finds.reading) way.1))),
    )

-- finished calls

finished_of : (kind : CallKind) (number : ℕ) (stage end : Stage) (phases : List Phase) (tag : Tag) → AreInTurn phases →
    IsPath kind number stage phases end → IsLast end → stage_tag end ≡ Some tag → IsFinished kind number stage phases tag
finished_of kind number stage end phases tag turn path last has = grind (arith, course_of_path)

read_finished : (kind : CallKind) (number : ℕ) (phases : List Phase) (tag : Tag) → kind ≢ Move →
    IsFinished kind number ReadBegin phases tag → AreInTurn phases × ArePhasesOfCall kind number phases tag
read_finished kind number phases tag reads done = grind (arith, path_of_course, whole_of_path)

read_whole : (kind : CallKind) (number : ℕ) (phases : List Phase) (tag : Tag) → AreInTurn phases × ArePhasesOfCall kind number phases tag →
    IsFinished kind number ReadBegin phases tag
read_whole kind number phases tag (turn, whole) =
    let way = path_of_whole kind number phases tag whole in
    finished_of kind number ReadBegin (Ended way.0 tag) phases tag turn way.1 refl refl

pub finished_are_whole : FinishedAreWhole
finished_are_whole Read number from phases tag = (read_finished Read number phases tag (λ e. cc), read_whole Read number phases tag)
finished_are_whole (Write value) number from phases tag =
    (read_finished (Write value) number phases tag (λ e. cc), read_whole (Write value) number phases tag)
finished_are_whole Move number from phases tag = (
  λ done.
      let way = path_of_course Move number phases (MoveSpread from) done.course done.none_due in
      (way.0, move_of_path number from phases (stage_after Move number (MoveSpread from) phases) tag done.none_due done.tagged way.1),
  λ turn_whole.
      finished_of Move number (MoveSpread from) (Moved from tag) phases tag turn_whole.0
      (path_of_move number from phases tag turn_whole.1) refl refl,
)

-- answered calls

last_tag : (stage : Stage) → IsLast stage → (tag : Tag) × (stage_tag stage ≡ Some tag)
last_tag (Ended last tag) ends = (tag, refl)
last_tag (Moved position tag) ends = (tag, refl)
last_tag _ ends = absurd (cc)

pub answered_are_whole : AnsweredAreWhole
answered_are_whole object index call step legal at answered =
    let c = legal.calls index call at in
    let none_due = (c.answer step answered).0 in
    let found = last_tag (stage_of object index call) none_due in
    let whole = (finished_are_whole call.kind call.id (source_of object index) call.phases found.0).0
    (record { course = c.course; none_due = none_due; tagged = found.1 }) in
    record { tag = found.0; tagged = found.1; in_turn = whole.0; whole = whole.1; from_base = c.from_base }
