-- The phases of a call, finished or not, begin those of a whole call, and phases that do are due one after another.
use Rattle.std.proofs.Common.{◌≡◌, ℕ, true, false, List, [], ◌∷◌, Option, arith}
use Rattle.std.proofs.Common.{Some, None, IsSome, is_some, refl, sym, subst, ap, ◌∙◌}
use Rattle.tag.specs.declared.tag.Tag.{Tag}
use Rattle.mail.specs.Phase.{Phase, lacks_pieces}
use Rattle.record.specs.declared.call.CallKind.{CallKind}
use Rattle.record.specs.declared.call.CallKind.TheVariants.{Read, Write, Move}
use Rattle.record.specs.declared.stage.Stage.{Stage}
use Rattle.record.specs.declared.stage.Stage.TheVariants.{Ended, Moved}
use Rattle.record.specs.PhaseOrder.{due, after, tagged, passed, IsCourse, IsEndedBefore, begun_at}
use Rattle.record.specs.Legal.{first_stage}
use Rattle.record.specs.Journals.{stage_tag}
use Rattle.record.specs.Grammar.{Asks, IsSentence}
use Rattle.record.specs.Shape.{AreBegun, SameReplies, Begin, IsBeginning, CoursesAreBeginnings}
use Rattle.record.proofs.Phases.PathToEndLemmas.{Finish, finish}
use Rattle.record.proofs.Phases.PositionOrderLemmas.{IsOrderly, orderly_after, orderly_first, orderly_begun}
use Rattle.record.proofs.BegunStageLemmas.{begun_twice}
use Rattle.record.proofs.Phases.PhasePathLemmas.{IsPath, asks_of, due_of}
use Rattle.record.proofs.Phases.CourseAndPathLemmas.{IsLast}
use Rattle.record.proofs.Phases.WholeMoveLemmas.{move_of_path, path_of_move}
use Rattle.record.proofs.Phases.WholeCallLemmas.{whole_of_path, path_of_whole}

-- from the table to beginnings

record Begun (kind : CallKind) (number : ℕ) (stage : Stage) (phases : List Phase) : Type 0 where
  in_turn : AreBegun phases
  finish : Finish kind number stage
  begin : Begin phases finish.more

-- a complete phase before what a later stage begins with
begun_on : (kind : CallKind) (number : ℕ) (stage : Stage) (phase : Phase) (later : List Phase) →
    due (begun_at stage phase.position) ≡ Some (phase.kind, phase.position) → IsEndedBefore phase later →
    Begun kind number (after kind number (begun_at stage phase.position) phase.replies (lacks_pieces phase)) later →
    Begun kind number stage (phase ∷ later)
begun_on kind number stage phase later e ended rest = record {
  in_turn = (ended, rest.in_turn);
  finish = record {
    more = phase ∷ rest.finish.more;
    end = rest.finish.end;
    tag = rest.finish.tag;
    last = rest.finish.last;
    tagged = rest.finish.tagged;
    path = (e, rest.finish.path);
  };
  begin = ((refl, refl), (λ some. (refl, refl)), rest.begin);
}

-- a phase that is not complete is the one that is due
begun_open : (kind : CallKind) (number : ℕ) (stage : Stage) (phase : Phase) →
    due (begun_at stage phase.position) ≡ Some (phase.kind, phase.position) →
    phase.end ≡ None → (more : List Phase) (end : Stage) (tag : Tag) → IsLast end → stage_tag end ≡ Some tag →
    IsPath kind number (begun_at stage phase.position) more end → Begun kind number stage (phase ∷ [])
begun_open kind number stage phase e none [] end tag last tagged path =
    absurd (let clash : Some (phase.kind, phase.position) ≡ None = sym e ∙ (ap (λ s. due s) path ∙ last) in cc)
begun_open kind number stage phase e none (other ∷ others) end tag last tagged path = record {
  in_turn = (tt, tt);
  finish = record {
    more = other ∷ others;
    end = end;
    tag = tag;
    last = last;
    tagged = tagged;
    path = subst
        (λ s. (due s ≡ Some (other.kind, other.position))
        × IsPath kind number (after kind number s other.replies (lacks_pieces other)) others end)
        (begun_twice stage phase.position other.position ∙ ap (λ p. begun_at stage p) (sym asks.1)) path;
  };
  begin = (
    asks,
    (λ some. absurd (let clash : false ≡ true = ap is_some (sym none) ∙ some in cc)),
    tt,
  );
}
  where
    asks : Asks other phase.kind phase.position
    asks = asks_of phase.kind phase.position other
        (sym e ∙ (ap (λ s. due s) (sym (begun_twice stage phase.position other.position)) ∙ path.0))

begun_of : (kind : CallKind) (number : ℕ) (phases : List Phase) (stage : Stage) → IsOrderly stage →
    IsCourse kind number stage phases → Begun kind number stage phases
begun_of kind number [] stage orderly course = record { in_turn = tt; finish = finish kind number stage orderly; begin = tt }
begun_of kind number (phase ∷ []) stage orderly course = by_end phase.end refl
  where
    by_end : (o : Option ℕ) → phase.end ≡ o → Begun kind number stage (phase ∷ [])
    by_end None h =
        let rest = finish kind number (begun_at stage phase.position) (orderly_begun stage phase.position orderly) in
        begun_open kind number stage phase course.0 h rest.more rest.end rest.tag rest.last rest.tagged rest.path
    by_end (Some end) h =
        begun_on kind number stage phase [] course.0 tt
        (record {
          in_turn = tt;
          finish =
              finish kind number (after kind number (begun_at stage phase.position) phase.replies (lacks_pieces phase))
              (orderly_after kind number (begun_at stage phase.position) phase.replies (lacks_pieces phase)
              (orderly_begun stage phase.position orderly));
          begin = tt;
        })
begun_of kind number (phase ∷ next ∷ later) stage orderly course =
    begun_on kind number stage phase (next ∷ later) course.0 course.1
    (begun_of kind number (next ∷ later) (after kind number (begun_at stage phase.position) phase.replies (lacks_pieces phase))
    (orderly_after kind number (begun_at stage phase.position) phase.replies (lacks_pieces phase)
    (orderly_begun stage phase.position orderly))
    (subst (λ o. IsCourse kind number
    (passed kind number (begun_at stage phase.position) o phase.replies (lacks_pieces phase)) (next ∷ later)) course.1.1 course.2))

-- and back

course_step : (kind : CallKind) (number : ℕ) (stage : Stage) (phase : Phase) (later : List Phase) → IsEndedBefore phase later →
    (IsSome phase.end → IsCourse kind number (after kind number stage phase.replies (lacks_pieces phase)) later) → (o : Option ℕ) →
    phase.end ≡ o →
    IsCourse kind number (passed kind number stage o phase.replies (lacks_pieces phase)) later
course_step kind number stage phase later ended rest o h = grind arith

same_after : (kind : CallKind) (number : ℕ) (stage : Stage) (phase other : Phase) → SameReplies phase other →
    after kind number stage other.replies (lacks_pieces other) ≡ after kind number stage phase.replies (lacks_pieces phase)
same_after kind number stage phase other same = cc

course_of_begin : (kind : CallKind) (number : ℕ) (phases whole : List Phase) (stage end : Stage) →
    IsPath kind number stage whole end → AreBegun phases → Begin phases whole → IsCourse kind number stage phases
course_of_begin kind number [] whole stage end path turn begin = tt
course_of_begin kind number (phase ∷ later) [] stage end path turn begin = absurd begin
course_of_begin kind number (phase ∷ later) (other ∷ others) stage end path turn begin = (
  subst (λ p. due (begun_at stage p) ≡ Some (other.kind, other.position)) begin.0.1 path.0
      ∙ sym (due_of phase.kind phase.position other begin.0),
  turn.0,
  course_step kind number (begun_at stage phase.position) phase later turn.0
      (λ some. course_of_begin kind number later others
      (after kind number (begun_at stage phase.position) phase.replies (lacks_pieces phase)) end
      (subst (λ s. IsPath kind number s others end)
      (ap (λ p. after kind number (begun_at stage p) other.replies (lacks_pieces other)) begin.0.1
      ∙ same_after kind number (begun_at stage phase.position) phase other (begin.1 some)) path.1) turn.1
      begin.2) phase.end refl,
)

sentence_path : (kind : CallKind) (number from : ℕ) (phases : List Phase) (tag : Tag) → IsSentence kind number from phases tag →
    (end : Stage) × IsPath kind number (first_stage kind from) phases end
sentence_path Read number from phases tag whole = let way = path_of_whole Read number phases tag whole in (Ended way.0 tag, way.1)
sentence_path (Write value) number from phases tag whole =
    let way = path_of_whole (Write value) number phases tag whole in
    (Ended way.0 tag, way.1)
sentence_path Move number from phases tag whole = (Moved from tag, path_of_move number from phases tag whole)

path_sentence : (kind : CallKind) (number from : ℕ) (phases : List Phase) (end : Stage) (tag : Tag) → IsLast end →
    stage_tag end ≡ Some tag → IsPath kind number (first_stage kind from) phases end → IsSentence kind number from phases tag
path_sentence kind number from phases end tag last tagged path = grind (arith, move_of_path, whole_of_path)

beginning_of : (kind : CallKind) (number from : ℕ) (phases : List Phase) → IsCourse kind number (first_stage kind from) phases →
    IsBeginning kind number from phases
beginning_of kind number from phases course =
    let found = begun_of kind number phases (first_stage kind from) (orderly_first kind from) course in
    record {
      in_turn = found.in_turn;
      whole = found.finish.more;
      tag = found.finish.tag;
      is_whole = path_sentence kind number from found.finish.more found.finish.end found.finish.tag found.finish.last
          found.finish.tagged found.finish.path;
      begin = found.begin;
    }

course_of_beginning : (kind : CallKind) (number from : ℕ) (phases : List Phase) → IsBeginning kind number from phases →
    IsCourse kind number (first_stage kind from) phases
course_of_beginning kind number from phases is = grind (arith, course_of_begin, sentence_path)

pub courses_are_beginnings : CoursesAreBeginnings
courses_are_beginnings kind number from phases = (beginning_of kind number from phases, course_of_beginning kind number from phases)
