-- The phases of a read or a write up to its tag: attempts that were given up, then a reading and the queries.
use Rattle.std.proofs.Common.{◌≡◌, ◌≢◌, ℕ, zero, suc, ◌≤◌, Bool, true, List, [], ◌∷◌, ◌++◌}
use Rattle.std.proofs.Common.{length, Option, Some, is_some, refl, sym, ap, ◌∙◌, arith, le_refl}
use Rattle.std.proofs.lemmas.List.{append_assoc, length-append}
use Rattle.tag.specs.declared.tag.Tag.{Tag}
use Rattle.tag.specs.Tag.{opening_tag}
use Rattle.bank.specs.declared.kind.Kind.{Kind}
use Rattle.bank.specs.declared.kind.Kind.TheVariants.{Fetch}
use Rattle.mail.specs.Phase.{Phase, lacks_pieces}
use Rattle.record.specs.declared.call.CallKind.{CallKind}
use Rattle.record.specs.declared.call.CallKind.TheVariants.{Read, Write, Move}
use Rattle.record.specs.declared.stage.Stage.{Stage}
use Rattle.record.specs.declared.stage.Stage.TheVariants.{ReadBegin, FetchAt}
use Rattle.record.specs.PhaseOrder.{tagged, stage_after, IsCourse}
use Rattle.record.specs.Journals.{stage_tag}
use Rattle.record.specs.Grammar.{IsReading, AreQueries, greatest_shown, place_shown, IsAttempt, AreAttempts, attempt_phases, FindsTag}
use Rattle.record.proofs.Phases.CourseAndPathLemmas.{place_after-place_shown}
use Rattle.record.proofs.Phases.PhasePathLemmas.{IsPath, HasTag, untagged, closed_of, asks_of}
use Rattle.record.proofs.Phases.QueryPathLemmas.{place_after, HasPiecesFirst, query_split, takes_of}
use Rattle.record.proofs.Phases.ReadingPathLemmas.{read_split}

pub place_same : (queries : List Phase) (finalized : ℕ) →
    place_after opening_tag finalized finalized queries ≡ place_shown (greatest_shown opening_tag queries) finalized finalized queries
place_same queries finalized = place_after-place_shown queries opening_tag finalized finalized finalized (λ e. refl)

-- a path from the first reading, by its attempts
pub record AttemptSplit (kind : CallKind) (number : ℕ) (phases : List Phase) (end : Stage) : Type 0 where
  pub attempts : List (List Phase)
  pub first : List Phase
  pub queries : List Phase
  pub rest : List Phase
  pub given_up : AreAttempts kind attempts
  pub split : phases ≡ attempt_phases attempts ++ (first ++ (queries ++ rest))
  pub last : ℕ
  pub to : ℕ
  pub start : ℕ
  pub reading : IsReading start start first last to
  pub asked : AreQueries to last queries
  pub enough : HasPiecesFirst kind rest
  pub path : IsPath kind number (tagged kind number (place_after opening_tag to to queries) last (greatest_shown opening_tag queries))
      rest end

no_attempts : (kind : CallKind) → kind ≢ Move → AreAttempts kind []
no_attempts kind reads = grind arith

-- one attempt, whose fetch lacks pieces
attempt_of : (number : ℕ) (first queries : List Phase) (fetch : Phase) (start last to : ℕ) → IsReading start start first last to →
    AreQueries to last queries → lacks_pieces fetch ≡ true →
    ◌≡◌ {A = Option (Kind × ℕ)} (Some (Fetch (greatest_shown opening_tag queries), place_after opening_tag to to queries))
    (Some (fetch.kind, fetch.position)) →
    IsAttempt (first ++ (queries ++ fetch ∷ []))
attempt_of number first queries fetch start last to reading asked lacks is_due = grind (arith, asks_of, place_same)

moved : (first queries later : List Phase) (fetch : Phase) →
    (first ++ (queries ++ fetch ∷ [])) ++ later ≡ first ++ (queries ++ fetch ∷ later)
moved first queries later fetch = grind (arith, append_assoc)

-- an attempt before the others
more_attempts : (number : ℕ) (phases first queries later : List Phase) (fetch : Phase) (end : Stage) →
    phases ≡ first ++ (queries ++ fetch ∷ later) → IsAttempt (first ++ (queries ++ fetch ∷ [])) → AttemptSplit Read number later end →
    AttemptSplit Read number phases end
more_attempts number phases first queries later fetch end split attempt others = record {
  attempts = (first ++ (queries ++ fetch ∷ [])) ∷ others.attempts;
  first = others.first;
  queries = others.queries;
  rest = others.rest;
  given_up = (attempt, others.given_up);
  split = split ∙ (sym (moved first queries later fetch)
      ∙ (ap (λ xs. (first ++ (queries ++ fetch ∷ [])) ++ xs) others.split
      ∙ sym (append_assoc (first ++ (queries ++ fetch ∷ [])) (attempt_phases others.attempts)
      (others.first ++ (others.queries ++ others.rest)))));
  last = others.last;
  to = others.to;
  start = others.start;
  reading = others.reading;
  asked = others.asked;
  enough = others.enough;
  path = others.path;
}

shorter : (first queries later : List Phase) (fetch : Phase) (phases : List Phase) (fuel : ℕ) →
    phases ≡ first ++ (queries ++ fetch ∷ later) → length phases ≤ suc fuel → length later ≤ fuel
shorter first queries later fetch phases fuel split h = grind (arith, length-append)

module _ (kind : CallKind) (number : ℕ) (end : Stage) (phases first queries : List Phase) (start last to : ℕ)
    (reading : IsReading start start first last to) (asked : AreQueries to last queries) where
  -- the last attempt
  final : (rest : List Phase) → kind ≢ Move → phases ≡ first ++ (queries ++ rest) → HasPiecesFirst kind rest →
      IsPath kind number (tagged kind number (place_after opening_tag to to queries) last (greatest_shown opening_tag queries)) rest end →
      AttemptSplit kind number phases end
  final rest reads split enough path = record {
    attempts = [];
    first = first;
    queries = queries;
    rest = rest;
    given_up = no_attempts kind reads;
    split = split;
    last = last;
    to = to;
    start = start;
    reading = reading;
    asked = asked;
    enough = enough;
    path = path;
  }

read_attempt : (number : ℕ) (end : Stage) (phases first queries : List Phase) (start last to : ℕ) (fetch : Phase)
    (later : List Phase) → IsReading start start first last to → AreQueries to last queries → phases ≡ first ++ (queries ++ fetch ∷ later) →
    (IsPath Read number ReadBegin later end → AttemptSplit Read number later end) → (b : Bool) → lacks_pieces fetch ≡ b →
    IsPath Read number (FetchAt (place_after opening_tag to to queries) last (greatest_shown opening_tag queries)) (fetch ∷ later) end →
    AttemptSplit Read number phases end
read_attempt number end phases first queries start last to fetch later reading asked split again b lacks path =
    grind (arith, attempt_of, final, more_attempts, place_after)

by_rest : (kind : CallKind) (number : ℕ) (end : Stage) (phases first queries : List Phase) (start last to : ℕ) (rest : List Phase) →
    kind ≢ Move → IsReading start start first last to → AreQueries to last queries → phases ≡ first ++ (queries ++ rest) →
    ((fetch : Phase) (later : List Phase) → rest ≡ fetch ∷ later → IsPath Read number ReadBegin later end →
    AttemptSplit Read number later end) →
    IsPath kind number (tagged kind number (place_after opening_tag to to queries) last (greatest_shown opening_tag queries)) rest end →
    AttemptSplit kind number phases end
by_rest Read number end phases first queries start last to [] reads reading asked split again path =
    final Read number end phases first queries start last to reading asked [] reads split (λ k fetch later same. absurd (cc)) path
by_rest Read number end phases first queries start last to (fetch ∷ later) reads reading asked split again path =
    read_attempt number end phases first queries start last to fetch later reading asked split (again fetch later refl)
    (lacks_pieces fetch) refl path
by_rest (Write value) number end phases first queries start last to rest reads reading asked split again path =
    final (Write value) number end phases first queries start last to reading asked rest reads split
    (λ k fetch later same. absurd (cc)) path
by_rest Move number end phases first queries start last to rest reads reading asked split again path = absurd (reads refl)

pub attempt_split : (kind : CallKind) → kind ≢ Move → (number fuel : ℕ) (phases : List Phase) → length phases ≤ fuel →
    (end : Stage) → HasTag end → IsPath kind number ReadBegin phases end → AttemptSplit kind number phases end
attempt_split kind reads number fuel [] h end has path = absurd (untagged ReadBegin end refl has path)
attempt_split kind reads number zero (next ∷ later) h end has path = absurd (omega arith)
attempt_split kind reads number (suc fuel) (next ∷ phases) h end has path =
    let all = next ∷ phases in
    let read = read_split kind number all next.position next.position end has path in
    let asked = query_split kind number read.later read.to read.last opening_tag read.to end has read.path in
    let split = read.split ∙ ap (λ xs. read.first ++ xs) asked.split in
    by_rest kind number end all read.first asked.queries next.position read.last read.to asked.rest reads read.reading asked.asked split
    (λ fetch later same p. attempt_split Read (λ e. cc) number fuel later
    (shorter read.first asked.queries later fetch all fuel
    (split ∙ ap (λ xs. read.first ++ (asked.queries ++ xs)) same) h) end has p) asked.path

split_on : (phases done last before first queries rest : List Phase) → phases ≡ done ++ last →
    done ≡ before ++ (first ++ (queries ++ rest)) → phases ≡ before ++ (first ++ (queries ++ (rest ++ last)))
split_on phases done last before first queries rest a b = grind (arith, append_assoc)

-- a read or a write that has its tag
pub finds_tag : (kind : CallKind) (number : ℕ) → kind ≢ Move → (phases : List Phase) (tag : Tag) →
    IsCourse kind number ReadBegin phases → stage_tag (stage_after kind number ReadBegin phases) ≡ Some tag →
    FindsTag kind number phases tag
finds_tag kind number reads phases tag course has =
    let closed = closed_of kind number phases ReadBegin course in
    let end = closed.middle in
    let tagged : stage_tag end ≡ Some tag = closed.same_tag ∙ has in
    let found = attempt_split kind reads number (length closed.done) closed.done (le_refl (length closed.done)) end (ap is_some tagged)
    closed.path in
    record {
      attempts = found.attempts;
      first = found.first;
      queries = found.queries;
      rest = found.rest ++ closed.open_phase;
      given_up = found.given_up;
      split =
          split_on phases closed.done closed.open_phase (attempt_phases found.attempts) found.first found.queries found.rest closed.split
          found.split;
      last = found.last;
      finalized = found.to;
      start = found.start;
      reading = found.reading;
      asked = found.asked;
      takes = takes_of kind number (place_after opening_tag found.to found.to found.queries) found.last
          (greatest_shown opening_tag found.queries) found.rest end tag reads tagged found.enough found.path;
    }
