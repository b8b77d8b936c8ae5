-- Attempts that were given up lead a read back to its first reading.
use Rattle.std.proofs.Common.{◌≡◌, ℕ, ◌≤◌, true, List, [], ◌∷◌, ◌++◌}
use Rattle.std.proofs.Common.{Option, Some, refl, sym, subst, ap, ◌∙◌, arith, le_refl}
use Rattle.std.specs.List.{AllByRecursion}
use Rattle.tag.specs.declared.tag.Tag.{Tag}
use Rattle.tag.specs.Tag.{opening_tag}
use Rattle.bank.specs.declared.kind.Kind.{Kind}
use Rattle.bank.specs.declared.kind.Kind.TheVariants.{Fetch}
use Rattle.mail.specs.Phase.{Phase, lacks_pieces}
use Rattle.record.specs.declared.call.CallKind.{CallKind}
use Rattle.record.specs.declared.call.CallKind.TheVariants.{Read}
use Rattle.record.specs.declared.stage.Stage.TheVariants.{ReadBegin, ReadNext, QueryFrom, FetchAt}
use Rattle.record.specs.PhaseOrder.{after}
use Rattle.record.specs.Grammar.{AreQueries, greatest_shown, place_shown, IsAttempt, AreAttempts, attempt_phases}
use Rattle.record.proofs.Phases.RepeatedReadingLemmas.{queries_path}
use Rattle.record.proofs.Phases.PhasePathLemmas.{IsPath, path-append, due_of, reading_path, begin_path}
use Rattle.record.proofs.Phases.QueryPathLemmas.{place_after}
use Rattle.record.proofs.Phases.CourseAndPathLemmas.{reading-bound}
use Rattle.record.proofs.Phases.AttemptLemmas.{place_same}

-- the queries of an attempt and its fetch lead back
fetch_back : (number : ℕ) (queries : List Phase) (fetch : Phase) (last to : ℕ) (tag : Tag) → to ≤ last → AreQueries to last queries →
    tag ≡ greatest_shown opening_tag queries →
    ◌≡◌ {A = Option (Kind × ℕ)} (Some (Fetch tag, place_shown tag to to queries)) (Some (fetch.kind, fetch.position)) →
    lacks_pieces fetch ≡ true →
    IsPath Read number (QueryFrom to last opening_tag to) (queries ++ fetch ∷ []) ReadBegin
fetch_back number [] fetch last to tag low asked takes is_due lacks = absurd (let e = asked in omega arith)
fetch_back number (query ∷ later) fetch last to tag low asked takes is_due lacks =
    let queries = query ∷ later in
    let top = greatest_shown opening_tag queries in
    let place = place_after opening_tag to to queries in
    path-append Read number queries (fetch ∷ []) (QueryFrom to last opening_tag to) (FetchAt place last top) ReadBegin
    (queries_path Read number query later to last opening_tag to asked) (
      ap (λ p. Some (Fetch top, p)) (place_same queries to)
          ∙ (ap (λ t. Some (Fetch t, place_shown t to to queries)) (sym takes) ∙ is_due),
      ap (λ b. after Read number (FetchAt place last top) fetch.replies b) lacks,
    )

attempt_path : (number : ℕ) (phases : List Phase) → IsAttempt phases → IsPath Read number ReadBegin phases ReadBegin
attempt_path number phases attempt =
    let start = attempt.start in
    subst (λ xs. IsPath Read number ReadBegin xs ReadBegin) (sym attempt.split)
    (begin_path Read number attempt.first (attempt.queries ++ attempt.fetch ∷ []) start start attempt.last attempt.finalized ReadBegin
    attempt.reading
    (path-append Read number attempt.first (attempt.queries ++ attempt.fetch ∷ []) (ReadNext start start)
    (QueryFrom attempt.finalized attempt.last opening_tag attempt.finalized) ReadBegin
    (reading_path Read number attempt.first start start attempt.last attempt.finalized attempt.reading)
    (fetch_back number attempt.queries attempt.fetch attempt.last attempt.finalized attempt.tag
    (reading-bound attempt.first start start attempt.last attempt.finalized (le_refl start) attempt.reading) attempt.asked attempt.takes
    (due_of (Fetch attempt.tag) (place_shown attempt.tag attempt.finalized attempt.finalized attempt.queries) attempt.fetch
    attempt.fetches) attempt.lacks)))

reads_back : (number : ℕ) (attempts : List (List Phase)) → AllByRecursion IsAttempt attempts →
    IsPath Read number ReadBegin (attempt_phases attempts) ReadBegin
reads_back number [] all = refl
reads_back number (attempt ∷ later) all =
    path-append Read number attempt (attempt_phases later) ReadBegin ReadBegin ReadBegin
    (attempt_path number attempt all.0) (reads_back number later all.1)

pub attempts_path : (kind : CallKind) (number : ℕ) (attempts : List (List Phase)) → AreAttempts kind attempts →
    IsPath kind number ReadBegin (attempt_phases attempts) ReadBegin
attempts_path kind number attempts are = grind (arith, reads_back)
