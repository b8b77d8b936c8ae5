-- The phases of a whole move.
use Rattle.std.proofs.Common.{◌≡◌, ℕ, suc, Bool, true, false, List, [], ◌∷◌, ◌++◌, Some, refl, sym, subst, ap, ◌∙◌, arith}
use Rattle.std.proofs.lemmas.Option.{same_Some}
use Rattle.std.specs.List.{AllByRecursion}
use Rattle.tag.specs.declared.tag.Tag.{Tag}
use Rattle.bank.specs.declared.status.Status.TheVariants.{Pending, Final}
use Rattle.bank.specs.declared.kind.Kind.TheVariants.{Spread, Query, PreWrite, Finalize, Fetch}
use Rattle.mail.specs.Phase.{Phase, lacks_pieces}
use Rattle.record.specs.declared.call.CallKind.TheVariants.{Move}
use Rattle.record.specs.declared.stage.Stage.{Stage}
use Rattle.record.specs.declared.stage.Stage.TheVariants.{MoveSpread, MoveQuery, MoveFetch, MovePreWrite, MoveFinalize, MoveFinal, Moved}
use Rattle.record.specs.PhaseOrder.{after, greatest_tag}
use Rattle.record.specs.Journals.{stage_tag}
use Rattle.record.specs.Grammar.{Asks, IsMoveAttempt, move_attempt_phases, ArePhasesOfMove}
use Rattle.record.proofs.Phases.CourseAndPathLemmas.{IsLast, not_last, not_end}
use Rattle.record.proofs.Phases.PhasePathLemmas.{IsPath, path-append, asks_of, due_of}

-- what follows the spread of a whole move
record MoveRest (position : ℕ) (phases : List Phase) (end : Stage) : Type 0 where
  attempts : List (Phase × Phase)
  given_up : AllByRecursion (IsMoveAttempt position) attempts
  query : Phase
  fetch : Phase
  pre_write : Phase
  finalize : Phase
  final : Phase
  split : phases ≡ move_attempt_phases attempts ++ query ∷ fetch ∷ pre_write ∷ finalize ∷ final ∷ []
  queries : Asks query Query position
  fetches : Asks fetch (Fetch (greatest_tag query.replies)) position
  has_pieces : lacks_pieces fetch ≡ false
  pre_writes : Asks pre_write (PreWrite (greatest_tag query.replies)) (suc position)
  finalizes : Asks finalize (Finalize (greatest_tag query.replies)) (suc position)
  ends : Asks final (Spread Final) position
  reaches : Moved position (greatest_tag query.replies) ≡ end

-- from the fetch that has its pieces on
put_of : (number position : ℕ) (query fetch : Phase) (more : List Phase) (end : Stage) → IsLast end → Asks query Query position →
    Asks fetch (Fetch (greatest_tag query.replies)) position → lacks_pieces fetch ≡ false →
    IsPath Move number (MovePreWrite position (greatest_tag query.replies)) more end → MoveRest position (query ∷ fetch ∷ more) end
put_of number position query fetch [] end ends asked fetched enough path =
    let top = greatest_tag query.replies in absurd (not_end (MovePreWrite position top) end (PreWrite top, suc position) refl ends path)
put_of number position query fetch (d ∷ []) end ends asked fetched enough path =
    let top = greatest_tag query.replies in absurd (not_end (MoveFinalize position top) end (Finalize top, suc position) refl ends path.1)
put_of number position query fetch (d ∷ e ∷ []) end ends asked fetched enough path =
    let top = greatest_tag query.replies in absurd (not_end (MoveFinal position top) end (Spread Final, position) refl ends path.1.1)
put_of number position query fetch (d ∷ e ∷ f ∷ []) end ends asked fetched enough path =
    let top = greatest_tag query.replies in
    record {
      attempts = [];
      given_up = tt;
      query = query;
      fetch = fetch;
      pre_write = d;
      finalize = e;
      final = f;
      split = refl;
      queries = asked;
      fetches = fetched;
      has_pieces = enough;
      pre_writes = asks_of (PreWrite top) (suc position) d path.0;
      finalizes = asks_of (Finalize top) (suc position) e path.1.0;
      ends = asks_of (Spread Final) position f path.1.1.0;
      reaches = path.1.1.1;
    }
put_of number position query fetch (d ∷ e ∷ f ∷ g ∷ later) end ends asked fetched enough path =
    absurd (not_last (Moved position (greatest_tag query.replies)) (g.kind, g.position) path.1.1.1.0 refl)

-- an attempt before the others
one_more : (position : ℕ) (query fetch : Phase) (more : List Phase) (end : Stage) → Asks query Query position →
    Asks fetch (Fetch (greatest_tag query.replies)) position → lacks_pieces fetch ≡ true → MoveRest position more end →
    MoveRest position (query ∷ fetch ∷ more) end
one_more position query fetch more end asked fetched lacks rest = record {
  attempts = (query, fetch) ∷ rest.attempts;
  given_up = ((asked, fetched, lacks), rest.given_up);
  query = rest.query;
  fetch = rest.fetch;
  pre_write = rest.pre_write;
  finalize = rest.finalize;
  final = rest.final;
  split = ap (λ xs. query ∷ fetch ∷ xs) rest.split;
  queries = rest.queries;
  fetches = rest.fetches;
  has_pieces = rest.has_pieces;
  pre_writes = rest.pre_writes;
  finalizes = rest.finalizes;
  ends = rest.ends;
  reaches = rest.reaches;
}

by_fetch : (number position : ℕ) (query fetch : Phase) (more : List Phase) (end : Stage) → IsLast end → Asks query Query position →
    Asks fetch (Fetch (greatest_tag query.replies)) position →
    (IsPath Move number (MoveQuery position) more end → MoveRest position more end) → (b : Bool) → lacks_pieces fetch ≡ b →
    IsPath Move number (after Move number (MoveFetch position (greatest_tag query.replies)) fetch.replies (lacks_pieces fetch)) more end →
    MoveRest position (query ∷ fetch ∷ more) end
by_fetch number position query fetch more end ends asked fetched again b lacks path = grind (arith, one_more, put_of)

move_rest : (number position : ℕ) (phases : List Phase) (end : Stage) → IsLast end → IsPath Move number (MoveQuery position) phases end →
    MoveRest position phases end
move_rest number position [] end ends path = absurd (not_end (MoveQuery position) end (Query, position) refl ends path)
move_rest number position (b ∷ []) end ends path =
    let top = greatest_tag b.replies in absurd (not_end (MoveFetch position top) end (Fetch top, position) refl ends path.1)
move_rest number position (b ∷ c ∷ more) end ends path =
    by_fetch number position b c more end ends (asks_of Query position b path.0)
    (asks_of (Fetch (greatest_tag b.replies)) position c path.1.0) (λ p. move_rest number position more end ends p) (lacks_pieces c) refl
    path.1.1

pub move_of_path : (number position : ℕ) (phases : List Phase) (end : Stage) (tag : Tag) → IsLast end → stage_tag end ≡ Some tag →
    IsPath Move number (MoveSpread position) phases end → ArePhasesOfMove position phases tag
move_of_path number position [] end tag ends has path = absurd (not_end (MoveSpread position) end (Spread Pending, position) refl ends path)
move_of_path number position (a ∷ more) end tag ends has path =
    let rest = move_rest number position more end ends path.1 in
    let top = greatest_tag rest.query.replies in
    let same : tag ≡ top = same_Some tag top (sym has ∙ sym (ap (λ s. stage_tag s) rest.reaches)) in
    record {
      spread = a;
      query = rest.query;
      fetch = rest.fetch;
      pre_write = rest.pre_write;
      finalize = rest.finalize;
      final = rest.final;
      attempts = rest.attempts;
      split = ap (λ xs. a ∷ xs) rest.split;
      given_up = rest.given_up;
      spreads = asks_of (Spread Pending) position a path.0;
      queries = rest.queries;
      takes = same;
      fetches = subst (λ t. Asks rest.fetch (Fetch t) position) (sym same) rest.fetches;
      has_pieces = rest.has_pieces;
      pre_writes = subst (λ t. Asks rest.pre_write (PreWrite t) (suc position)) (sym same) rest.pre_writes;
      finalizes = subst (λ t. Asks rest.finalize (Finalize t) (suc position)) (sym same) rest.finalizes;
      ends = rest.ends;
    }

-- and back

attempts_back : (number position : ℕ) (attempts : List (Phase × Phase)) → AllByRecursion (IsMoveAttempt position) attempts →
    IsPath Move number (MoveQuery position) (move_attempt_phases attempts) (MoveQuery position)
attempts_back number position [] all = refl
attempts_back number position ((query, fetch) ∷ later) all =
    let top = greatest_tag query.replies in (
      due_of Query position query all.0.0,
      (
        due_of (Fetch top) position fetch all.0.1,
        subst (λ b. IsPath Move number (after Move number (MoveFetch position top) fetch.replies b) (move_attempt_phases later)
            (MoveQuery position)) (sym all.0.2) (attempts_back number position later all.1),
      ),
    )

pub path_of_move : (number position : ℕ) (phases : List Phase) (tag : Tag) → ArePhasesOfMove position phases tag →
    IsPath Move number (MoveSpread position) phases (Moved position tag)
path_of_move number position phases tag whole =
    let put = whole.pre_write ∷ whole.finalize ∷ whole.final ∷ [] in
    subst (λ xs. IsPath Move number (MoveSpread position) xs (Moved position tag)) (sym whole.split) (
      due_of (Spread Pending) position whole.spread whole.spreads,
      path-append Move number (move_attempt_phases whole.attempts) (whole.query ∷ whole.fetch ∷ put)
          (MoveQuery position) (MoveQuery position) (Moved position tag) (attempts_back number position whole.attempts whole.given_up) (
            due_of Query position whole.query whole.queries,
            subst (λ t. IsPath Move number (MoveFetch position t) (whole.fetch ∷ put) (Moved position tag)) whole.takes (
              due_of (Fetch tag) position whole.fetch whole.fetches,
              subst (λ b. IsPath Move number (after Move number (MoveFetch position tag) whole.fetch.replies b) put (Moved position tag))
                  (sym whole.has_pieces) (
                    due_of (PreWrite tag) (suc position) whole.pre_write whole.pre_writes,
                    (
                      due_of (Finalize tag) (suc position) whole.finalize whole.finalizes,
                      (due_of (Spread Final) position whole.final whole.ends, refl),
                    ),
                  ),
            ),
          ),
    )
