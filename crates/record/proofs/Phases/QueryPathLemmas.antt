-- The path of the queries.
use Rattle.std.proofs.Common.{◌≡◌, ◌≢◌, ℕ, suc, Bool, true, false, cond, eqb, List, [], ◌∷◌, arith}
use Rattle.std.proofs.Common.{◌++◌, Some, refl, sym, subst, ap, ◌∙◌, eqb-true}
use Rattle.std.proofs.lemmas.Option.{same_Some}
use Rattle.tag.specs.declared.tag.Tag.{Tag}
use Rattle.tag.specs.Tag.{next_tag, later_tag, tag_lt}
use Rattle.bank.specs.declared.kind.Kind.TheVariants.{Query}
use Rattle.mail.specs.Phase.{Phase, lacks_pieces}
use Rattle.record.specs.declared.call.CallKind.{CallKind}
use Rattle.record.specs.declared.call.CallKind.TheVariants.{Read, Write, Move}
use Rattle.record.specs.declared.stage.Stage.{Stage}
use Rattle.record.specs.declared.stage.Stage.TheVariants.{QueryFrom, FetchAt, PreWriteAt}
use Rattle.record.specs.PhaseOrder.{after, after_query, tagged, greatest_tag}
use Rattle.record.specs.Journals.{stage_tag}
use Rattle.record.specs.Grammar.{Asks, AreQueries, greatest_shown, TakesTag}
use Rattle.record.proofs.Phases.PhasePathLemmas.{IsPath, HasTag, untagged, path_tag, asks_of}
use Rattle.record.proofs.Phases.PastFetchLemmas.{fetch_late}

-- queries

-- the position that showed the greatest tag, after a query found one
abbrev pub later_place : (found greatest : Tag) → (shown_at position : ℕ) → ℕ
later_place found greatest shown_at position = cond (tag_lt found greatest) shown_at position

-- the position that showed the greatest tag, after these queries
abbrev pub place_after : (greatest : Tag) (shown_at position : ℕ) → List Phase → ℕ
place_after greatest shown_at position [] = shown_at
place_after greatest shown_at position (query ∷ later) =
    place_after (later_tag greatest (greatest_tag query.replies)) (later_place (greatest_tag query.replies) greatest shown_at position)
    (suc position) later

pub query_last : (kind : CallKind) (number : ℕ) (found : Tag) (position last : ℕ) (greatest : Tag) (shown_at : ℕ) →
    position ≡ last → after_query kind number found position last greatest shown_at
    ≡ tagged kind number (later_place found greatest shown_at position) last (later_tag greatest found)
query_last kind number found position last greatest shown_at here = grind arith

pub query_on : (kind : CallKind) (number : ℕ) (found : Tag) (position last : ℕ) (greatest : Tag) (shown_at : ℕ) →
    eqb position last ≡ false → after_query kind number found position last greatest shown_at
    ≡ QueryFrom (suc position) last (later_tag greatest found) (later_place found greatest shown_at position)
query_on kind number found position last greatest shown_at there = cc

-- the queries, and what follows
pub record QuerySplit (kind : CallKind) (number position last : ℕ) (greatest : Tag) (shown_at : ℕ) (phases : List Phase)
    (end : Stage) : Type 0 where
  pub queries : List Phase
  pub rest : List Phase
  pub split : phases ≡ queries ++ rest
  pub asked : AreQueries position last queries
  pub path : IsPath kind number
      (tagged kind number (place_after greatest shown_at position queries) last (greatest_shown greatest queries)) rest end

-- after a query that found a tag, the others
abbrev GoesOn : CallKind → (number position last : ℕ) (greatest : Tag) (shown_at : ℕ) (found : Tag) →
    List Phase → Stage → Type 0
GoesOn kind number position last greatest shown_at found later end =
    IsPath kind number (QueryFrom (suc position) last (later_tag greatest found)
    (later_place found greatest shown_at position)) later end →
    QuerySplit kind number (suc position) last (later_tag greatest found) (later_place found greatest shown_at position) later end

query_step :
    (kind : CallKind) (number position last : ℕ) (greatest : Tag) (shown_at : ℕ) (query : Phase) (later : List Phase) (end : Stage) →
    Asks query Query position → GoesOn kind number position last greatest shown_at (greatest_tag query.replies) later end →
    (b : Bool) → eqb position last ≡ b →
    IsPath kind number (after_query kind number (greatest_tag query.replies) position last greatest shown_at) later end →
    QuerySplit kind number position last greatest shown_at (query ∷ later) end
query_step kind number position last greatest shown_at query later end now again true h path =
    let here = eqb-true position last h in
    record {
      queries = query ∷ [];
      rest = later;
      split = refl;
      asked = (now, ap suc here);
      path = subst (λ s. IsPath kind number s later end)
          (query_last kind number (greatest_tag query.replies) position last greatest shown_at here) path;
    }
query_step kind number position last greatest shown_at query later end now again false h path =
    let rest = again (subst (λ s. IsPath kind number s later end)
    (query_on kind number (greatest_tag query.replies) position last greatest shown_at h) path) in
    record {
      queries = query ∷ rest.queries;
      rest = rest.rest;
      split = ap (λ xs. query ∷ xs) rest.split;
      asked = (now, rest.asked);
      path = rest.path;
    }

pub query_split :
    (kind : CallKind) (number : ℕ) (phases : List Phase) (position last : ℕ) (greatest : Tag) (shown_at : ℕ) (end : Stage) →
    HasTag end → IsPath kind number (QueryFrom position last greatest shown_at) phases end →
    QuerySplit kind number position last greatest shown_at phases end
query_split kind number [] position last greatest shown_at end has path =
    absurd (untagged (QueryFrom position last greatest shown_at) end refl has path)
query_split kind number (query ∷ later) position last greatest shown_at end has path =
    let found = greatest_tag query.replies in
    query_step kind number position last greatest shown_at query later end (asks_of Query position query path.0)
    (λ p. query_split kind number later (suc position) last (later_tag greatest found)
    (later_place found greatest shown_at position) end has p)
    (eqb position last) refl path.1

-- what a read begins with, if anything, lacks no pieces
abbrev pub HasPiecesFirst : CallKind → List Phase → Type 0
HasPiecesFirst kind rest =
    kind ≡ Read → (fetch : Phase) (later : List Phase) → rest ≡ fetch ∷ later → lacks_pieces fetch ≡ false

-- after the queries the call has the greatest tag, or the next one
pub takes_of : (kind : CallKind) (number place last : ℕ) (greatest : Tag) (rest : List Phase) (end : Stage) (tag : Tag) →
    kind ≢ Move → stage_tag end ≡ Some tag → HasPiecesFirst kind rest →
    IsPath kind number (tagged kind number place last greatest) rest end → TakesTag kind number greatest tag
takes_of Read number place last greatest [] end tag reads has enough path =
    same_Some tag greatest (sym has ∙ sym (ap stage_tag path))
takes_of Read number place last greatest (fetch ∷ later) end tag reads has enough path =
    let late = fetch_late Read number (FetchAt place last greatest) fetch.replies greatest place refl in
    same_Some tag greatest (sym has
    ∙ path_tag Read number later (after Read number (FetchAt place last greatest) fetch.replies false) end greatest late
    (subst (λ b. IsPath Read number (after Read number (FetchAt place last greatest) fetch.replies b) later end)
    (enough refl fetch later refl) path.1))
takes_of (Write value) number place last greatest rest end tag reads has enough path =
    let own = next_tag greatest number in
    same_Some tag own (sym has ∙ path_tag (Write value) number rest (PreWriteAt last own) end own (tt, refl) path)
takes_of Move number place last greatest rest end tag reads has enough path = reads refl
