-- At each stage of a call, the pieces of its tag are somewhere.
use Rattle.std.proofs.Common.{◌≡◌, ℕ, zero, suc, ◌≤◌, Bool, true, false, cond, eqb, List, ◌∷◌}
use Rattle.std.proofs.Common.{Option, Some, refl, sym, subst, arith, le_trans, le_of_lt, slice_get}
use Rattle.std.proofs.lemmas.Bool.{cond_both}
use Rattle.std.proofs.lemmas.Option.{some_pair_parts, same_Some}
use Rattle.std.specs.List.{AllByRecursion}
use Rattle.tag.proofs.TagOrderLemmas.{same_tag}
use Rattle.tag.specs.declared.tag.Tag.{Tag}
use Rattle.tag.specs.Tag.{later_tag, tag_lt}
use Rattle.layout.specs.Layout.{IsLawful}
use Rattle.bank.specs.declared.status.Status.{Status}
use Rattle.bank.specs.declared.kind.Kind.{Kind}
use Rattle.mail.specs.declared.phase.Taken.{Taken}
use Rattle.mail.specs.Phase.{Phase, lacks_pieces}
use Rattle.record.specs.declared.call.CallKind.{CallKind}
use Rattle.record.specs.Records.{Call, Object}
use Rattle.bank.specs.declared.kind.Kind.TheVariants.{Query, PreWrite}
use Rattle.record.specs.Knowledge.{IsTruePhase}
use Rattle.record.specs.PhaseOrder.{greatest_status, greatest_tag, due, after, passed, IsCourse, stage_past, begun_at}
use Rattle.record.specs.PhaseOrder.{after_next, after_spread, after_query, after_again, tagged}
use Rattle.record.specs.declared.stage.Stage.{Stage}
use Rattle.record.specs.declared.stage.Stage.TheVariants.{ReadNext, ReadSpread, QueryFrom, FetchAt, PreWriteAt}
use Rattle.record.specs.declared.stage.Stage.TheVariants.{FinalizeAt, AgainNext, MoveQuery}
use Rattle.record.specs.declared.stage.Stage.TheVariants.{MoveFetch, MovePreWrite, MoveFinalize}
use Rattle.record.specs.Legal.{IsLegal, first_stage, source_of}
use Rattle.soundness.proofs.PhaseStartLemmas.{StartsFrom}
use Rattle.soundness.proofs.Quorums.QuorumMeetingLemmas.{start_before_end}
use Rattle.soundness.proofs.Sound.Enough.QuorumPieceLemmas.{Had, Somewhere, somewhere_later, Says, says_of}
use Rattle.record.proofs.TagOrderLemmas.{tag_lt-true, at_most_of_below, not_below_at_most}
use Rattle.record.proofs.BegunStageLemmas.{begun_has}

-- what is so of pieces, when a call has come to a stage
abbrev pub PieceFacts : Object → (now : ℕ) → Stage → Type 0
PieceFacts object now (QueryFrom position last greatest shown_at) = Somewhere object shown_at greatest now
PieceFacts object now (FetchAt shown_at last tag) = Somewhere object shown_at tag now
PieceFacts object now (FinalizeAt last tag) = Had object last tag now
PieceFacts object now (MoveFetch position tag) = Somewhere object position tag now
PieceFacts object now (MoveFinalize position tag) = Had object (suc position) tag now
PieceFacts object now _ = Unit {0}

says_at : (object : Object) (k kind : Kind) (p position end : ℕ) (replies : List Taken) → Says object kind position end replies →
    ◌≡◌ {A = Option (Kind × ℕ)} (Some (k, p)) (Some (kind, position)) → Says object k p end replies
says_at object k kind p position end replies says e = grind (arith, some_pair_parts)

after_next_pieces : (object : Object) (end : ℕ) (status : Status) (p m : ℕ) → PieceFacts object end (after_next status p m)
after_next_pieces object end status p m = grind arith

after_spread_pieces : (object : Object) (end : ℕ) (status : Status) (p m : ℕ) → PieceFacts object end (after_spread status p m)
after_spread_pieces object end status p m = grind arith

after_again_pieces : (object : Object) (end : ℕ) (status : Status) (last p : ℕ) (tag : Tag) →
    PieceFacts object end (after_again status last p tag)
after_again_pieces object end status last p tag = grind (arith, cond_both)

tagged_pieces : (object : Object) (end : ℕ) (kind : CallKind) (number place last : ℕ) (greatest : Tag) →
    Somewhere object place greatest end → PieceFacts object end (tagged kind number place last greatest)
tagged_pieces object end kind number place last greatest some = grind arith

query_pieces : (object : Object) (kind : CallKind) (number : ℕ) (found : Tag) (j last : ℕ) (greatest : Tag) (shown_at end : ℕ) →
    Somewhere object j found end → Somewhere object shown_at greatest end →
    PieceFacts object end (after_query kind number found j last greatest shown_at)
query_pieces object kind number found j last greatest shown_at end new old =
    cond_both (eqb j last) (tagged kind number place last later) (QueryFrom (suc j) last later place)
    (λ stage. PieceFacts object end stage)
    (λ e. tagged_pieces object end kind number place last later some) (λ e. some)
  where
    later : Tag
    later = later_tag greatest found

    place : ℕ
    place = cond (tag_lt found greatest) shown_at j

    some : Somewhere object place later end
    some = cases_of (tag_lt found greatest) (tag_lt greatest found) refl refl
      where
        cases_of : (b c : Bool) → tag_lt found greatest ≡ b → tag_lt greatest found ≡ c →
            Somewhere object (cond b shown_at j) (cond c found greatest) end
        cases_of true true h k = absurd (not_below_at_most found greatest (tag_lt-true found greatest h)
            (at_most_of_below greatest found (tag_lt-true greatest found k)))
        cases_of true false h k = old
        cases_of false true h k = new
        cases_of false false h k = subst (λ t. Somewhere object j t end) (same_tag found greatest h k) new

pieces_after :
    (object : Object) (kind : CallKind) (number now : ℕ) (stage : Stage) (asked : Kind) (position end : ℕ) (replies : List Taken)
    (lacks : Bool) →
    due stage ≡ Some (asked, position) → Says object asked position end replies → now ≤ end → PieceFacts object now stage →
    PieceFacts object end (after kind number stage replies lacks)
pieces_after object kind number now (ReadNext p m) asked position end replies lacks e says over facts =
    after_next_pieces object end (greatest_status replies) p m
pieces_after object kind number now (ReadSpread p m status) asked position end replies lacks e says over facts =
    after_spread_pieces object end status p m
pieces_after object kind number now (QueryFrom p last greatest shown_at) asked position end replies lacks e says over facts =
    let here = says_at object Query asked p position end replies says e in
    query_pieces object kind number (greatest_tag replies) p last greatest shown_at end (here.shown refl)
    (somewhere_later object shown_at greatest now end over facts)
pieces_after object kind number now (FetchAt q last tag) asked position end replies false e says over facts =
    cond_both (eqb q last) (AgainNext last last tag) (PreWriteAt last tag) (λ stage. PieceFacts object end stage) (λ e. tt) (λ e. tt)
pieces_after object kind number now (PreWriteAt last tag) asked position end replies lacks e says over facts =
    let here = says_at object (PreWrite tag) asked last position end replies says e in here.brought tag refl
pieces_after object kind number now (AgainNext last p tag) asked position end replies lacks e says over facts =
    after_again_pieces object end (greatest_status replies) last p tag
pieces_after object kind number now (MoveQuery p) asked position end replies lacks e says over facts =
    let here = says_at object Query asked p position end replies says e in here.shown refl
pieces_after object kind number now (MovePreWrite p tag) asked position end replies lacks e says over facts =
    let here = says_at object (PreWrite tag) asked (suc p) position end replies says e in here.brought tag refl
pieces_after object kind number now (MoveFetch p tag) asked position end replies true e says over facts = tt
pieces_after object kind number now _ asked position end replies _ e says over facts = tt

pub record AtPhase (object : Object) (phase : Phase) : Type 0 where
  pub stage : Stage
  pub now : ℕ
  pub before : now ≤ phase.start
  pub is_due : due stage ≡ Some (phase.kind, phase.position)
  pub facts : PieceFacts object now stage

at_phase : (object : Object) → AllByRecursion IsLawful object.layouts →
    (kind : CallKind) (number : ℕ) (phases : List Phase) (now : ℕ) (stage : Stage) → IsCourse kind number stage phases →
    AllByRecursion (IsTruePhase object) phases → StartsFrom now phases → PieceFacts object now stage →
    (place : ℕ) (phase : Phase) → slice_get phases place ≡ Some phase → AtPhase object phase
at_phase object lawful kind number (first ∷ phases) now stage course truth starts facts zero phase e =
    subst (λ p. AtPhase object p) (same_Some first phase e)
    (record {
      stage = begun_at stage first.position;
      now = now;
      before = starts;
      is_due = course.0;
      facts = begun_has (λ s. PieceFacts object now s) stage first.position (λ begins. tt) facts;
    })
at_phase object lawful kind number (first ∷ next ∷ later) now stage course truth starts facts (suc place) phase e =
    let end = course.1.0 in
    let ended = course.1.1 in
    let grew = start_before_end object first end lawful truth.0 ended in
    let before : now ≤ first.start = starts in
    at_phase object lawful kind number (next ∷ later) end
    (stage_past kind number stage first) course.2 truth.1
    (le_of_lt course.1.2)
    (subst (λ o. PieceFacts object end (passed kind number (begun_at stage first.position) o first.replies (lacks_pieces first)))
    (sym ended)
    (pieces_after object kind number now (begun_at stage first.position) first.kind first.position end first.replies
    (lacks_pieces first) course.0
    (says_of object first end truth.0 ended)
    (le_trans before grew) (begun_has (λ s. PieceFacts object now s) stage first.position (λ begins. tt) facts)))
    place phase e
at_phase object lawful kind number _ now stage course truth starts facts _ phase e = absurd (cc)

first_pieces : (object : Object) (kind : CallKind) (from now : ℕ) → PieceFacts object now (first_stage kind from)
first_pieces object kind from now = grind arith

starts_at_zero : (phases : List Phase) → StartsFrom 0 phases
starts_at_zero phases = grind arith

pub call_at_phase : (object : Object) → IsLegal object → (index : ℕ) (call : Call) → slice_get object.calls index ≡ Some call →
    (place : ℕ) (phase : Phase) → slice_get call.phases place ≡ Some phase → AtPhase object phase
call_at_phase object legal index call at place phase within =
    let c = legal.calls index call at in
    at_phase object legal.layouts call.kind call.id call.phases 0 (first_stage call.kind (source_of object index)) c.course c.phases
    (starts_at_zero call.phases)
    (first_pieces object call.kind (source_of object index) 0) place phase within
