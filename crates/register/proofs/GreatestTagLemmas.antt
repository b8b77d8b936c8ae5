-- The greatest tag that a stage has found, by the tags that replies show.
use Rattle.std.proofs.Common.{ℕ, suc, ◌≤◌, ◌==◌, Bool, true, false, cond, List, [], ◌∷◌, Option, Some, None}
use Rattle.std.proofs.Common.{arith}
use Rattle.std.specs.List.{AllByRecursion}
use Rattle.tag.specs.declared.tag.Tag.{Tag}
use Rattle.tag.specs.Tag.{later_tag, tag_lt}
use Rattle.bank.specs.declared.status.Status.{Status}
use Rattle.bank.specs.declared.status.Status.TheVariants.{Unset, Pending, Final}
use Rattle.mail.specs.declared.phase.Taken.{Taken}
use Rattle.mail.specs.Phase.{Phase, lacks_pieces}
use Rattle.record.specs.declared.call.CallKind.{CallKind}
use Rattle.record.specs.declared.call.CallKind.TheVariants.{Read, Write, Move}
use Rattle.record.specs.declared.stage.Stage.{Stage}
use Rattle.record.specs.declared.stage.Stage.TheVariants.{ReadBegin, ReadNext, ReadSpread, QueryFrom, FetchAt, PreWriteAt}
use Rattle.record.specs.declared.stage.Stage.TheVariants.{AgainNext}
use Rattle.record.specs.declared.stage.Stage.TheVariants.{MoveQuery, MoveFetch, MovePreWrite}
use Rattle.record.specs.declared.stage.Stage.TheVariants.{Ended}
use Rattle.record.specs.PhaseOrder.{shown_tag, greatest_tag, greatest_status, after_next, after_spread, after_again, tagged, after, passed}
use Rattle.record.specs.PhaseOrder.{begun_at, stage_past, stage_after}
use Rattle.record.specs.Legal.{first_stage}

-- the greatest tag that a stage has found has at most this number
abbrev pub FoundUpTo : ℕ → Stage → Type 0
FoundUpTo n (QueryFrom position last greatest shown_at) = greatest.number ≤ n
FoundUpTo n _ = Unit {0}

-- a reply shows a tag of at most this number
abbrev pub ShownUpTo : ℕ → Taken → Type 0
ShownUpTo n taken = (shown_tag taken.reply.answer).number ≤ n

pub later_up_to : (n : ℕ) (a b : Tag) → a.number ≤ n → b.number ≤ n → (later_tag a b).number ≤ n
later_up_to n a b first second = elim (tag_lt a b) as (λ t. (cond t b a).number ≤ n) [ true ↦ second | false ↦ first ]

pub greatest_up_to : (n : ℕ) (replies : List Taken) → AllByRecursion (ShownUpTo n) replies → (greatest_tag replies).number ≤ n
greatest_up_to n [] shown = omega arith
greatest_up_to n (t ∷ ts) shown = later_up_to n (shown_tag t.reply.answer) (greatest_tag ts) shown.0 (greatest_up_to n ts shown.1)

after_up_to : (n : ℕ) (kind : CallKind) (number : ℕ) (stage : Stage) (replies : List Taken) (lacks : Bool)
    → AllByRecursion (ShownUpTo n) replies → FoundUpTo n stage → FoundUpTo n (after kind number stage replies lacks)
after_up_to n kind number (ReadNext position finalized) replies lacks shown so_far = go (greatest_status replies)
  where
    go : (status : Status) → FoundUpTo n (after_next status position finalized)
    go Unset = omega arith
    go Pending = tt
    go Final = tt
after_up_to n kind number (ReadSpread position finalized status) replies lacks shown so_far = go status
  where
    go : (status : Status) → FoundUpTo n (after_spread status position finalized)
    go Unset = tt
    go Pending = tt
    go Final = tt
after_up_to n kind number (QueryFrom position last greatest shown_at) replies lacks shown so_far =
    go (tag_lt (greatest_tag replies) greatest) (position == last) kind
  where
    later : Tag
    later = later_tag greatest (greatest_tag replies)

    up_to : later.number ≤ n
    up_to = later_up_to n greatest (greatest_tag replies) so_far (greatest_up_to n replies shown)

    go : (b d : Bool) (kind : CallKind) → FoundUpTo n
        (cond d (tagged kind number (cond b shown_at position) last later) (QueryFrom (suc position) last later (cond b shown_at position)))
    go b true Read = tt
    go b true (Write value) = tt
    go b true Move = tt
    go b false kind = up_to
after_up_to n kind number (FetchAt shown_at last tag) replies lacks shown so_far = go lacks (shown_at == last)
  where
    go : (lacks b : Bool) → FoundUpTo n (cond lacks ReadBegin (cond b (AgainNext last last tag) (PreWriteAt last tag)))
    go true b = tt
    go false true = tt
    go false false = tt
after_up_to n kind number (AgainNext last position tag) replies lacks shown so_far = go (greatest_status replies) (position == last)
  where
    ends : (b : Bool) → FoundUpTo n (cond b (Ended last tag) (PreWriteAt position tag))
    ends true = tt
    ends false = tt

    go : (status : Status) (b : Bool) → FoundUpTo n (after_again status last position tag)
    go Unset b = ends (position == last)
    go Pending b = tt
    go Final b = tt
after_up_to n kind number (MoveFetch position tag) replies lacks shown so_far = go lacks
  where
    go : (lacks : Bool) → FoundUpTo n (cond lacks (MoveQuery position) (MovePreWrite position tag))
    go true = tt
    go false = tt
after_up_to n kind number _ replies lacks shown so_far = tt

passed_up_to : (n : ℕ) (kind : CallKind) (number : ℕ) (stage : Stage) (end : Option ℕ) (replies : List Taken)
    (lacks : Bool) → AllByRecursion (ShownUpTo n) replies → FoundUpTo n stage
    → FoundUpTo n (passed kind number stage end replies lacks)
passed_up_to n kind number stage None replies lacks shown so_far = so_far
passed_up_to n kind number stage (Some end) replies lacks shown so_far = after_up_to n kind number stage replies lacks shown so_far

-- a stage whose phase begins has found no greater tag than before
pub begun_up_to : (n : ℕ) (stage : Stage) (position : ℕ) → FoundUpTo n stage → FoundUpTo n (begun_at stage position)
begun_up_to n (QueryFrom p l t q) position so_far = so_far
begun_up_to n _ position so_far = tt

pub stage_up_to : (n : ℕ) (kind : CallKind) (number : ℕ) (stage : Stage) (phases : List Phase)
    → AllByRecursion (λ (phase : Phase). AllByRecursion (ShownUpTo n) phase.replies) phases → FoundUpTo n stage
    → FoundUpTo n (stage_after kind number stage phases)
stage_up_to n kind number stage [] shown so_far = so_far
stage_up_to n kind number stage (p ∷ ps) shown so_far =
    stage_up_to n kind number (stage_past kind number stage p) ps shown.1
    (passed_up_to n kind number (begun_at stage p.position) p.end p.replies (lacks_pieces p) shown.0
    (begun_up_to n stage p.position so_far))

pub first_up_to : (n : ℕ) (kind : CallKind) (from : ℕ) → FoundUpTo n (first_stage kind from)
first_up_to n Read from = tt
first_up_to n _ from = tt
