-- The order of a call's phases: which phase is due at each stage of a read, write or move, and where its replies lead.
use Rattle.std.specs.Prelude.{◌≡◌, ℕ, suc, ◌<◌, ◌==◌, Bool, if◌then◌else◌}
use Rattle.std.specs.Prelude.{List, [], ◌∷◌, Option, Some, None}
use Rattle.tag.specs.declared.tag.Tag.{Tag}
use Rattle.tag.specs.Tag.{opening_tag, next_tag, later_tag, tag_lt}
use Rattle.bank.specs.declared.status.Status.{Status}
use Rattle.bank.specs.declared.status.Status.TheVariants.{Unset, Pending, Final}
use Rattle.bank.specs.declared.kind.Kind.{Kind}
use Rattle.bank.specs.declared.kind.Kind.TheVariants.{Next, Spread, Query, PreWrite, Finalize, Fetch}
use Rattle.bank.specs.declared.reply.Answer.{Answer}
use Rattle.bank.specs.declared.reply.Answer.TheVariants as answer
use Rattle.bank.specs.Knowledge.{status_le}
use Rattle.mail.specs.declared.phase.Taken.{Taken}
use Rattle.mail.specs.Phase.{Phase, lacks_pieces}
use Rattle.record.specs.declared.call.CallKind.{CallKind}
use Rattle.record.specs.declared.call.CallKind.TheVariants.{Read, Write, Move}
use Rattle.record.specs.declared.stage.Stage.{Stage}
use Rattle.record.specs.declared.stage.Stage.TheVariants.{ReadBegin, ReadNext, ReadSpread, QueryFrom, FetchAt}
use Rattle.record.specs.declared.stage.Stage.TheVariants.{PreWriteAt, FinalizeAt, AgainNext, AgainSpread}
use Rattle.record.specs.declared.stage.Stage.TheVariants.{MoveSpread, MoveQuery, MoveFetch, MovePreWrite}
use Rattle.record.specs.declared.stage.Stage.TheVariants.{MoveFinalize, MoveFinal, Ended, Moved}

-- the status of a pointer that an answer shows, or unset if it shows none
abbrev pub shown_status : Answer → Status
shown_status (answer.Pointer status) = status
shown_status _ = Unset

-- the tag that an answer shows, or the opening tag if it shows none
abbrev pub shown_tag : Answer → Tag
shown_tag (answer.Greatest tag) = tag
shown_tag _ = opening_tag

-- the greater of two statuses, in the order unset, pending, final
abbrev pub later_status : Status → Status → Status
later_status s t = if status_le s t then t else s

-- the greatest status that the replies show, or unset if they show none
abbrev pub greatest_status : List Taken → Status
greatest_status [] = Unset
greatest_status (taken ∷ replies) = later_status (shown_status taken.reply.answer) (greatest_status replies)

-- the greatest tag that the replies show, or the opening tag if they show none
abbrev pub greatest_tag : List Taken → Tag
greatest_tag [] = opening_tag
greatest_tag (taken ∷ replies) = later_tag (shown_tag taken.reply.answer) (greatest_tag replies)

-- the stage once its phase begins at a position: if a first reading is to begin, it begins there
abbrev pub begun_at : Stage → (position : ℕ) → Stage
begun_at ReadBegin position = ReadNext position position
begun_at stage position = stage

-- the phase due at a stage, with its position (for ReadBegin see `begun_at`), or none if the call is finished
abbrev pub due : Stage → Option (Kind × ℕ)
due ReadBegin = Some (Next, 0)
due (ReadNext position finalized) = Some (Next, position)
due (ReadSpread position finalized status) = Some (Spread status, position)
due (QueryFrom position last tag shown_at) = Some (Query, position)
due (FetchAt shown_at last tag) = Some (Fetch tag, shown_at)
due (PreWriteAt last tag) = Some (PreWrite tag, last)
due (FinalizeAt last tag) = Some (Finalize tag, last)
due (AgainNext last position tag) = Some (Next, position)
due (AgainSpread last position tag status) = Some (Spread status, position)
due (MoveSpread position) = Some (Spread Pending, position)
due (MoveQuery position) = Some (Query, position)
due (MoveFetch position tag) = Some (Fetch tag, position)
due (MovePreWrite position tag) = Some (PreWrite tag, suc position)
due (MoveFinalize position tag) = Some (Finalize tag, suc position)
due (MoveFinal position tag) = Some (Spread Final, position)
due (Ended last tag) = None
due (Moved position tag) = None

-- the stage after a first reading found this status: an unset pointer ends the reading, and any other status is spread
abbrev pub after_next : Status → (position finalized : ℕ) → Stage
after_next Unset position finalized = QueryFrom finalized position opening_tag finalized
after_next Pending position finalized = ReadSpread position finalized Pending
after_next Final position finalized = ReadSpread position finalized Final

-- the stage after a first reading spread this status: it goes on at the next position, finalized if the status is final
abbrev pub after_spread : Status → (position finalized : ℕ) → Stage
after_spread Final position finalized = ReadNext (suc position) (suc position)
after_spread Pending position finalized = ReadNext (suc position) finalized
after_spread Unset position finalized = ReadNext (suc position) finalized

-- the stage once all queries are complete: a read or move fetches the greatest tag, and a write pre-writes the next tag
abbrev pub tagged : CallKind → (number : ℕ) → (shown_at last : ℕ) → Tag → Stage
tagged Read number shown_at last greatest = FetchAt shown_at last greatest
tagged (Write value) number shown_at last greatest = PreWriteAt last (next_tag greatest number)
tagged Move number shown_at last greatest = FetchAt shown_at last greatest

-- the stage after a query found a tag: up to the last position the next one is queried; of equal tags the later counts
abbrev pub after_query : CallKind → (number : ℕ) → Tag → (position last : ℕ) → Tag →
    (shown_at : ℕ) → Stage
after_query kind number found position last greatest shown_at =
    let later = later_tag greatest found in
    let place = if tag_lt found greatest then shown_at else position in
    if position == last then tagged kind number place last later else QueryFrom (suc position) last later place

-- the stage after a fetch: the tag is put into the last position, unless it was fetched, and so finalized, there
abbrev pub after_fetch : (shown_at last : ℕ) → Tag → Stage
after_fetch shown_at last tag = if shown_at == last then AgainNext last last tag else PreWriteAt last tag

-- the stage after a later reading found this status: if unset, the call ends or puts the tag there; otherwise it is
-- spread
abbrev pub after_again : Status → (last position : ℕ) → Tag → Stage
after_again Unset last position tag = if position == last then Ended last tag else PreWriteAt position tag
after_again Pending last position tag = AgainSpread last position tag Pending
after_again Final last position tag = AgainSpread last position tag Final

-- the stage to which a complete phase leads; a fetch that lacks pieces leads a read to ReadBegin, a move to MoveQuery
abbrev pub after : CallKind → (number : ℕ) → Stage → List Taken → (lacks : Bool) → Stage
after kind number ReadBegin replies lacks = ReadBegin
after kind number (ReadNext position finalized) replies lacks = after_next (greatest_status replies) position finalized
after kind number (ReadSpread position finalized status) replies lacks = after_spread status position finalized
after kind number (QueryFrom position last greatest shown_at) replies lacks =
    after_query kind number (greatest_tag replies) position last greatest shown_at
after kind number (FetchAt shown_at last tag) replies lacks =
    if lacks then ReadBegin else after_fetch shown_at last tag
after kind number (PreWriteAt last tag) replies lacks = FinalizeAt last tag
after kind number (FinalizeAt last tag) replies lacks = AgainNext last last tag
after kind number (AgainNext last position tag) replies lacks = after_again (greatest_status replies) last position tag
after kind number (AgainSpread last position tag status) replies lacks = AgainNext last (suc position) tag
after kind number (MoveSpread position) replies lacks = MoveQuery position
after kind number (MoveQuery position) replies lacks = MoveFetch position (greatest_tag replies)
after kind number (MoveFetch position tag) replies lacks =
    if lacks then MoveQuery position else MovePreWrite position tag
after kind number (MovePreWrite position tag) replies lacks = MoveFinalize position tag
after kind number (MoveFinalize position tag) replies lacks = MoveFinal position tag
after kind number (MoveFinal position tag) replies lacks = Moved position tag
after kind number (Ended last tag) replies lacks = Ended last tag
after kind number (Moved position tag) replies lacks = Moved position tag

-- the stage to which a phase leads: if it is not complete, the stage stays
abbrev pub passed : CallKind → (number : ℕ) → Stage → Option ℕ → List Taken → (lacks : Bool) → Stage
passed kind number stage None replies lacks = stage
passed kind number stage (Some end) replies lacks = after kind number stage replies lacks

-- the stage to which a phase leads; if a first reading is to begin, it begins at the phase's position
abbrev pub stage_past : CallKind → (number : ℕ) → Stage → Phase → Stage
stage_past kind number stage phase =
    passed kind number (begun_at stage phase.position) phase.end phase.replies (lacks_pieces phase)

-- the stage to which these phases lead, one after another
abbrev pub stage_after : CallKind → (number : ℕ) → Stage → List Phase → Stage
stage_after kind number stage [] = stage
stage_after kind number stage (phase ∷ phases) = stage_after kind number (stage_past kind number stage phase) phases

-- the phase ended before the next one began, if there is a next one
abbrev pub IsEndedBefore : Phase → List Phase → Type 0
IsEndedBefore phase [] = Unit {0}
IsEndedBefore phase (next ∷ later) = (end : ℕ) × (phase.end ≡ Some end) × (end < next.start)

-- from this stage on each phase is the one that is due, and ended before the next began; first readings begin anywhere
abbrev pub IsCourse : CallKind → (number : ℕ) → Stage → List Phase → Type 0
IsCourse kind number stage [] = Unit {0}
IsCourse kind number stage (phase ∷ phases) =
    (due (begun_at stage phase.position) ≡ Some (phase.kind, phase.position)) × IsEndedBefore phase phases
    × IsCourse kind number (stage_past kind number stage phase) phases

-- from this stage on each first reading begins at the base of the step at which it begins, which `base` computes
abbrev pub BeginAtBase : (base : ℕ → ℕ) → CallKind → (number : ℕ) → Stage → List Phase → Type 0
BeginAtBase base kind number stage [] = Unit {0}
BeginAtBase base kind number stage (phase ∷ phases) =
    (stage ≡ ReadBegin → phase.position ≡ base phase.start)
    × BeginAtBase base kind number (stage_past kind number stage phase) phases

-- there is a phase, and the last one ended before this step
abbrev pub EndsBefore : List Phase → ℕ → Type 0
EndsBefore [] step = ⊥
EndsBefore (phase ∷ []) step = (end : ℕ) × (phase.end ≡ Some end) × (end < step)
EndsBefore (phase ∷ next ∷ later) step = EndsBefore (next ∷ later) step
