-- What members told the calls of a node, and how a node keeps it.
use Rattle.std.specs.Prelude.{ℕ, ◌==◌, ◌&&◌, ◌||◌, not, Bool, true, false, if◌then◌else◌}
use Rattle.std.specs.Prelude.{List, [], ◌∷◌, ◌++◌, Option, None, Some, filter, map, option_to_list, take}
use Rattle.std.specs.List.{list_any}
use Rattle.tag.specs.declared.tag.Tag.{Tag}
use Rattle.tag.specs.Tag.{later_tag, tag_eq, tag_lt}
use Rattle.layout.specs.Layout.{Layout, quorum_of}
use Rattle.piece.specs.declared.piece.Piece.{Piece}
use Rattle.bank.specs.Bank.{Bank, piece_of}
use Rattle.bank.specs.Pointer.{status_of}
use Rattle.bank.specs.Serve.{greatest_final}
use Rattle.bank.specs.declared.status.Status.{Status}
use Rattle.bank.specs.declared.status.Status.TheVariants as status
use Rattle.mail.specs.declared.message.Message.{Message}
use Rattle.record.specs.declared.call.CallKind.{CallKind}
use Rattle.record.specs.Legal.{is_move}
use Rattle.open_calls.specs.Queries.{ToldTag}
use Rattle.letter.specs.declared.telling.Telling.{Telling}
use Rattle.local_object.specs.declared.kept_bank.KeptBank.{KeptBank}
use Rattle.local_object.specs.declared.kept_bank.KeptBank.TheVariants as kept
use Rattle.local_object.specs.declared.report.Report.{Report}
use Rattle.local_object.specs.Pieces.{at_point}

-- What a node tells of its banks

-- the piece of its greatest finalized tag that a bank keeps, if it is asked for
abbrev pub piece_if : (asks : Bool) → Bank → Option Piece
piece_if asks bank = if asks then piece_of bank (greatest_final bank) else None

-- what a node tells of an open bank
abbrev pub telling_if : (asks : Bool) → Bank → Telling
telling_if asks bank =
    record { status = status_of bank.pointer; greatest = greatest_final bank; piece = piece_if asks bank }

-- what a node tells of a bank that it keeps, if it tells anything: a closed bank has a final pointer, so what it told
-- would end no call early
abbrev pub told_by : KeptBank → (asks : Bool) → Option Telling
told_by (kept.Open bank) asks = Some (telling_if asks bank)
told_by (kept.Closed closed) asks = None

-- What a node keeps of what it was told

-- what the member that a message names told with it
abbrev pub report_of : Message → Telling → Report
report_of message telling =
    record { call = message.call; phase = message.phase; member = message.member; telling = telling }

-- whether a report is one to this phase of this call
abbrev pub is_of : (call phase : ℕ) → Report → Bool
is_of call phase report = report.call == call && report.phase == phase

-- whether two reports are of the same member, to the same phase of the same call
abbrev pub is_same : Report → Report → Bool
is_same report other = is_of report.call report.phase other && other.member == report.member

-- whether a report is kept beside a new one: it is one to another call, or to the same phase of the same call
abbrev pub is_kept_beside : Report → Report → Bool
is_kept_beside report other = not (other.call == report.call) || other.phase == report.phase

-- the reports with a new one, unless its member reported to this phase before; reports to other phases of its call are
-- dropped
abbrev pub with_report : Report → List Report → List Report
with_report report reports =
    if list_any (is_same report) reports then reports
    else filter (is_kept_beside report) reports ++ report ∷ []

-- what a call of this kind is told: a move goes on until it is answered, so it need not be told anything
abbrev pub told_to : CallKind → Option Telling → Option Telling
told_to kind told = if is_move kind then None else told

-- the reports after a call whose phase has this number takes a message with which its member told this
abbrev pub reports_after : (number : ℕ) → Message → Option Telling → List Report → List Report
reports_after number message None reports = reports
reports_after number message (Some telling) reports =
    if message.phase == number then with_report (report_of message telling) reports else reports

-- the reports without those to a call
abbrev pub without_reports : (call : ℕ) → List Report → List Report
without_reports call reports = filter (λ report. not (report.call == call)) reports

-- What a call was told

-- whether a pointer is unset
abbrev pub is_unset : Status → Bool
is_unset status.Unset = true
is_unset status.Pending = false
is_unset status.Final = false

-- whether a member told this phase of a call an unset pointer
abbrev pub tells_unset : (call phase : ℕ) → Report → Bool
tells_unset call phase report = is_of call phase report && is_unset report.telling.status

-- the greatest finalized tag that a member told
abbrev pub tag_told : Report → ToldTag
tag_told report = record { member = report.member; tag = report.telling.greatest }

-- the greatest finalized tags that members told this phase of a call with unset pointers, in the order in which they
-- told them, but no more of them than a quorum has members
abbrev pub tags_told : Layout → (call phase : ℕ) → List Report → List ToldTag
tags_told layout call phase reports =
    take (quorum_of layout) (map tag_told (filter (tells_unset call phase) reports))

-- whether a member told this phase of a call an unset pointer, and that this tag is its greatest finalized one
abbrev pub tells_held : Tag → (call phase : ℕ) → Report → Bool
tells_held tag call phase report = tells_unset call phase report && tag_eq report.telling.greatest tag

-- whether a member told this phase of a call a greatest finalized tag that is not greater than this one
abbrev pub tells_no_greater : Tag → (call phase : ℕ) → Report → Bool
tells_no_greater tag call phase report = is_of call phase report && not (tag_lt tag report.telling.greatest)

-- the later of this tag and the one that a report tells, if it is one to this phase of a call
abbrev pub later_told : (call phase : ℕ) → Tag → Report → Tag
later_told call phase greatest report =
    if is_of call phase report then later_tag greatest report.telling.greatest else greatest

-- the greatest of this tag and those that this phase of a call was told
abbrev pub greatest_told : (call phase : ℕ) → List Report → Tag → Tag
greatest_told call phase [] greatest = greatest
greatest_told call phase (report ∷ reports) greatest =
    greatest_told call phase reports (later_told call phase greatest report)

-- the piece of this tag that a member told this phase of a call, if it did so
abbrev pub told_of_tag : Tag → (call phase : ℕ) → Report → Option Piece
told_of_tag tag call phase report =
    if is_of call phase report && tag_eq report.telling.greatest tag then report.telling.piece else None

-- the same piece, if its point is that of the member
abbrev pub told_piece : Tag → (call phase : ℕ) → Report → Option Piece
told_piece tag call phase report = at_point report.member (told_of_tag tag call phase report)

-- the pieces of this tag that members told this phase of a call, in the order in which they told them
abbrev pub told_pieces : Tag → (call phase : ℕ) → List Report → List Piece
told_pieces tag call phase [] = []
told_pieces tag call phase (report ∷ reports) =
    option_to_list (told_piece tag call phase report) ++ told_pieces tag call phase reports

-- the first k of these pieces
abbrev pub first_told : (k : ℕ) → Tag → (call phase : ℕ) → List Report → List Piece
first_told k tag call phase reports = take k (told_pieces tag call phase reports)
