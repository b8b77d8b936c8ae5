-- Exactly when the first reading of a call stands for its query too.
use Rattle.std.specs.Prelude.{ℕ, ◌+◌, ◌^◌, ◌&&◌, not, Bool, true, false, nat_le, nat_lt, if◌then◌else◌}
use Rattle.std.specs.Prelude.{List, [], ◌∷◌, Option, None, Some}
use Rattle.std.specs.List.{count_by}
use Rattle.layout.specs.Layout.{Layout, quorum_of}
use Rattle.bank.specs.declared.kind.Kind.{Kind}
use Rattle.bank.specs.declared.kind.Kind.TheVariants as kind
use Rattle.call.specs.Call.{OpenCall as Machine}
use Rattle.call.specs.declared.next.Next.{Next}
use Rattle.call.specs.declared.next.Next.TheVariants as next
use Rattle.record.specs.Legal.{is_move}
use Rattle.open_calls.specs.OpenCalls.{NodeCall, open_call}
use Rattle.local_object.specs.declared.report.Report.{Report}
use Rattle.local_object.specs.Early.{is_first_counting}
use Rattle.local_object.specs.Events.{LocalEvent}
use Rattle.local_object.specs.Going.{next_here}
use Rattle.local_object.specs.Local.{LocalObject, layout_here}
use Rattle.local_object.specs.ReadingOn.{is_next, is_reading_at}
use Rattle.local_object.specs.Reports.{tells_unset}
use Rattle.local_object.specs.Taking.{machine_of}

-- whether a phase of this kind asks for the greatest finalized tag
abbrev pub is_query : Kind → Bool
is_query kind.Query = true
is_query _ = false

-- whether a call that does this next begins a query
abbrev pub begins_query : Next → Bool
begins_query (next.Begin asked position) = is_query asked
begins_query _ = false

-- whether there is a layout, and as many members as are a quorum of it told this phase of a call that their pointers
-- are unset
abbrev pub is_told_by_quorum : Option Layout → (call phase : ℕ) → List Report → Bool
is_told_by_quorum None call phase reports = false
is_told_by_quorum (Some layout) call phase reports =
    nat_le (quorum_of layout) (count_by (tells_unset call phase) reports)

-- whether the call is a read or a write that asked for the pointers of the first position that counts, and is to query
-- it next
abbrev pub is_to_query : Machine → Bool
is_to_query call =
    not (is_move call.kind) && (is_first_counting call.stage && (is_reading_at call.stage call.phase.position
    && (is_next call.phase.kind && begins_query (next_here call))))

-- whether the first reading of a call stands for the query that it is to make next, if there is a number for that phase
abbrev pub stands_for_query : LocalObject → NodeCall → Bool
stands_for_query local call =
    is_to_query (machine_of call) && (nat_lt (call.phase.number + 1) (2 ^ 32)
    && is_told_by_quorum (layout_here local call.phase.position) call.id call.phase.number local.reports)

-- the same, if there is a call
abbrev pub query_by : LocalObject → Option NodeCall → List LocalEvent
query_by local None = []
query_by local (Some call) = if stands_for_query local call then LocalEvent.Query call.id ∷ [] else []

-- the event by which the first reading of the call with this id stands for its query, if it does
abbrev pub query_events : LocalObject → (id : ℕ) → List LocalEvent
query_events local id = query_by local (open_call local.calls id)
