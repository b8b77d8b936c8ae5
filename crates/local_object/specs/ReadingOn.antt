-- Whether a call that reads the sequence of layouts goes on at the node's start.
use Rattle.std.specs.Prelude.{ℕ, ◌^◌, ◌&&◌, ◌==◌, not, Bool, true, false, is_some, if◌then◌else◌, nat_lt}
use Rattle.std.specs.Prelude.{List, [], ◌∷◌, Option, None, Some}
use Rattle.layout.specs.Layout.{Layout, quorum_of}
use Rattle.bank.specs.declared.kind.Kind.{Kind}
use Rattle.bank.specs.declared.kind.Kind.TheVariants.{Next}
use Rattle.record.specs.declared.stage.Stage.{Stage}
use Rattle.record.specs.Legal.{is_move}
use Rattle.record.specs.declared.stage.Stage.TheVariants.{ReadNext}
use Rattle.call.specs.Call.{OpenCall as Machine}
use Rattle.open_calls.specs.OpenCalls.{NodeCall, open_call}
use Rattle.local_object.specs.Events.{LocalEvent}
use Rattle.local_object.specs.Local.{LocalObject, Place, heard_place, layout_in}
use Rattle.local_object.specs.Starting.{number_at}
use Rattle.local_object.specs.Taking.{machine_of}

-- whether the first reading of the sequence of layouts is at this position
abbrev pub is_reading_at : Stage → (position : ℕ) → Bool
is_reading_at (ReadNext there finalized) position = there == position
is_reading_at _ position = false

-- whether a phase of this kind asks for a pointer
abbrev pub is_next : Kind → Bool
is_next Next = true
is_next _ = false

-- whether there is a layout, and this many replies are a quorum of it
abbrev pub has_quorum : Option Layout → (quorum : ℕ) → Bool
has_quorum None quorum = false
has_quorum (Some layout) quorum = quorum == quorum_of layout

-- whether the call is no move, has settled nothing, and its current phase reads the sequence of layouts at a position
-- of which the node has heard, and still lacks a quorum of replies
abbrev pub is_reading : List Place → Machine → Bool
is_reading places call =
    not (is_move call.kind) && (not (is_some call.phase.end) && (not (is_some call.settled)
    && (is_reading_at call.stage call.phase.position && (is_next call.phase.kind
    && has_quorum (layout_in (heard_place places call.phase.position)) call.phase.quorum))))

-- whether there is a call, it reads at a position before the node's start, and there is a number for the phase in which
-- it goes on at the start
abbrev pub reads_on : LocalObject → Option NodeCall → Bool
reads_on local None = false
reads_on local (Some call) =
    is_reading local.places (machine_of call)
    && (nat_lt call.phase.position local.start && nat_lt (number_at call local.start) (2 ^ 32))

-- what a node does to have the call with this id go on at the node's start: nothing if the call reads at no position
-- before it
abbrev pub read_on_events : LocalObject → (id : ℕ) → List LocalEvent
read_on_events local id = if reads_on local (open_call local.calls id) then LocalEvent.ReadOn id ∷ [] else []
