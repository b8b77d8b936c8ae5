-- Calls that begin or go on at a start of the object: a position such that, at each position before it, the pointer is
-- final at a quorum. So a call need not read the positions before it.
use Rattle.std.specs.Prelude.{◌≡◌, ◌+◌, ◌*◌, ◌-◌, ◌<◌, ℕ, suc, length, Option, None, Some}
use Rattle.layout.specs.Layout.{Layout, quorum_of}
use Rattle.bank.specs.Bank.{empty_piece}
use Rattle.bank.specs.declared.kind.Kind.TheVariants.{Next}
use Rattle.record.specs.declared.call.CallKind.{CallKind}
use Rattle.record.specs.declared.stage.Stage.TheVariants.{ReadNext}
use Rattle.record.specs.Steps.{new_phase}
use Rattle.open_calls.specs.OpenCalls.{NodeCall, with_open}
use Rattle.local_object.specs.Local.{LocalObject, layout_here}
use Rattle.local_object.specs.Outcomes.{Outcome, begun_here, is_read, phase_letters, silent}

-- the number of the phase in which a call that begins at a start reads there: if it began at position 0, it would have
-- two phases at each position before
abbrev pub first_number : (start : ℕ) → ℕ
first_number start = suc (2 * start)

-- the number of the phase in which a call that reads at a position before a start goes on there
abbrev pub number_at : NodeCall → (start : ℕ) → ℕ
number_at call start = call.phase.number + 2 * (start - call.phase.position)

-- the number of the phase in which a call that begins anew at a start reads there
abbrev pub anew_number : NodeCall → (start : ℕ) → ℕ
anew_number call start = call.phase.number + first_number start

-- the call as it begins to read the sequence of layouts at a position with this layout, in a phase with this number
abbrev pub reading_call : NodeCall → (number position : ℕ) → Layout → NodeCall
reading_call call number position layout = record call {
  stage = ReadNext position position;
  phase = new_phase call.id number Next position layout 0;
}

-- after the node begins a read or a write at a start, if it has heard of the layout there
abbrev pub called_at : LocalObject → (id : ℕ) → CallKind → (start : ℕ) → Option Layout → Outcome
called_at local id kind start layout =
    begun_here local id kind (ReadNext start start) Next (first_number start) start layout

-- after a call reads at a start in a phase with this number, if the node has heard of the layout there
abbrev pub reads_at : LocalObject → NodeCall → (number start : ℕ) → Option Layout → Outcome
reads_at local call number start None = silent local
reads_at local call number start (Some layout) = record {
  local = record local { calls = with_open (reading_call call number start layout) local.calls };
  sent = phase_letters local (is_read call.kind) call.id number Next start layout empty_piece;
}

-- after a call reads at the node's start in a phase with this number
abbrev pub reads_here : LocalObject → NodeCall → (number : ℕ) → Outcome
reads_here local call number = reads_at local call number local.start (layout_here local local.start)

-- the call reads the sequence of layouts: its current phase asks for the pointer of a position of which the node has
-- heard, and still lacks a quorum of replies
pub record IsReadingHere (local : LocalObject) (call : NodeCall) : Type 0 where
  pub finalized : ℕ
  pub stage : call.stage ≡ ReadNext call.phase.position finalized
  pub kind : call.phase.kind ≡ Next
  pub own : call.phase.call ≡ call.id
  pub layout : Layout
  pub known : layout_here local call.phase.position ≡ Some layout
  pub quorum : call.phase.quorum ≡ quorum_of layout
  pub few : length call.phase.replies < call.phase.quorum
  pub unended : call.phase.end ≡ None
