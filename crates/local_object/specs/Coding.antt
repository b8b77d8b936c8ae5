-- The values that calls encode.
use Rattle.std.specs.Prelude.{ℕ, Bool, true, nat_le, List, length, Option, Some, None}
use Rattle.tag.specs.declared.limits.TheConstants.{LONGEST_VALUE}
use Rattle.bank.specs.declared.kind.Kind.{Kind}
use Rattle.bank.specs.declared.kind.Kind.TheVariants.{PreWrite}
use Rattle.encoder.specs.Coded.{Coding}
use Rattle.layout.specs.Layout.{Layout}
use Rattle.record.specs.Sending.{sent_value, value_or_empty}
use Rattle.call.specs.Call.{OpenCall as Machine}

-- the value that a call writes, or otherwise the one that it settled, or otherwise the empty one
abbrev pub call_value : Machine → List ℕ
call_value call = value_or_empty (sent_value call.kind call.settled)

-- whether a phase of this kind sends no pieces, or the value of the call is short enough to be encoded
abbrev pub is_sendable : Kind → Machine → Bool
is_sendable (PreWrite tag) call = nat_le (length (call_value call)) LONGEST_VALUE
is_sendable _ call = true

-- the value of the call, encoded for a layout, if this is a phase that sends pieces
abbrev pub phase_coding : Kind → Layout → Machine → Option Coding
phase_coding (PreWrite tag) layout call =
    Some (record { k = layout.k; n = length layout.members; value = call_value call })
phase_coding _ layout call = None
