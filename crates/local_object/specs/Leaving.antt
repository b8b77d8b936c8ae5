-- Positions whose pointers the phases of calls raise to final.
use Rattle.std.specs.Prelude.{ℕ, Bool, false, ◌==◌, Option, None, Some}
use Rattle.bank.specs.declared.kind.Kind.{Kind}
use Rattle.bank.specs.declared.kind.Kind.TheVariants.{Spread}
use Rattle.bank.specs.declared.status.Status.TheVariants.{Final}
use Rattle.open_calls.specs.OpenCalls.{NodeCall}

-- the position, if a phase of this kind raises the pointer of the position to final
abbrev pub if_final : Kind → (position : ℕ) → Option ℕ
if_final (Spread Final) position = Some position
if_final kind position = None

-- the position whose pointer the current phase of a call raises to final, if there is a call, and it does so
abbrev pub final_position : Option NodeCall → Option ℕ
final_position None = None
final_position (Some call) = if_final call.phase.kind call.phase.position

-- whether there is a position, and it is this one
abbrev pub is_at : Option ℕ → (position : ℕ) → Bool
is_at None position = false
is_at (Some there) position = there == position
