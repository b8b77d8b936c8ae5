-- The contracts that docs/trusted.md lists do not depend on this file; other contracts and proofs do.
-- When a position is retired.
use Rattle.std.specs.Prelude.{ℕ, suc, Bool, false, ◌&&◌, ◌==◌, is_some, if◌then◌else◌, List, [], ◌∷◌, Option, None}
use Rattle.tag.specs.declared.refusal.Refusal.{Refusal}
use Rattle.tag.specs.declared.refusal.Refusal.TheVariants.{NotNow}
use Rattle.record.specs.Records.{Call, Object, base_of}
use Rattle.record.specs.Legal.{is_move}
use Rattle.register.specs.Causes.{unless, if_step}

-- whether the move out of a position was answered; the first move among the calls leads out of the position `from`
abbrev pub is_moved_out : List Call → (from position : ℕ) → Bool
is_moved_out [] from position = false
is_moved_out (call ∷ calls) from position =
    if is_move call.kind
    then (if from == position then is_some call.answered else is_moved_out calls (suc from) position)
    else is_moved_out calls from position

-- whether a position is the base, and the move out of it was answered
abbrev pub is_retirable : Object → (position : ℕ) → Bool
is_retirable object position = position == base_of object && is_moved_out object.calls 0 position

-- why a position is not retired
abbrev pub retire_cause : (now : ℕ) → Object → (position : ℕ) → Option Refusal
retire_cause now object position = unless (is_retirable object position) NotNow (if_step now None)
