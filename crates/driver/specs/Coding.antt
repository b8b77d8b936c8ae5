-- The contracts that docs/trusted.md lists do not depend on this file; other contracts and proofs do.
-- Values that are decoded for a call: why a settle is refused, and which value it settles.
use Rattle.std.specs.Prelude.{◌≡◌, ℕ, pred, List, length, Option, None}
use Rattle.tag.specs.declared.refusal.Refusal.{Refusal}
use Rattle.piece.specs.declared.piece.Piece.{Piece}
use Rattle.decoder.specs.Pieces.{ArePiecesOf, IsInterpolated}
use Rattle.record.specs.Records.{Object}
use Rattle.record.specs.Steps.{Step}
use Rattle.record.specs.Wants.{want_of}
use Rattle.record.specs.declared.stage.Want.{Want}
use Rattle.record.specs.declared.stage.Want.TheVariants as want
use Rattle.register.specs.Causes.{call_at, if_call, if_step, if_settle}
use Rattle.register.specs.View.{fetched_pieces}

-- why a call does not settle the value of its own pieces: it wants no settling, it lacks pieces, or the limit of steps
-- is met
abbrev pub settling_cause : (now : ℕ) → Object → (number : ℕ) → Option Refusal
settling_cause now object number =
    if_call (call_at object number)
    (λ call. if_settle (want_of object (pred number) call) (if_step now None))

-- these pieces are pieces of some value of this length
abbrev pub GiveBack : (k len : ℕ) → List Piece → Type 0
GiveBack k len pieces = (value : List ℕ) × (length value ≡ len) × ArePiecesOf value k pieces

-- the step settles the value that the call's pieces give
abbrev pub Settles : Object → (number : ℕ) → Step → Want → Type 0
Settles object number step (want.Settle k len) =
    (value : List ℕ) × (step ≡ Step.Settle (pred number) value)
    × IsInterpolated k len (fetched_pieces object number) value
Settles object number step _ = ⊥
