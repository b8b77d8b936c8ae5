-- The contracts that docs/trusted.md lists do not depend on this file; other contracts and proofs do.
-- How a round changes the seat or the administrator that makes it.
use Rattle.std.specs.Prelude.{◌≡◌, ◌⊎◌, Bool, true, false, length}
use Rattle.encoder.specs.Coded.{IsCodable}
use Rattle.call.specs.declared.receipt.Receipt.{Receipt}
use Rattle.driver.specs.Coding.{GiveBack}
use Rattle.driver.specs.declared.round.Round.{Round}
use Rattle.driver.specs.declared.round.Round.TheVariants as round
use Rattle.locked_steps.specs.declared.handed_in.HandedIn.{HandedIn}
use Rattle.locked_steps.specs.declared.handed_in.HandedIn.TheVariants as hand

-- the state after a round: an answer ends the call, and any other round leaves the state as it is
abbrev pub LeavesBy : {S : Type 0} → (S → Receipt → S → Type 0) → S → Round → S → Type 0
LeavesBy ends s (round.Answered receipt) t = ends s receipt t
LeavesBy ends s _ t = t ≡ s

-- the state after a call stays open: the same, or, for a resume, with one more round counted that asked again
abbrev pub StaysOpen : {S : Type 0} → (S → S) → (resumed : Bool) → S → S → Type 0
StaysOpen asks true s t = (t ≡ s) ⊎ (t ≡ asks s)
StaysOpen asks false s t = t ≡ s

-- the round did not answer its call
abbrev pub IsRoundWithoutAnswer : Round → Type 0
IsRoundWithoutAnswer (round.Answered receipt) = ⊥
IsRoundWithoutAnswer _ = Unit {0}

-- what a round hands out can be coded: the value can be encoded, or the pieces are those of some value
abbrev pub CanBeCoded : Round → Type 0
CanBeCoded (round.Encode value k n) = IsCodable k n value
CanBeCoded (round.Decode pieces k len) = GiveBack k len pieces.items
CanBeCoded _ = Unit {0}

-- a thread hands in what the round asked for: the encoded value, the value of the decoded pieces, or nothing
abbrev pub IsCodedFrom : Round → HandedIn → Type 0
IsCodedFrom (round.Encode value k n) (hand.Coded coded) = coded ≡ record { k = k; n = n; value = value }
IsCodedFrom (round.Decode pieces k len) (hand.Decoded decoded) =
    (decoded.k ≡ k) × (decoded.pieces ≡ pieces.items) × (length decoded.value ≡ len)
IsCodedFrom round.Stepped hand.Empty = Unit {0}
IsCodedFrom round.Late hand.Empty = Unit {0}
IsCodedFrom _ _ = ⊥
