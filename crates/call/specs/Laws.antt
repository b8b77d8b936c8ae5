-- The contracts that docs/trusted.md lists do not depend on this file; other contracts and proofs do.
-- Readings of the sequence that phases drive, and how they agree with the record's definitions.
use Rattle.std.specs.Prelude.{◌≡◌, ℕ, ◌↔◌, List, [], ◌∷◌, Some, IsSome}
use Rattle.std.specs.List.{AllByRecursion}
use Rattle.tag.specs.declared.tag.Tag.{Tag}
use Rattle.bank.specs.declared.status.Status.{Status}
use Rattle.mail.specs.Phase.{Phase}
use Rattle.record.specs.declared.call.CallKind.{CallKind}
use Rattle.record.specs.PhaseOrder.{greatest_status, stage_after}
use Rattle.record.specs.Grammar.{IsReading}
use Rattle.call.specs.declared.reading.Reading.{Reading}
use Rattle.call.specs.declared.reading.Reading.TheVariants.{Next, Spread, Ended}
use Rattle.call.specs.Reading.{next_phase_of, found_by, spread_by, first_of, again_of}

-- the reading after its next phase is complete, where the replies show this greatest status
abbrev pub led_on : Reading → Status → Reading
led_on (Next position finalized) status = found_by (Next position finalized) status
led_on (Spread position finalized found) status = spread_by (Spread position finalized found)
led_on (Ended last finalized) status = Ended last finalized

-- each phase is the one that was next, and together they lead the reading to `to`
abbrev pub LeadsReading : Reading → List Phase → (to : Reading) → Type 0
LeadsReading reading [] to = reading ≡ to
LeadsReading reading (phase ∷ phases) to =
    (next_phase_of reading ≡ Some (phase.kind, phase.position))
    × LeadsReading (led_on reading (greatest_status phase.replies)) phases to

-- each phase is complete
abbrev pub AreComplete : List Phase → Type 0
AreComplete phases = AllByRecursion (λ (phase : Phase). IsSome phase.end) phases

-- a law: phases are a reading in the record's sense exactly if they lead a `Reading` to its end
abbrev pub ReadingsLeadToTheEnd : Type 0
ReadingsLeadToTheEnd =
    (position finalized last to : ℕ) (phases : List Phase)
    → IsReading position finalized phases last to ↔ LeadsReading (Next position finalized) phases (Ended last to)

-- a law: complete phases lead the stage of a call to where they lead its reading, be it the first or a later one
abbrev pub ReadingsAreStages : Type 0
ReadingsAreStages =
    (kind : CallKind) (number : ℕ) (reading to : Reading) (phases : List Phase)
    → LeadsReading reading phases to → AreComplete phases
    → (stage_after kind number (first_of reading) phases ≡ first_of to)
    × ((last : ℕ) (tag : Tag) → stage_after kind number (again_of last tag reading) phases ≡ again_of last tag to)
