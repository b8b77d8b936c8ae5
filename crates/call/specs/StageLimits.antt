-- The contracts that docs/trusted.md lists do not depend on this file; other contracts and proofs do.
-- Which positions and tags have a successor that fits the machine's numbers.
use Rattle.std.specs.Prelude.{◌+◌, ◌<◌, ◌^◌, List, IfSome}
use Rattle.tag.specs.declared.tag.Tag.{Tag}
use Rattle.tag.specs.Tag.{later_tag}
use Rattle.mail.specs.declared.phase.Taken.{Taken}
use Rattle.record.specs.declared.call.CallKind.{CallKind}
use Rattle.record.specs.declared.call.CallKind.TheVariants.{Read, Write, Move}
use Rattle.record.specs.declared.stage.Stage.{Stage}
use Rattle.record.specs.declared.stage.Stage.TheVariants.{QueryFrom}
use Rattle.record.specs.PhaseOrder.{due, greatest_tag}

-- the position of the phase that is due, if one is, has a successor that fits 32 bits
abbrev pub IsBelowLimit : Stage → Type 0
IsBelowLimit stage = IfSome (due stage) (λ asked. asked.1 + 1 < 2 ^ 32)

-- if the call is a write, the greatest tag that it found has a next tag, whose number fits 64 bits
abbrev pub IsTaggable : CallKind → (greatest : Tag) → Type 0
IsTaggable Read greatest = Unit {0}
IsTaggable (Write value) greatest = greatest.number + 1 < 2 ^ 64
IsTaggable Move greatest = Unit {0}

-- if the stage is a query, the greatest tag that it knows after these replies has a next tag, as `IsTaggable` says
abbrev pub HasNextTag : CallKind → Stage → List Taken → Type 0
HasNextTag kind (QueryFrom position last greatest shown_at) replies =
    IsTaggable kind (later_tag greatest (greatest_tag replies))
HasNextTag kind _ replies = Unit {0}
