-- The contracts that docs/trusted.md lists do not depend on this file; other contracts and proofs do.
-- The order of a move's phases.
use Rattle.std.specs.Prelude.{◌≡◌, ℕ, suc, Bool, if◌then◌else◌, List, [], ◌∷◌, drop, map, None}
use Rattle.std.specs.List.{AllByRecursion}
use Rattle.tag.specs.declared.tag.Tag.{Tag}
use Rattle.tag.specs.Tag.{opening_tag}
use Rattle.bank.specs.declared.status.Status.TheVariants.{Pending, Final}
use Rattle.bank.specs.declared.kind.Kind.{Kind}
use Rattle.bank.specs.declared.kind.Kind.TheVariants.{Spread, Query, PreWrite, Finalize, Fetch}
use Rattle.mail.specs.declared.phase.Taken.{Taken}
use Rattle.mail.specs.Phase.{Phase, lacks_pieces}
use Rattle.record.specs.declared.call.CallKind.TheVariants.{Move}
use Rattle.record.specs.declared.stage.Stage.{Stage}
use Rattle.record.specs.declared.stage.Stage.TheVariants.{MoveSpread, MoveQuery, MoveFetch, MovePreWrite, MoveFinalize}
use Rattle.record.specs.declared.stage.Stage.TheVariants.{MoveFinal, Moved}
use Rattle.record.specs.PhaseOrder.{greatest_tag, due, stage_after, IsCourse}
use Rattle.record.specs.Grammar.{IsMoveAttempt}
use Rattle.call.specs.Laws.{AreComplete}

-- the six phases of a move, with their positions: the next position is pending, then gets the tag, and then is final
abbrev pub move_phases : (from : ℕ) → Tag → List (Kind × ℕ)
move_phases from tag =
    (Spread Pending, from) ∷ (Query, from) ∷ (Fetch tag, from)
    ∷ (PreWrite tag, suc from) ∷ (Finalize tag, suc from) ∷ (Spread Final, from) ∷ []

-- the tag that a move copies: the greatest that its second phase, the query, showed
abbrev pub queried_tag : List Phase → Tag
queried_tag [] = opening_tag
queried_tag (spread ∷ []) = opening_tag
queried_tag (spread ∷ query ∷ later) = greatest_tag query.replies

-- of a move's phases after the first, those from the last query on
abbrev pub last_attempt : List Phase → List Phase
last_attempt (query ∷ fetch ∷ later) = if lacks_pieces fetch then last_attempt later else query ∷ fetch ∷ later
last_attempt phases = phases

-- the attempts that a move gave up: each is a query with a fetch that lacks pieces
abbrev pub given_up : List Phase → List (Phase × Phase)
given_up (query ∷ fetch ∷ later) = if lacks_pieces fetch then (query, fetch) ∷ given_up later else []
given_up phases = []

-- the phases of a move without those of the attempts that it gave up
abbrev pub last_phases : List Phase → List Phase
last_phases [] = []
last_phases (spread ∷ later) = spread ∷ last_attempt later

-- a law: a finished move completed its phases, which without given-up attempts are the phases `move_phases`, in order
abbrev pub MovesAreInOrder : Type 0
MovesAreInOrder =
    (number from : ℕ) (phases : List Phase)
    → IsCourse Move number (MoveSpread from) phases → due (stage_after Move number (MoveSpread from) phases) ≡ None
    → AreComplete phases × AllByRecursion (IsMoveAttempt from) (given_up (drop 1 phases))
    × (map (λ (phase : Phase). (phase.kind, phase.position)) (last_phases phases)
    ≡ move_phases from (queried_tag (last_phases phases)))

-- the stage to which the replies of a move's phase lead; any other stage stays
abbrev pub after_move : Stage → List Taken → (lacks : Bool) → Stage
after_move (MoveSpread position) replies lacks = MoveQuery position
after_move (MoveQuery position) replies lacks = MoveFetch position (greatest_tag replies)
after_move (MoveFetch position tag) replies lacks = if lacks then MoveQuery position else MovePreWrite position tag
after_move (MovePreWrite position tag) replies lacks = MoveFinalize position tag
after_move (MoveFinalize position tag) replies lacks = MoveFinal position tag
after_move (MoveFinal position tag) replies lacks = Moved position tag
after_move stage replies lacks = stage
