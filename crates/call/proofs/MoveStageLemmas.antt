-- The stages of a move.
use Rattle.std.proofs.Common.{◌≡◌, ℕ, suc, Bool, true, false, if◌then◌else◌, List, [], ◌∷◌, ◌++◌, length, drop}
use Rattle.std.proofs.Common.{Option, Some, None, refl, sym, subst, ap, ◌∙◌, arith}
use Rattle.std.specs.Prelude.{map, slice_get, IsSome, is_some}
use Rattle.std.proofs.lemmas.Grind.{common_steps}
use Rattle.std.specs.List.{AllByRecursion}
use Rattle.tag.specs.declared.tag.Tag.{Tag}
use Rattle.tag.specs.Tag.{opening_tag}
use Rattle.bank.specs.declared.kind.Kind.{Kind}
use Rattle.mail.specs.Phase.{Phase, lacks_pieces}
use Rattle.mail.specs.declared.phase.Taken.{Taken}
use Rattle.record.specs.declared.call.CallKind.TheVariants.{Move}
use Rattle.record.specs.declared.stage.Stage.{Stage}
use Rattle.record.specs.declared.stage.Stage.TheVariants.{MoveSpread, MoveQuery, MoveFetch, MovePreWrite, MoveFinalize, MoveFinal}
use Rattle.record.specs.declared.stage.Stage.TheVariants.{Ended, Moved}
use Rattle.record.specs.PhaseOrder.{begun_at, due, after, passed, stage_past, stage_after, greatest_tag, IsCourse}
use Rattle.record.proofs.BegunStageLemmas.{begun_other}
use Rattle.record.specs.Journals.{stage_tag}
use Rattle.record.specs.Grammar.{IsMoveAttempt, move_attempt_phases, ArePhasesOfMove}
use Rattle.record.specs.Shape.{FinishedAreWhole}
use Rattle.call.specs.Laws.{AreComplete}
use Rattle.call.specs.Moves.{move_phases, queried_tag, last_attempt, last_phases, given_up, MovesAreInOrder}

-- the stage is one of a move from this position
abbrev pub IsMoveFrom : (from : ℕ) → Stage → Type 0
IsMoveFrom from (MoveSpread position) = position ≡ from
IsMoveFrom from (MoveQuery position) = position ≡ from
IsMoveFrom from (MoveFetch position tag) = position ≡ from
IsMoveFrom from (MovePreWrite position tag) = position ≡ from
IsMoveFrom from (MoveFinalize position tag) = position ≡ from
IsMoveFrom from (MoveFinal position tag) = position ≡ from
IsMoveFrom from (Moved position tag) = position ≡ from
IsMoveFrom from _ = ⊥

-- a complete phase leads on

passed-ended : (stage : Stage) (end : Option ℕ) (replies : List Taken) (lacks : Bool) → IsSome end
    → passed Move 0 stage end replies lacks ≡ after Move 0 stage replies lacks
passed-ended stage None replies lacks some = absurd (cc)
passed-ended stage (Some end) replies lacks some = refl

-- a move's stages stay where a phase begins
pub move_begun : (from : ℕ) (stage : Stage) (position : ℕ) → IsMoveFrom from stage → begun_at stage position ≡ stage
move_begun from stage position moves = begun_other stage position (λ same. subst (IsMoveFrom from) same moves)

-- where a move's phase leads, it is still the move, whatever its number
move_after : (from : ℕ) (stage : Stage) (replies : List Taken) (lacks : Bool) → IsMoveFrom from stage
    → IsMoveFrom from (after Move 0 stage replies lacks)
    × ((number : ℕ) → after Move number stage replies lacks ≡ after Move 0 stage replies lacks)
move_after from (MoveSpread position) replies lacks moves = (moves, λ number. refl)
move_after from (MoveQuery position) replies lacks moves = (moves, λ number. refl)
move_after from (MoveFetch position tag) replies true moves = (moves, λ number. refl)
move_after from (MoveFetch position tag) replies false moves = (moves, λ number. refl)
move_after from (MovePreWrite position tag) replies lacks moves = (moves, λ number. refl)
move_after from (MoveFinalize position tag) replies lacks moves = (moves, λ number. refl)
move_after from (MoveFinal position tag) replies lacks moves = (moves, λ number. refl)
move_after from (Moved position tag) replies lacks moves = (moves, λ number. refl)
move_after from stage replies lacks moves = absurd moves

move_passed : (from : ℕ) (stage : Stage) (end : Option ℕ) (replies : List Taken) (lacks : Bool) → IsMoveFrom from stage
    → IsMoveFrom from (passed Move 0 stage end replies lacks)
    × ((number : ℕ) → passed Move number stage end replies lacks ≡ passed Move 0 stage end replies lacks)
move_passed from stage None replies lacks moves = (moves, λ number. refl)
move_passed from stage (Some end) replies lacks moves = move_after from stage replies lacks moves

pub move_past : (from : ℕ) (stage : Stage) (phase : Phase) → IsMoveFrom from stage
    → IsMoveFrom from (stage_past Move 0 stage phase)
    × ((number : ℕ) → stage_past Move number stage phase ≡ stage_past Move 0 stage phase)
move_past from stage phase moves =
    subst (λ s. IsMoveFrom from (passed Move 0 s phase.end phase.replies (lacks_pieces phase))
    × ((number : ℕ) → passed Move number s phase.end phase.replies (lacks_pieces phase)
    ≡ passed Move 0 s phase.end phase.replies (lacks_pieces phase)))
    (sym (move_begun from stage phase.position moves))
    (move_passed from stage phase.end phase.replies (lacks_pieces phase) moves)

led : (stage : Stage) (phase : Phase) (phases : List Phase) → IsSome phase.end
    → stage_after Move 0 stage (phase ∷ phases)
    ≡ stage_after Move 0 (after Move 0 (begun_at stage phase.position) phase.replies (lacks_pieces phase)) phases
led stage phase phases some =
    ap (λ next. stage_after Move 0 next phases)
    (passed-ended (begun_at stage phase.position) phase.end phase.replies (lacks_pieces phase) some)

-- nothing follows the last phase
nothing_due : (from : ℕ) (tag : Tag) (phases : List Phase) → AreComplete phases → due (stage_after Move 0 (Moved from tag) phases) ≡ None
nothing_due from tag [] complete = refl
nothing_due from tag (phase ∷ phases) complete = ap due (led (Moved from tag) phase phases complete.0)
    ∙ nothing_due from tag phases complete.1

-- from each stage on, with how many phases were made before it

telling : (from : ℕ) (tag : Tag) (later : List Phase) → AreComplete later
    → due (stage_after Move 0 (MoveFinal from tag) later) ≡ slice_get (move_phases from tag) (suc (suc (suc (suc (suc (length later))))))
telling from tag [] complete = refl
telling from tag (final ∷ later) complete = ap due (led (MoveFinal from tag) final later complete.0) ∙ nothing_due from tag later complete.1

finalizing : (from : ℕ) (tag : Tag) (later : List Phase) → AreComplete later
    → due (stage_after Move 0 (MoveFinalize from tag) later) ≡ slice_get (move_phases from tag) (suc (suc (suc (suc (length later)))))
finalizing from tag [] complete = refl
finalizing from tag (finalize ∷ later) complete = ap due (led (MoveFinalize from tag) finalize later complete.0)
    ∙ telling from tag later complete.1

putting : (from : ℕ) (tag : Tag) (later : List Phase) → AreComplete later
    → due (stage_after Move 0 (MovePreWrite from tag) later) ≡ slice_get (move_phases from tag) (suc (suc (suc (length later))))
putting from tag [] complete = refl
putting from tag (put ∷ later) complete = ap due (led (MovePreWrite from tag) put later complete.0) ∙ finalizing from tag later complete.1

-- the phase of six that follows the spread and these
abbrev slot : (from : ℕ) → List Phase → Option (Kind × ℕ)
slot from [] = slice_get (move_phases from opening_tag) 1
slot from (query ∷ later) = slice_get (move_phases from (greatest_tag query.replies)) (suc (suc (length later)))

fetched : (from : ℕ) (query fetch : Phase) (later : List Phase) (b : Bool) → AreComplete later → lacks_pieces fetch ≡ b
    → due (stage_after Move 0 (MoveQuery from) later) ≡ slot from (last_attempt later)
    → due (stage_after Move 0 (after Move 0 (MoveFetch from (greatest_tag query.replies)) fetch.replies b) later)
    ≡ slot from (if b then last_attempt later else query ∷ fetch ∷ later)
fetched from query fetch later true complete lacks again = again
fetched from query fetch later false complete lacks again = putting from (greatest_tag query.replies) later complete

querying : (from : ℕ) (later : List Phase) → AreComplete later
    → due (stage_after Move 0 (MoveQuery from) later) ≡ slot from (last_attempt later)
querying from [] complete = refl
querying from (query ∷ []) complete = ap due (led (MoveQuery from) query [] complete.0)
querying from (query ∷ fetch ∷ later) complete =
    let tag = greatest_tag query.replies in
    ap due (led (MoveQuery from) query (fetch ∷ later) complete.0) ∙ ap due (led (MoveFetch from tag) fetch later complete.1.0)
    ∙ fetched from query fetch later (lacks_pieces fetch) complete.1.1 refl (querying from later complete.1.1)

slot_is : (from : ℕ) (spread : Phase) (attempt : List Phase)
    → slot from attempt ≡ slice_get (move_phases from (queried_tag (spread ∷ attempt))) (suc (length attempt))
slot_is from spread [] = refl
slot_is from spread (query ∷ later) = refl

-- the phases that are made say which is next
pub due-moves : (from : ℕ) (done : List Phase) → AreComplete done
    → due (stage_after Move 0 (MoveSpread from) done)
    ≡ slice_get (move_phases from (queried_tag (last_phases done))) (length (last_phases done))
due-moves from [] complete = refl
due-moves from (spread ∷ later) complete =
    ap due (led (MoveSpread from) spread later complete.0) ∙ querying from later complete.1 ∙ slot_is from spread (last_attempt later)

-- a course that has nothing due is complete
complete_course : (number : ℕ) (stage : Stage) (phases : List Phase) → IsCourse Move number stage phases
    → due (stage_after Move number stage phases) ≡ None → AreComplete phases
complete_course number stage [] course none = tt
complete_course number stage (phase ∷ []) course none = (some phase.end refl, tt)
  where
    some : (end : Option ℕ) → phase.end ≡ end → IsSome end
    some None e = absurd (cc (course.0, none, e))
    some (Some end) e = refl
complete_course number stage (phase ∷ next ∷ later) course none = (
  ap is_some course.1.1,
  complete_course number (stage_past Move number stage phase) (next ∷ later) course.2 none,
)

-- attempts that were given up are told from the last one

after_attempts : (attempts : List (Phase × Phase)) (from : ℕ) (query fetch : Phase) (later : List Phase)
    → AllByRecursion (IsMoveAttempt from) attempts → lacks_pieces fetch ≡ false
    → (given_up (move_attempt_phases attempts ++ query ∷ fetch ∷ later) ≡ attempts)
    × (last_attempt (move_attempt_phases attempts ++ query ∷ fetch ∷ later) ≡ query ∷ fetch ∷ later)
after_attempts [] from query fetch later all enough = (rw enough refl, rw enough refl)
after_attempts ((asked, fetched) ∷ attempts) from query fetch later all enough =
    let more = after_attempts attempts from query fetch later all.1 enough in
    let lacks : lacks_pieces fetched ≡ true = all.0.2 in
    (rw lacks (ap (λ xs. (asked, fetched) ∷ xs) more.0), rw lacks more.1)

-- the last six are in their order
module _ (number from : ℕ) (phases : List Phase) (tag : Tag) (whole : ArePhasesOfMove from phases tag) where
  split_parts : (given_up (drop 1 phases) ≡ whole.attempts)
      × (last_phases phases ≡ whole.spread ∷ whole.query ∷ whole.fetch ∷ whole.pre_write ∷ whole.finalize ∷ whole.final ∷ [])
  split_parts =
      let parts = after_attempts whole.attempts from whole.query whole.fetch (whole.pre_write ∷ whole.finalize ∷ whole.final ∷ [])
      whole.given_up whole.has_pieces in
      (ap (λ xs. given_up (drop 1 xs)) whole.split ∙ parts.0, ap last_phases whole.split ∙ ap (λ xs. whole.spread ∷ xs) parts.1)

  ordered_parts : AllByRecursion (IsMoveAttempt from) (given_up (drop 1 phases))
      × (map (λ (phase : Phase). (phase.kind, phase.position)) (last_phases phases) ≡ move_phases from (queried_tag (last_phases phases)))
  ordered_parts = (
    subst (AllByRecursion (IsMoveAttempt from)) (sym split_parts.0) whole.given_up,
    subst (λ xs. map (λ (phase : Phase). (phase.kind, phase.position)) xs ≡ move_phases from (queried_tag xs)) (sym split_parts.1) six,
  )
    where
      six : map (λ (phase : Phase). (phase.kind, phase.position))
          (whole.spread ∷ whole.query ∷ whole.fetch ∷ whole.pre_write ∷ whole.finalize ∷ whole.final ∷ [])
          ≡ move_phases from (greatest_tag whole.query.replies)
      six = let a = whole.spreads in
          let b = whole.queries in
          let c = whole.fetches in
          let d = whole.pre_writes in
          let e = whole.finalizes in
          let f = whole.ends in
          let t = whole.takes in grind (arith, common_steps)

has_tag : (stage : Stage) → due stage ≡ None → (tag : Tag) × (stage_tag stage ≡ Some tag)
has_tag (Ended last tag) none = (tag, refl)
has_tag (Moved position tag) none = (tag, refl)
has_tag stage none = absurd (cc)

pub moves_are_in_order : FinishedAreWhole → MovesAreInOrder
moves_are_in_order whole number from phases course none =
    let tagged = has_tag (stage_after Move number (MoveSpread from) phases) none in
    let shape = (whole Move number from phases tagged.0).0 (record { course = course; none_due = none; tagged = tagged.1 }) in
    let parts = ordered_parts number from phases tagged.0 shape.1 in
    (complete_course number (MoveSpread from) phases course none, parts.0, parts.1)
