-- The contracts that docs/trusted.md lists do not depend on this file; other contracts and proofs do.
-- The shape of a whole call. A read or write consists of a reading of the sequence of positions, the queries, a read's
-- fetch, and puts with later readings. A move consists of six phases. Before these come the attempts that were given up
-- because pieces were lacking; each of them ends with a fetch.
use Rattle.std.specs.Prelude.{◌≡◌, ◌≢◌, ◌⊎◌, ℕ, suc, true, false, if◌then◌else◌}
use Rattle.std.specs.Prelude.{List, [], ◌∷◌, ◌++◌}
use Rattle.std.specs.List.{AllByRecursion}
use Rattle.tag.specs.declared.tag.Tag.{Tag}
use Rattle.tag.specs.Tag.{opening_tag, next_tag, later_tag, tag_eq}
use Rattle.bank.specs.declared.status.Status.{Status}
use Rattle.bank.specs.declared.kind.Kind.{Kind}
use Rattle.mail.specs.Phase.{Phase, lacks_pieces}
use Rattle.record.specs.declared.call.CallKind.{CallKind}
use Rattle.bank.specs.declared.status.Status.TheVariants.{Unset, Pending, Final}
use Rattle.bank.specs.declared.kind.Kind.TheVariants.{Next, Spread, Query, PreWrite, Finalize, Fetch}
use Rattle.record.specs.declared.call.CallKind.TheVariants.{Read, Write, Move}
use Rattle.record.specs.PhaseOrder.{greatest_status, greatest_tag}

-- the phase is of this kind, and asks the members of this position
abbrev pub Asks : Phase → Kind → (position : ℕ) → Type 0
Asks phase kind position = (phase.kind ≡ kind) × (phase.position ≡ position)

-- the last position known to be finalized, after this status was found at a position
abbrev pub finalized_after : Status → (position finalized : ℕ) → ℕ
finalized_after Final position finalized = suc position
finalized_after Pending position finalized = finalized
finalized_after Unset position finalized = finalized

-- the phases read the sequence of positions: each pointer found is spread, up to a position `last` that has none
abbrev pub IsReading : (position finalized : ℕ) → List Phase → (last to : ℕ) → Type 0
IsReading position finalized [] last to = ⊥
IsReading position finalized (next ∷ []) last to =
    Asks next Next position × (greatest_status next.replies ≡ Unset) × (last ≡ position) × (to ≡ finalized)
IsReading position finalized (next ∷ spread ∷ later) last to =
    Asks next Next position × (greatest_status next.replies ≢ Unset)
    × Asks spread (Spread (greatest_status next.replies)) position
    × IsReading (suc position) (finalized_after (greatest_status next.replies) position finalized) later last to

-- the phases are queries of the positions from `position` to `last`, in order
abbrev pub AreQueries : (position last : ℕ) → List Phase → Type 0
AreQueries position last [] = position ≡ suc last
AreQueries position last (query ∷ later) = Asks query Query position × AreQueries (suc position) last later

-- the greatest of the given tag and of the tags that the queries show
abbrev pub greatest_shown : Tag → List Phase → Tag
greatest_shown tag [] = tag
greatest_shown tag (query ∷ later) = greatest_shown (later_tag tag (greatest_tag query.replies)) later

-- the tag that a call takes once its queries are complete: a read the greatest tag found, and a write the next one
abbrev pub TakesTag : CallKind → (number : ℕ) → (greatest tag : Tag) → Type 0
TakesTag Read number greatest tag = tag ≡ greatest
TakesTag (Write value) number greatest tag = tag ≡ next_tag greatest number
TakesTag Move number greatest tag = ⊥

-- the position of the last query that shows the tag, where the first is at `position`, or `place` if none does
abbrev pub place_shown : Tag → (position place : ℕ) → List Phase → ℕ
place_shown tag position place [] = place
place_shown tag position place (query ∷ later) =
    place_shown tag (suc position) (if tag_eq (greatest_tag query.replies) tag then position else place) later

-- the phases are an attempt that a read gave up: a reading, the queries, and a fetch that lacks pieces
pub record IsAttempt (phases : List Phase) : Type 0 where
  pub first : List Phase
  pub queries : List Phase
  pub fetch : Phase
  pub split : phases ≡ first ++ (queries ++ fetch ∷ [])
  pub last : ℕ
  pub finalized : ℕ
  pub start : ℕ
  pub reading : IsReading start start first last finalized
  pub asked : AreQueries finalized last queries
  pub tag : Tag
  pub takes : tag ≡ greatest_shown opening_tag queries
  pub fetches : Asks fetch (Fetch tag) (place_shown tag finalized finalized queries)
  pub lacks : lacks_pieces fetch ≡ true

-- the attempts that a call of this kind gave up: a read may have any number of them, and a write has none
abbrev pub AreAttempts : CallKind → List (List Phase) → Type 0
AreAttempts Read attempts = AllByRecursion IsAttempt attempts
AreAttempts (Write value) attempts = attempts ≡ []
AreAttempts Move attempts = ⊥

-- the phases of attempts, one after another
abbrev pub attempt_phases : List (List Phase) → List Phase
attempt_phases [] = []
attempt_phases (attempt ∷ later) = attempt ++ attempt_phases later

-- a read or write with its tag: given-up attempts, a reading, queries from the last finalized position, and the rest
pub record FindsTag (kind : CallKind) (number : ℕ) (phases : List Phase) (tag : Tag) : Type 0 where
  pub attempts : List (List Phase)
  pub first : List Phase
  pub queries : List Phase
  pub rest : List Phase
  pub given_up : AreAttempts kind attempts
  pub split : phases ≡ attempt_phases attempts ++ (first ++ (queries ++ rest))
  pub last : ℕ
  pub finalized : ℕ
  pub start : ℕ
  pub reading : IsReading start start first last finalized
  pub asked : AreQueries finalized last queries
  pub takes : TakesTag kind number (greatest_shown opening_tag queries) tag

-- the phases read the sequence from a position, and end at `last`
abbrev pub IsReadingTo : (position : ℕ) → List Phase → (last : ℕ) → Type 0
IsReadingTo position phases last = (to : ℕ) × IsReading position position phases last to

-- a round: the tag is pre-written and finalized at a position, and the sequence is read from there up to `last`
pub record Round : Type 0 where
  pub pre_write : Phase
  pub finalize : Phase
  pub reading : List Phase
  pub last : ℕ

-- the phases of rounds, one after another
abbrev pub round_phases : List Round → List Phase
round_phases [] = []
round_phases (round ∷ later) = round.pre_write ∷ round.finalize ∷ (round.reading ++ round_phases later)

-- the round puts the tag into this position, and reads the sequence from there
abbrev pub IsRound : Tag → (position : ℕ) → Round → Type 0
IsRound tag position round =
    Asks round.pre_write (PreWrite tag) position × Asks round.finalize (Finalize tag) position
    × IsReadingTo position round.reading round.last

-- the rounds after a reading from one position to another: none if it ended where it began; otherwise the first is at
-- `to`
abbrev pub AreRounds : Tag → (from to : ℕ) → List Round → Type 0
AreRounds tag from to [] = to ≡ from
AreRounds tag from to (round ∷ later) = (to ≢ from) × IsRound tag to round × AreRounds tag to round.last later

-- the phases read the sequence from a position, and make rounds until a reading ends where it began
pub record IsReread (tag : Tag) (position : ℕ) (phases : List Phase) : Type 0 where
  pub reading : List Phase
  pub rounds : List Round
  pub split : phases ≡ reading ++ round_phases rounds
  pub last : ℕ
  pub is_reading : IsReadingTo position reading last
  pub are_rounds : AreRounds tag position last rounds

-- the phases put the tag into a position, and then read the sequence from there, with further rounds
pub record IsPut (tag : Tag) (position : ℕ) (phases : List Phase) : Type 0 where
  pub pre_write : Phase
  pub finalize : Phase
  pub later : List Phase
  pub split : phases ≡ pre_write ∷ finalize ∷ later
  pub pre_writes : Asks pre_write (PreWrite tag) position
  pub finalizes : Asks finalize (Finalize tag) position
  pub again : IsReread tag position later

-- the rest: a read fetches its tag at `place`, lacks no pieces, and puts it at `last` if that differs; a write puts it
abbrev pub IsRest : CallKind → Tag → (place last : ℕ) → List Phase → Type 0
IsRest Read tag place last [] = ⊥
IsRest Read tag place last (fetch ∷ later) =
    Asks fetch (Fetch tag) place × (lacks_pieces fetch ≡ false)
    × (((place ≡ last) × IsReread tag last later) ⊎ ((place ≢ last) × IsPut tag last later))
IsRest (Write value) tag place last phases = IsPut tag last phases
IsRest Move tag place last phases = ⊥

-- the phases are those of a whole read or write, which has this tag
pub record ArePhasesOfCall (kind : CallKind) (number : ℕ) (phases : List Phase) (tag : Tag) : Type 0 where
  pub finds : FindsTag kind number phases tag
  pub rest : IsRest kind tag (place_shown tag finds.finalized finds.finalized finds.queries) finds.last finds.rest

-- the two phases are an attempt that a move gave up: a query, and a fetch that lacks pieces
abbrev pub IsMoveAttempt : (position : ℕ) → Phase × Phase → Type 0
IsMoveAttempt position (query, fetch) =
    Asks query Query position × Asks fetch (Fetch (greatest_tag query.replies)) position × (lacks_pieces fetch ≡ true)

-- the phases of such attempts, one after another
abbrev pub move_attempt_phases : List (Phase × Phase) → List Phase
move_attempt_phases [] = []
move_attempt_phases (attempt ∷ later) = attempt.0 ∷ attempt.1 ∷ move_attempt_phases later

-- a whole move: spread Pending, given-up attempts, query, fetch, pre-write and finalize one position on, spread Final
pub record ArePhasesOfMove (position : ℕ) (phases : List Phase) (tag : Tag) : Type 0 where
  pub spread : Phase
  pub query : Phase
  pub fetch : Phase
  pub pre_write : Phase
  pub finalize : Phase
  pub final : Phase
  pub attempts : List (Phase × Phase)
  pub split : phases
      ≡ spread ∷ (move_attempt_phases attempts ++ query ∷ fetch ∷ pre_write ∷ finalize ∷ final ∷ [])
  pub given_up : AllByRecursion (IsMoveAttempt position) attempts
  pub spreads : Asks spread (Spread Pending) position
  pub queries : Asks query Query position
  pub takes : tag ≡ greatest_tag query.replies
  pub fetches : Asks fetch (Fetch tag) position
  pub has_pieces : lacks_pieces fetch ≡ false
  pub pre_writes : Asks pre_write (PreWrite tag) (suc position)
  pub finalizes : Asks finalize (Finalize tag) (suc position)
  pub ends : Asks final (Spread Final) position

-- the phases are those of a whole call with this tag; a move leads from the position `from`
abbrev pub IsSentence : CallKind → (number from : ℕ) → List Phase → Tag → Type 0
IsSentence Read number from phases tag = ArePhasesOfCall Read number phases tag
IsSentence (Write value) number from phases tag = ArePhasesOfCall (Write value) number phases tag
IsSentence Move number from phases tag = ArePhasesOfMove from phases tag
