-- The ids of the moves in the records of a log: each was given at another time.
use Rattle.std.proofs.Common.{◌≡◌, ◌<◌, ◌^◌, ◌+◌, inl, inr, ℕ, suc, Bool, true, false, cond, eqb, eqb-true}
use Rattle.std.proofs.Common.{List, [], ◌∷◌, Some, refl, sym, subst, ap, arith}
use Rattle.std.specs.Prelude.{nat_eq}
use Rattle.std.specs.List.{AllByRecursion, IsDistinct}
use Rattle.deeds.specs.CallId.{CallIds, HasRanges, after_given, next_given_id, with_next_epoch}
use Rattle.deeds.specs.Ids.{IsLater}
use Rattle.deeds.proofs.IdLemmas.{later_same, later_then, next_is}
use Rattle.deeds.proofs.UsedIdLemmas.{IsUsed, next_unused, with_ids}
use Rattle.open_calls.proofs.ListLemmas.{all_weaker}
use Rattle.recoveries.specs.LoggedIds.{HaveLoggedIds, IsLaterInEpoch, LoggedIdsDiffer, epochs_in, moves_in}
use Rattle.recoveries.specs.OwnCalls.{WasGiven}
use Rattle.recoveries.specs.Records.{LogRecord}
use Rattle.recoveries.proofs.LoggedIdLemmas.{given_epoch}
use Rattle.recoveries.proofs.LoggedLemmas.{begun_within}

-- The ids of moves

-- the id is given at this time or later
abbrev pub GivenFrom : CallIds → (id : ℕ) → Type 0
GivenFrom before id = (now : CallIds) × IsLater before now × (next_given_id now ≡ Some id)

-- a later time of the same epoch, at which an id is given
pub later_given : (before now : CallIds) (id : ℕ) → HasRanges before → IsLaterInEpoch before now → next_given_id now ≡ Some id →
    IsLater before now
later_given before now id within later next =
    let less = (next_is now id next).0 in
    let epoch = later.epoch in
    let given = later.given in record {
      node = later.node;
      within = (subst (λ e. e < 2 ^ 24) (sym epoch) within.0, omega arith);
      order = inr (sym epoch, given);
    }

pub given_ranges : (now : CallIds) (id : ℕ) → HasRanges now → next_given_id now ≡ Some id → HasRanges (after_given now)
given_ranges now id within next =
    let less = (next_is now id next).0 in
    let after : CallIds = record now { given = suc now.given } in
    let it : HasRanges after = (within.0, omega arith) in subst HasRanges (sym (next_is now id next).2) it

-- the source of ids after it gave one is later
pub after_later : (now : CallIds) (id : ℕ) → HasRanges now → next_given_id now ≡ Some id → IsLater now (after_given now)
after_later now id within next =
    let same = given_epoch now id next in record {
      node = same.node;
      within = given_ranges now id within next;
      order = inr (sym same.epoch, same.given);
    }

pub begun_later : (ids : CallIds) → suc ids.epoch < 2 ^ 24 → IsLater ids (with_next_epoch ids)
begun_later ids more =
    let after : CallIds = record { node = ids.node; epoch = suc ids.epoch; given = 0 } in
    let it : IsLater ids after = record { node = refl; within = (more, omega arith); order = inl (omega arith) } in
    subst (IsLater ids) (sym (begun_within ids more)) it

given_sooner : (before now : CallIds) (ids : List ℕ) → IsLater before now → AllByRecursion (GivenFrom now) ids →
    AllByRecursion (GivenFrom before) ids
given_sooner before now ids later all =
    all_weaker (GivenFrom now) (GivenFrom before) (λ id is. (is.0, later_then before now is.0 later is.1, is.2)) ids all

-- the ids of the moves are given later
pub moves_given : (before after : CallIds) (records : List LogRecord) → HasRanges before → HaveLoggedIds before records after →
    AllByRecursion (GivenFrom before) (moves_in records)
moves_given before after [] within ids = tt
moves_given before after (LogRecord.Starts ∷ records) within ids =
    let later = begun_later before ids.0 in
    given_sooner before (with_next_epoch before) (moves_in records) later
    (moves_given (with_next_epoch before) after records later.within ids.1)
moves_given before after (LogRecord.Moves name id layout ∷ records) within ids =
    let now = ids.0 in
    let later = later_given before now id within ids.1 ids.2 in
    let then = after_later now id later.within ids.2 in (
      (now, later, ids.2),
      given_sooner before (after_given now) (moves_in records) (later_then before now (after_given now) later then)
          (moves_given (after_given now) after records then.within ids.3),
    )
moves_given before after (LogRecord.Serves name letter ∷ records) within ids = moves_given before after records within ids
moves_given before after (LogRecord.Takes name letter ∷ records) within ids = moves_given before after records within ids
moves_given before after (LogRecord.Hears name position layout ∷ records) within ids =
    moves_given before after records within ids
moves_given before after (LogRecord.Closes name position ∷ records) within ids =
    moves_given before after records within ids

-- an id that was given differs from one that is given later
pub given_apart : (ids : CallIds) (id other : ℕ) → HasRanges ids → WasGiven ids id → GivenFrom ids other → nat_eq id other ≡ false
given_apart ids id other within was is = go (eqb id other) refl
  where
    used : IsUsed (with_ids (λ node. ids) ids.node ids) id
    used = record {
      now = was.now;
      within = was.within;
      next = was.next;
      later = pick (eqb was.now.node ids.node);
    }
      where
        pick : (b : Bool) → IsLater (after_given was.now) (cond b ids ids)
        pick true = was.later
        pick false = was.later

    go : (b : Bool) → eqb id other ≡ b → eqb id other ≡ false
    go false e = e
    go true e =
        absurd (next_unused (λ node. ids) ids.node ids (after_given is.0) other id refl
        (record { now = is.0; reached = is.1; next = is.2; left = refl }) used (eqb-true id other e))

all_apart : (ids : CallIds) (id : ℕ) (others : List ℕ) → HasRanges ids → WasGiven ids id → AllByRecursion (GivenFrom ids) others →
    AllByRecursion (λ other. nat_eq id other ≡ false) others
all_apart ids id others within was all =
    all_weaker (GivenFrom ids) (λ other. nat_eq id other ≡ false) (λ other is. given_apart ids id other within was is) others all

-- the id of a move was given just before the next ones
just_given : (now : CallIds) (id : ℕ) → HasRanges now → next_given_id now ≡ Some id → WasGiven (after_given now) id
just_given now id within next = record {
  now = now;
  within = within;
  next = next;
  later = later_same (after_given now) (given_ranges now id within next);
}

-- the source of ids is later, after all records
pub logged_later : (before after : CallIds) (records : List LogRecord) → HasRanges before → HasRanges after →
    HaveLoggedIds before records after → IsLater before after
logged_later before after [] within then ids =
    record { node = ids.node; within = then; order = inr (sym ids.epoch, ids.given) }
logged_later before after (LogRecord.Starts ∷ records) within then ids =
    let later = begun_later before ids.0 in
    later_then before (with_next_epoch before) after later
    (logged_later (with_next_epoch before) after records later.within then ids.1)
logged_later before after (LogRecord.Moves name id layout ∷ records) within then ids =
    let now = ids.0 in
    let later = later_given before now id within ids.1 ids.2 in
    let next = after_later now id later.within ids.2 in
    later_then before now after later
    (later_then now (after_given now) after next (logged_later (after_given now) after records next.within then ids.3))
logged_later before after (LogRecord.Serves name letter ∷ records) within then ids =
    logged_later before after records within then ids
logged_later before after (LogRecord.Takes name letter ∷ records) within then ids =
    logged_later before after records within then ids
logged_later before after (LogRecord.Hears name position layout ∷ records) within then ids =
    logged_later before after records within then ids
logged_later before after (LogRecord.Closes name position ∷ records) within then ids =
    logged_later before after records within then ids

-- and the ids of the moves were given by then
pub moves_were_given : (before after : CallIds) (records : List LogRecord) → HasRanges before → HasRanges after →
    HaveLoggedIds before records after → AllByRecursion (WasGiven after) (moves_in records)
moves_were_given before after [] within then ids = tt
moves_were_given before after (LogRecord.Starts ∷ records) within then ids =
    moves_were_given (with_next_epoch before) after records (begun_later before ids.0).within then ids.1
moves_were_given before after (LogRecord.Moves name id layout ∷ records) within then ids =
    let now = ids.0 in
    let later = later_given before now id within ids.1 ids.2 in
    let next = given_ranges now id later.within ids.2 in (
      record {
        now = now;
        within = later.within;
        next = ids.2;
        later = logged_later (after_given now) after records next then ids.3;
      },
      moves_were_given (after_given now) after records next then ids.3,
    )
moves_were_given before after (LogRecord.Serves name letter ∷ records) within then ids =
    moves_were_given before after records within then ids
moves_were_given before after (LogRecord.Takes name letter ∷ records) within then ids =
    moves_were_given before after records within then ids
moves_were_given before after (LogRecord.Hears name position layout ∷ records) within then ids =
    moves_were_given before after records within then ids
moves_were_given before after (LogRecord.Closes name position ∷ records) within then ids =
    moves_were_given before after records within then ids

-- Lists without doubles

pub distinct_none : IsDistinct nat_eq []
unfolding IsDistinct
distinct_none = tt

pub distinct_more : (id : ℕ) (ids : List ℕ) → AllByRecursion (λ other. nat_eq id other ≡ false) ids → IsDistinct nat_eq ids →
    IsDistinct nat_eq (id ∷ ids)
unfolding IsDistinct
distinct_more id ids apart distinct = (apart, distinct)

distinct_moves : (before after : CallIds) (records : List LogRecord) → HasRanges before → HaveLoggedIds before records after →
    IsDistinct nat_eq (moves_in records)
distinct_moves before after [] within ids = distinct_none
distinct_moves before after (LogRecord.Starts ∷ records) within ids =
    distinct_moves (with_next_epoch before) after records (begun_later before ids.0).within ids.1
distinct_moves before after (LogRecord.Moves name id layout ∷ records) within ids =
    let now = ids.0 in
    let later = later_given before now id within ids.1 ids.2 in
    let then = given_ranges now id later.within ids.2 in
    distinct_more id (moves_in records)
    (all_apart (after_given now) id (moves_in records) then (just_given now id later.within ids.2)
    (moves_given (after_given now) after records then ids.3))
    (distinct_moves (after_given now) after records then ids.3)
distinct_moves before after (LogRecord.Serves name letter ∷ records) within ids = distinct_moves before after records within ids
distinct_moves before after (LogRecord.Takes name letter ∷ records) within ids = distinct_moves before after records within ids
distinct_moves before after (LogRecord.Hears name position layout ∷ records) within ids =
    distinct_moves before after records within ids
distinct_moves before after (LogRecord.Closes name position ∷ records) within ids =
    distinct_moves before after records within ids

epochs_rise : (before after : CallIds) (records : List LogRecord) → HaveLoggedIds before records after →
    after.epoch ≡ before.epoch + epochs_in records
epochs_rise before after [] ids = let e = ids.epoch in omega arith
epochs_rise before after (LogRecord.Starts ∷ records) ids =
    let rest = epochs_rise (with_next_epoch before) after records ids.1 in
    let next = ap (λ (i : CallIds). i.epoch) (begun_within before ids.0) in omega arith
epochs_rise before after (LogRecord.Moves name id layout ∷ records) ids =
    let rest = epochs_rise (after_given ids.0) after records ids.3 in
    let given = (given_epoch ids.0 id ids.2).epoch in
    let same = ids.1.epoch in omega arith
epochs_rise before after (LogRecord.Serves name letter ∷ records) ids = epochs_rise before after records ids
epochs_rise before after (LogRecord.Takes name letter ∷ records) ids = epochs_rise before after records ids
epochs_rise before after (LogRecord.Hears name position layout ∷ records) ids = epochs_rise before after records ids
epochs_rise before after (LogRecord.Closes name position ∷ records) ids = epochs_rise before after records ids

pub logged_differ : LoggedIdsDiffer
logged_differ before after records within ids = (
  distinct_moves before after records within ids,
  λ id was. all_apart before id (moves_in records) within was (moves_given before after records within ids),
  epochs_rise before after records ids,
)
