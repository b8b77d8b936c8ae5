-- Ids that a node gives, and the records that tell of them.
use Rattle.std.proofs.Common.{◌≡◌, ◌<◌, ◌^◌, ℕ, suc, List, [], ◌∷◌, ◌++◌, Some, refl, sym, subst, ap, ◌∙◌, arith}
use Rattle.std.specs.List.{AllByRecursion}
use Rattle.layout.specs.Layout.{Layout}
use Rattle.deeds.specs.CallId.{CallIds, after_given, next_given_id, with_next_epoch}
use Rattle.deeds.proofs.IdLemmas.{next_is}
use Rattle.recoveries.specs.LoggedIds.{HaveLoggedIds, IsLaterInEpoch, epochs_in, moves_in}
use Rattle.recoveries.specs.Records.{LogRecord}
use Rattle.recoveries.proofs.LoggedLemmas.{begun_within}

-- Times of one epoch

pub same_epoch : (before after : CallIds) → after ≡ before → IsLaterInEpoch before after
same_epoch before after same =
    subst (IsLaterInEpoch before) (sym same) (record { node = refl; epoch = refl; given = omega arith })

pub sooner_epoch : (a b c : CallIds) → IsLaterInEpoch a b → IsLaterInEpoch b c → IsLaterInEpoch a c
sooner_epoch a b c first second =
    let x = first.given in
    let y = second.given in
    record { node = second.node ∙ first.node; epoch = second.epoch ∙ first.epoch; given = omega arith }

-- the next epoch is the same for each time of one epoch
same_begun : (a b : CallIds) → IsLaterInEpoch a b → suc b.epoch < 2 ^ 24 → with_next_epoch b ≡ with_next_epoch a
same_begun a b later more =
    let e = later.epoch in
    begun_within b more
    ∙ ap (λ n. record { node = n; epoch = suc b.epoch; given = 0 }) later.node
    ∙ ap (λ k. record { node = a.node; epoch = suc k; given = 0 }) e
    ∙ sym (begun_within a (omega arith))

-- Records, one after another

sooner_logged : (a b c : CallIds) (records : List LogRecord) → IsLaterInEpoch a b → HaveLoggedIds b records c →
    HaveLoggedIds a records c
sooner_logged a b c [] later ids = sooner_epoch a b c later ids
sooner_logged a b c (LogRecord.Starts ∷ records) later ids =
    let e = later.epoch in
    let more = ids.0 in
    (omega arith, subst (λ i. HaveLoggedIds i records c) (same_begun a b later more) ids.1)
sooner_logged a b c (LogRecord.Moves name id layout ∷ records) later ids =
    (ids.0, sooner_epoch a b ids.0 later ids.1, ids.2, ids.3)
sooner_logged a b c (LogRecord.Serves name letter ∷ records) later ids = sooner_logged a b c records later ids
sooner_logged a b c (LogRecord.Takes name letter ∷ records) later ids = sooner_logged a b c records later ids
sooner_logged a b c (LogRecord.Hears name position layout ∷ records) later ids = sooner_logged a b c records later ids
sooner_logged a b c (LogRecord.Closes name position ∷ records) later ids = sooner_logged a b c records later ids

pub logged_then : (a b c : CallIds) (first second : List LogRecord) → HaveLoggedIds a first b → HaveLoggedIds b second c →
    HaveLoggedIds a (first ++ second) c
logged_then a b c [] second x y = sooner_logged a b c second x y
logged_then a b c (LogRecord.Starts ∷ first) second x y = (x.0, logged_then (with_next_epoch a) b c first second x.1 y)
logged_then a b c (LogRecord.Moves name id layout ∷ first) second x y =
    (x.0, x.1, x.2, logged_then (after_given x.0) b c first second x.3 y)
logged_then a b c (LogRecord.Serves name letter ∷ first) second x y = logged_then a b c first second x y
logged_then a b c (LogRecord.Takes name letter ∷ first) second x y = logged_then a b c first second x y
logged_then a b c (LogRecord.Hears name position layout ∷ first) second x y = logged_then a b c first second x y
logged_then a b c (LogRecord.Closes name position ∷ first) second x y = logged_then a b c first second x y

-- What a node does that gives one id or none

-- the record tells of no id: it says neither that an epoch began, nor that a move did
abbrev pub TellsNoId : LogRecord → Type 0
TellsNoId one = (epochs_in (one ∷ []) ≡ 0) × (moves_in (one ∷ []) ≡ [])

-- no id is given
pub none_logged : (before after : CallIds) (records : List LogRecord) → AllByRecursion TellsNoId records → after ≡ before →
    HaveLoggedIds before records after
none_logged before after [] none same = same_epoch before after same
none_logged before after (LogRecord.Starts ∷ records) none same = absurd (let e = none.0.0 in cc)
none_logged before after (LogRecord.Moves name id layout ∷ records) none same = absurd (let e = none.0.1 in cc)
none_logged before after (LogRecord.Serves name letter ∷ records) none same = none_logged before after records none.1 same
none_logged before after (LogRecord.Takes name letter ∷ records) none same = none_logged before after records none.1 same
none_logged before after (LogRecord.Closes name position ∷ records) none same = none_logged before after records none.1 same
none_logged before after (LogRecord.Hears name position layout ∷ records) none same =
    none_logged before after records none.1 same

-- an epoch begins
pub epoch_logged : (before after : CallIds) → suc before.epoch < 2 ^ 24 → after ≡ with_next_epoch before →
    HaveLoggedIds before (LogRecord.Starts ∷ []) after
epoch_logged before after more begun = (more, same_epoch (with_next_epoch before) after begun)

-- if the next id is this one and is given, these records tell of it
abbrev pub TellOfId : (id : ℕ) → List LogRecord → Type 0
TellOfId id records = (ids : CallIds) → next_given_id ids ≡ Some id → HaveLoggedIds ids records (after_given ids)

pub given_epoch : (ids : CallIds) (id : ℕ) → next_given_id ids ≡ Some id → IsLaterInEpoch ids (after_given ids)
given_epoch ids id next =
    subst (IsLaterInEpoch ids) (sym (next_is ids id next).2)
    (let after : CallIds = record ids { given = suc ids.given } in
    let it : IsLaterInEpoch ids after = record { node = refl; epoch = refl; given = omega arith } in it)

-- the id of a call that is no move
pub call_logged : (id : ℕ) → TellOfId id []
call_logged id ids next = given_epoch ids id next

-- the id of a move
pub move_logged : (name : List ℕ) (id : ℕ) (layout : Layout) → TellOfId id (LogRecord.Moves name id layout ∷ [])
move_logged name id layout ids next = (ids, same_epoch ids ids refl, next, same_epoch (after_given ids) (after_given ids) refl)
