-- The ids of moves in the records of a log, and the epochs before them.
use Rattle.std.proofs.Common.{◌≡◌, ◌<◌, ◌≤◌, ◌+◌, inl, ℕ, suc, List, [], ◌∷◌, ◌++◌, Some, false}
use Rattle.std.proofs.Common.{refl, sym, subst, ap, ◌∙◌, arith}
use Rattle.std.specs.Prelude.{nat_eq}
use Rattle.std.specs.List.{AllByRecursion, IsDistinct}
use Rattle.std.proofs.lemmas.Map.Keys.{IsDistinct-head, IsDistinct-tail}
use Rattle.deeds.specs.CallId.{CallIds, HasRanges, after_given, next_given_id, with_next_epoch}
use Rattle.deeds.specs.Ids.{IsLater}
use Rattle.deeds.specs.Kept.{KeptNode}
use Rattle.deeds.proofs.IdLemmas.{later_then}
use Rattle.open_calls.proofs.ListLemmas.{all_append, all_weaker}
use Rattle.recoveries.specs.LoggedIds.{HaveLoggedIds, IsLaterInEpoch, epochs_in, moves_in}
use Rattle.recoveries.specs.OwnCalls.{WasGiven}
use Rattle.recoveries.specs.Records.{LogRecord, Recovers, RecoversOne}
use Rattle.recoveries.proofs.LoggedIdLemmas.{given_epoch}
use Rattle.recoveries.proofs.LoggedMoveLemmas.{after_later, begun_later, distinct_more, distinct_none, later_given}
use Rattle.recoveries.proofs.LoggedLemmas.{begun_within, started_epoch}

-- Lists without doubles

-- no id of these is this one
abbrev pub IsApart : List ℕ → (id : ℕ) → Type 0
IsApart ids id = AllByRecursion (λ other. nat_eq id other ≡ false) ids

first_apart : (xs ys : List ℕ) (id : ℕ) → IsApart (xs ++ ys) id → IsApart xs id
first_apart [] ys id apart = tt
first_apart (x ∷ xs) ys id apart = (apart.0, first_apart xs ys id apart.1)

pub first_distinct : (xs ys : List ℕ) → IsDistinct nat_eq (xs ++ ys) → IsDistinct nat_eq xs
first_distinct [] ys distinct = distinct_none
first_distinct (x ∷ xs) ys distinct =
    distinct_more x xs (first_apart xs ys x (IsDistinct-head nat_eq x (xs ++ ys) distinct))
    (first_distinct xs ys (IsDistinct-tail nat_eq x (xs ++ ys) distinct))

pub both_distinct : (xs ys : List ℕ) → IsDistinct nat_eq xs → IsDistinct nat_eq ys → AllByRecursion (IsApart ys) xs →
    IsDistinct nat_eq (xs ++ ys)
both_distinct [] ys first second apart = second
both_distinct (x ∷ xs) ys first second apart =
    distinct_more x (xs ++ ys)
    (all_append (λ other. nat_eq x other ≡ false) xs ys (IsDistinct-head nat_eq x xs first) apart.0)
    (both_distinct xs ys (IsDistinct-tail nat_eq x xs first) second apart.1)

-- The epochs before a move

-- the node of this number gave the id in one of its first epochs, up to this one
abbrev pub IsGivenBy : (number epoch id : ℕ) → Type 0
IsGivenBy number epoch id =
    (now : CallIds) × HasRanges now × (now.node ≡ number) × (now.epoch ≤ epoch) × (next_given_id now ≡ Some id)

-- the id of each move was given in an epoch whose record stands before that of the move, if so many epochs began before
abbrev pub AreBehindEpochs : (number epoch : ℕ) → List LogRecord → Type 0
AreBehindEpochs number epoch [] = Unit {0}
AreBehindEpochs number epoch (LogRecord.Starts ∷ records) = AreBehindEpochs number (suc epoch) records
AreBehindEpochs number epoch (LogRecord.Moves name id layout ∷ records) =
    IsGivenBy number epoch id × AreBehindEpochs number epoch records
AreBehindEpochs number epoch (one ∷ records) = AreBehindEpochs number epoch records

pub first_behind : (number epoch : ℕ) (xs ys : List LogRecord) → AreBehindEpochs number epoch (xs ++ ys) →
    AreBehindEpochs number epoch xs
first_behind number epoch [] ys behind = tt
first_behind number epoch (LogRecord.Starts ∷ xs) ys behind = first_behind number (suc epoch) xs ys behind
first_behind number epoch (LogRecord.Moves name id layout ∷ xs) ys behind =
    (behind.0, first_behind number epoch xs ys behind.1)
first_behind number epoch (LogRecord.Serves name letter ∷ xs) ys behind = first_behind number epoch xs ys behind
first_behind number epoch (LogRecord.Takes name letter ∷ xs) ys behind = first_behind number epoch xs ys behind
first_behind number epoch (LogRecord.Hears name position layout ∷ xs) ys behind = first_behind number epoch xs ys behind
first_behind number epoch (LogRecord.Closes name position ∷ xs) ys behind = first_behind number epoch xs ys behind

pub both_behind : (number epoch : ℕ) (xs ys : List LogRecord) → AreBehindEpochs number epoch xs →
    AreBehindEpochs number (epoch + epochs_in xs) ys → AreBehindEpochs number epoch (xs ++ ys)
both_behind number epoch [] ys first second = subst (λ e. AreBehindEpochs number e ys) (omega arith) second
both_behind number epoch (LogRecord.Starts ∷ xs) ys first second =
    both_behind number (suc epoch) xs ys first
    (subst (λ e. AreBehindEpochs number e ys) (later epoch (epochs_in xs)) second)
  where
    later : (e n : ℕ) → e + suc n ≡ suc e + n
    later e n = omega arith
both_behind number epoch (LogRecord.Moves name id layout ∷ xs) ys first second =
    (first.0, both_behind number epoch xs ys first.1 second)
both_behind number epoch (LogRecord.Serves name letter ∷ xs) ys first second = both_behind number epoch xs ys first second
both_behind number epoch (LogRecord.Takes name letter ∷ xs) ys first second = both_behind number epoch xs ys first second
both_behind number epoch (LogRecord.Hears name position layout ∷ xs) ys first second =
    both_behind number epoch xs ys first second
both_behind number epoch (LogRecord.Closes name position ∷ xs) ys first second = both_behind number epoch xs ys first second

-- records that say that no move began
pub none_behind : (number epoch : ℕ) (records : List LogRecord) → moves_in records ≡ [] → AreBehindEpochs number epoch records
none_behind number epoch [] none = tt
none_behind number epoch (LogRecord.Starts ∷ records) none = none_behind number (suc epoch) records none
none_behind number epoch (LogRecord.Moves name id layout ∷ records) none = absurd (cc)
none_behind number epoch (LogRecord.Serves name letter ∷ records) none = none_behind number epoch records none
none_behind number epoch (LogRecord.Takes name letter ∷ records) none = none_behind number epoch records none
none_behind number epoch (LogRecord.Hears name position layout ∷ records) none = none_behind number epoch records none
none_behind number epoch (LogRecord.Closes name position ∷ records) none = none_behind number epoch records none

-- the records of a node that runs
pub logged_behind : (number : ℕ) (before after : CallIds) (records : List LogRecord) → before.node ≡ number → HasRanges before →
    HaveLoggedIds before records after → AreBehindEpochs number before.epoch records
logged_behind number before after [] own within ids = tt
logged_behind number before after (LogRecord.Starts ∷ records) own within ids =
    let later = begun_later before ids.0 in
    subst (λ e. AreBehindEpochs number e records) (ap (λ (i : CallIds). i.epoch) (begun_within before ids.0))
    (logged_behind number (with_next_epoch before) after records (later.node ∙ own) later.within ids.1)
logged_behind number before after (LogRecord.Moves name id layout ∷ records) own within ids =
    let now = ids.0 in
    let later = later_given before now id within ids.1 ids.2 in
    let then = after_later now id later.within ids.2 in
    let epoch = ids.1.epoch in (
      (now, later.within, later.node ∙ own, omega arith, ids.2),
      subst (λ e. AreBehindEpochs number e records) ((given_epoch now id ids.2).epoch ∙ epoch)
          (logged_behind number (after_given now) after records (then.node ∙ later.node ∙ own) then.within ids.3),
    )
logged_behind number before after (LogRecord.Serves name letter ∷ records) own within ids =
    logged_behind number before after records own within ids
logged_behind number before after (LogRecord.Takes name letter ∷ records) own within ids =
    logged_behind number before after records own within ids
logged_behind number before after (LogRecord.Hears name position layout ∷ records) own within ids =
    logged_behind number before after records own within ids
logged_behind number before after (LogRecord.Closes name position ∷ records) own within ids =
    logged_behind number before after records own within ids

-- The ids that a node gave

-- the moves that these records say began have ids that were given before this time
abbrev pub AreGiven : CallIds → List LogRecord → Type 0
AreGiven ids records = AllByRecursion (WasGiven ids) (moves_in records)

pub given_since : (before after : CallIds) (ids : List ℕ) → IsLater before after → AllByRecursion (WasGiven before) ids →
    AllByRecursion (WasGiven after) ids
given_since before after ids later all =
    all_weaker (WasGiven before) (WasGiven after)
    (λ id was. (record {
      now = was.now;
      within = was.within;
      next = was.next;
      later = later_then (after_given was.now) before after was.later later;
    })) ids all

-- in an epoch that began behind all records of a log, the ids of its moves were given before
pub started_given : (number epoch : ℕ) (ids : CallIds) (records : List LogRecord) → ids.node ≡ number → HasRanges ids →
    epoch + epochs_in records < ids.epoch → AreBehindEpochs number epoch records → AreGiven ids records
started_given number epoch ids [] own within more behind = tt
started_given number epoch ids (LogRecord.Starts ∷ records) own within more behind =
    started_given number (suc epoch) ids records own within (omega arith) behind
started_given number epoch ids (LogRecord.Moves name id layout ∷ records) own within more behind =
    let it = behind.0 in
    let now = it.0 in
    let few = it.3 in
    let same = given_epoch now id it.4 in
    let after : (after_given now).epoch ≡ now.epoch = same.epoch in
    let later : IsLater (after_given now) ids = record {
      node = own ∙ sym it.2 ∙ sym same.node;
      within = within;
      order = inl (omega arith);
    } in (
      record { now = now; within = it.1; next = it.4; later = later },
      started_given number epoch ids records own within more behind.1,
    )
started_given number epoch ids (LogRecord.Serves name letter ∷ records) own within more behind =
    started_given number epoch ids records own within more behind
started_given number epoch ids (LogRecord.Takes name letter ∷ records) own within more behind =
    started_given number epoch ids records own within more behind
started_given number epoch ids (LogRecord.Hears name position layout ∷ records) own within more behind =
    started_given number epoch ids records own within more behind
started_given number epoch ids (LogRecord.Closes name position ∷ records) own within more behind =
    started_given number epoch ids records own within more behind
