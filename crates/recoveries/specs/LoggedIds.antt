-- The ids of calls, as the records of a log tell of them.
use Rattle.std.specs.Prelude.{◌≡◌, ◌<◌, ◌≤◌, ◌^◌, ◌+◌, ℕ, zero, suc, nat_eq, false, List, [], ◌∷◌, Some}
use Rattle.std.specs.List.{AllByRecursion, IsDistinct}
use Rattle.deeds.specs.CallId.{CallIds, HasRanges, after_given, next_given_id, with_next_epoch}
use Rattle.recoveries.specs.OwnCalls.{WasGiven}
use Rattle.recoveries.specs.Records.{LogRecord}

-- the source of ids of the same node in the same epoch, in which it has given as many ids or more
pub record IsLaterInEpoch (before after : CallIds) : Type 0 where
  pub node : after.node ≡ before.node
  pub epoch : after.epoch ≡ before.epoch
  pub given : before.given ≤ after.given

-- Between these two times a node gave ids as these records say. An epoch began at each record that says so, and at no
-- other time. The id of a move was given in the epoch whose record stands before that of the move, and after the ids of
-- all moves before it.
abbrev pub HaveLoggedIds : (before : CallIds) → List LogRecord → (after : CallIds) → Type 0
HaveLoggedIds before [] after = IsLaterInEpoch before after
HaveLoggedIds before (LogRecord.Starts ∷ records) after =
    (suc before.epoch < 2 ^ 24) × HaveLoggedIds (with_next_epoch before) records after
HaveLoggedIds before (LogRecord.Moves name id layout ∷ records) after =
    (now : CallIds) × IsLaterInEpoch before now × (next_given_id now ≡ Some id)
    × HaveLoggedIds (after_given now) records after
HaveLoggedIds before (one ∷ records) after = HaveLoggedIds before records after

-- how many of these records say that an epoch began
abbrev pub epochs_in : List LogRecord → ℕ
epochs_in [] = zero
epochs_in (LogRecord.Starts ∷ records) = suc (epochs_in records)
epochs_in (one ∷ records) = epochs_in records

-- the ids of the moves that these records say began
abbrev pub moves_in : List LogRecord → List ℕ
moves_in [] = []
moves_in (LogRecord.Moves name id layout ∷ records) = id ∷ moves_in records
moves_in (one ∷ records) = moves_in records

-- The law

-- If a node gave ids between two times as these records say, no two moves of the records have the same id, and none
-- has an id that the node had given before. The epoch is later by the number of epochs that began.
abbrev pub LoggedIdsDiffer : Type 0
LoggedIdsDiffer = (before after : CallIds) (records : List LogRecord) → HasRanges before →
    HaveLoggedIds before records after → IsDistinct nat_eq (moves_in records)
    × ((id : ℕ) → WasGiven before id → AllByRecursion (λ other. nat_eq id other ≡ false) (moves_in records))
    × (after.epoch ≡ before.epoch + epochs_in records)
