-- Notices with rising times.
use Rattle.std.proofs.Common.{◌≡◌, ◌<◌, ◌≤◌, ℕ, List, [], ◌∷◌, ◌++◌, refl, arith}
use Rattle.record.specs.declared.call.Entry.{Entry}
use Rattle.refinement.specs.Histories.{HaveRisingTimes, TimedNotice, after_notice, after_notices}

-- the times rise from the first of these on, and are at most the second
abbrev pub IsRisingTo : (low : ℕ) → List TimedNotice → (high : ℕ) → Type 0
IsRisingTo low [] high = low ≤ high
IsRisingTo low (timed ∷ notices) high = (low < timed.time) × IsRisingTo timed.time notices high

pub rising_is : (low high : ℕ) (notices : List TimedNotice) → IsRisingTo low notices high → HaveRisingTimes low notices
rising_is low high [] rising = tt
rising_is low high (timed ∷ notices) rising = (rising.0, rising_is timed.time high notices rising.1)

pub rising_more : (low high top : ℕ) (notices : List TimedNotice) → IsRisingTo low notices high → high ≤ top →
    IsRisingTo low notices top
rising_more low high top [] rising more = omega arith
rising_more low high top (timed ∷ notices) rising more = (rising.0, rising_more timed.time high top notices rising.1 more)

pub rising_push : (low high top : ℕ) (notices : List TimedNotice) (timed : TimedNotice) → IsRisingTo low notices high →
    high < timed.time → timed.time ≤ top → IsRisingTo low (notices ++ timed ∷ []) top
rising_push low high top [] timed rising later within = (omega arith, within)
rising_push low high top (first ∷ notices) timed rising later within =
    (rising.0, rising_push first.time high top notices timed rising.1 later within)

pub after_push : (notices : List TimedNotice) (timed : TimedNotice) (history : List Entry) →
    after_notices (notices ++ timed ∷ []) history ≡ after_notice timed.time timed.notice (after_notices notices history)
after_push [] timed history = refl
after_push (first ∷ notices) timed history = after_push notices timed (after_notice first.time first.notice history)
