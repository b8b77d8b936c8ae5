-- The contracts that docs/trusted.md lists do not depend on this file; other contracts and proofs do.
-- What is written to a log is read back, also where its last entry is cut short; and an entry that is not in its place
-- is damage.
use Rattle.std.specs.Prelude.{◌≡◌, ◌≢◌, ◌<◌, ◌^◌, ◌++◌, ℕ, List, [], replicate}
use Rattle.frames.specs.Frame.{IsFrame}
use Rattle.node_log.specs.Entry.{log_entry_bytes}
use Rattle.node_log.specs.Reading.{IsEnd, IsDamaged}
use Rattle.node_log.specs.declared.error.Damage.{Damage}
use Rattle.node_log.specs.declared.error.Damage.TheVariants.{WrongHead}

-- where an entry stands, the log does not end, and nothing is damaged
abbrev pub EntryIsRead : Type 0
EntryIsRead = (chain : ℕ) (strings : List (List ℕ)) (rest : List ℕ) → IsFrame strings
    → (IsEnd chain (log_entry_bytes chain strings ++ rest) → ⊥)
    × ((damage : Damage) → IsDamaged chain (log_entry_bytes chain strings ++ rest) damage → ⊥)

-- an entry that is cut short, also before its first byte, is the end of the log, also with zeros behind it
abbrev pub CutIsEnd : Type 0
CutIsEnd = (chain : ℕ) (strings : List (List ℕ)) (front back : List ℕ) (zeros : ℕ) → IsFrame strings
    → log_entry_bytes chain strings ≡ front ++ back → (back ≡ [] → ⊥) → IsEnd chain (front ++ replicate zeros 0)

-- if the same bytes begin with two entries, these are the same entry, and the same bytes follow
abbrev pub BeginsOneEntry : Type 0
BeginsOneEntry = (chain : ℕ) (e f : List (List ℕ)) (x y : List ℕ) → IsFrame e → IsFrame f
    → log_entry_bytes chain e ++ x ≡ log_entry_bytes chain f ++ y → (e ≡ f) × (x ≡ y)

-- an entry that was written behind another chain is damage, and its head is wrong
abbrev pub MovedIsDamaged : Type 0
MovedIsDamaged = (chain other : ℕ) (strings : List (List ℕ)) (rest : List ℕ) → IsFrame strings → chain < 2 ^ 32
    → other < 2 ^ 32 → other ≢ chain → IsDamaged chain (log_entry_bytes other strings ++ rest) WrongHead
