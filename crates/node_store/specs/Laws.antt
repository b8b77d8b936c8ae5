-- What holds for every log.
use Rattle.std.specs.Prelude.{◌≡◌, ◌≢◌, ◌<◌, ◌≤◌, ◌^◌, ◌++◌, ℕ, List, take, replicate}
use Rattle.std.specs.List.{AllByRecursion}
use Rattle.node_log.specs.Entry.{chain_behind, first_chain, log_entry_bytes}
use Rattle.node_log.specs.Reading.{HasLogEntry, IsDamaged, IsEnd}
use Rattle.node_log.specs.declared.error.Damage.TheVariants.{WrongHead}
use Rattle.node_store.specs.Recovery.{IsWholeEntry, log_bytes, BeginsWith}

-- what is left of a log that is cut anywhere, also if zeros follow the cut: the bytes of its first entries, and after
-- them the end of a log
abbrev pub CutLogIsFront : Type 0
CutLogIsFront = (chain : ℕ) (entries : List (List (List ℕ))) (front back : List ℕ) (zeros : ℕ)
    → AllByRecursion IsWholeEntry entries → log_bytes chain entries ≡ front ++ back
    → (count : ℕ) × BeginsWith chain (take count entries) IsEnd (front ++ replicate zeros 0)

-- if the same bytes begin with two lists of entries, and no further entry follows either list, both lists are the same
abbrev pub LogIsReadOnce : Type 0
LogIsReadOnce = (chain : ℕ) (es fs : List (List (List ℕ))) (x y : List ℕ) → AllByRecursion IsWholeEntry es
    → AllByRecursion IsWholeEntry fs → log_bytes chain es ++ x ≡ log_bytes chain fs ++ y
    → (HasLogEntry (chain_behind chain es) x → ⊥) → (HasLogEntry (chain_behind chain fs) y → ⊥) → (es ≡ fs) × (x ≡ y)

-- If behind the first entries of a log an entry follows that was written behind another chain, its head is wrong there.
-- So it is damage, and no entry of the log.
abbrev pub MovedIsNoticed : Type 0
MovedIsNoticed = (entries : List (List (List ℕ))) (entry : List (List ℕ)) (other : ℕ) (rest : List ℕ)
    → IsWholeEntry entry → other < 2 ^ 32 → other ≢ chain_behind first_chain entries
    → BeginsWith first_chain entries (λ chain bytes. IsDamaged chain bytes WrongHead)
    (log_bytes first_chain entries ++ (log_entry_bytes other entry ++ rest))

-- What a stop may leave of a log with these entries, of which this many first ones are synced: the bytes of these, and
-- some first bytes of the others. The rest is lost, and zeros may stand in its place.
pub record IsLeft (entries : List (List (List ℕ))) (synced : ℕ) (disk : List ℕ) : Type 0 where
  pub front : List ℕ
  pub more : List ℕ
  pub lost : List ℕ
  pub zeros : ℕ
  pub kept : front ≡ log_bytes first_chain (take synced entries) ++ more
  pub all : log_bytes first_chain entries ≡ front ++ lost
  pub disk_is : disk ≡ front ++ replicate zeros 0

-- of what a stop leaves of a log, the first entries are read, and at least those that were synced
abbrev pub LeftLogIsRead : Type 0
LeftLogIsRead = (entries read : List (List (List ℕ))) (synced : ℕ) (disk : List ℕ) → AllByRecursion IsWholeEntry entries
    → AllByRecursion IsWholeEntry read → IsLeft entries synced disk → BeginsWith first_chain read IsEnd disk
    → (count : ℕ) × (synced ≤ count) × (read ≡ take count entries)
