-- What a machine carries out again from its log.
use Rattle.std.specs.Prelude.{◌≡◌, ◌≤◌, ◌+◌, ◌^◌, ◌++◌, ℕ, List, [], ◌∷◌, length}
use Rattle.std.specs.Prelude.{Option, Some, None, Result, Ok, Err, ⊤}
use Rattle.std.specs.List.{FoldsTo, AllByRecursion}
use Rattle.std.specs.Io.KnownBytes.{Consumes}
use Rattle.frames.specs.Frame.{IsFrame}
use Rattle.node_log.specs.Entry.{chain_after, chain_behind, first_chain, log_entry_bytes}
use Rattle.node_log.specs.Reading.{HadLeft, IsEnd, IsDamaged}
use Rattle.node_store.specs.declared.error.StoreFault.{StoreFault}
use Rattle.node_store.specs.declared.error.StoreFault.TheVariants as faults
use Rattle.node_store.specs.declared.error.StoreError.{StoreError}
use Rattle.node_store.specs.declared.end.LogEnd.{LogEnd}

-- these strings make an entry, because they are a frame
abbrev pub IsWholeEntry : List (List ℕ) → Type 0
IsWholeEntry strings = IsFrame strings

-- the bytes of entries, one after another, the first of them behind this chain
abbrev pub log_bytes : ℕ → List (List (List ℕ)) → List ℕ
log_bytes chain [] = []
log_bytes chain (entry ∷ entries) = log_entry_bytes chain entry ++ log_bytes (chain_after chain entry) entries

-- the bytes begin with those of these entries, and the bytes after them have the given property, which depends on the
-- chain behind the entries
abbrev pub BeginsWith : ℕ → List (List (List ℕ)) → (ℕ → List ℕ → Type 0) → List ℕ → Type 0
BeginsWith chain entries P bytes =
    (rest : List ℕ) × (bytes ≡ log_bytes chain entries ++ rest) × P (chain_behind chain entries) rest

-- an entry that begins at the one end ends at the other
pub record IsPast (at : LogEnd) (entry : List (List ℕ)) (end : LogEnd) : Type 0 where
  pub long : end.length ≡ at.length + length (log_entry_bytes at.chain.state entry)
  pub chained : end.chain.state ≡ chain_after at.chain.state entry

-- why the entry that begins there is not carried out: the machine refuses it, memory is refused, or the bytes up to its
-- end are more than 2^64 - 1
abbrev pub IsRefusedAt : LogEnd → List (List ℕ) → StoreFault → Type 0
IsRefusedAt at entry (faults.Damaged damage) = ⊥
IsRefusedAt at entry (faults.NotCarriedOut error) = ⊤
IsRefusedAt at entry faults.TooLong = 2 ^ 64 ≤ at.length + length (log_entry_bytes at.chain.state entry)
IsRefusedAt at entry faults.NoMemory = ⊤
IsRefusedAt at entry (faults.Failed error) = ⊥

-- the bytes begin with an entry behind this chain, which has the given property
abbrev pub IsEntryAt : ℕ → (List (List ℕ) → Type 0) → List ℕ → Type 0
IsEntryAt chain P bytes =
    (entry : List (List ℕ)) × (left : List ℕ) × IsWholeEntry entry × (bytes ≡ log_entry_bytes chain entry ++ left)
    × P entry

-- why reading stops at byte `at`, where these bytes begin, behind this chain: damage that begins there, or an entry
-- that stands there and is refused; if memory was refused or the reader failed, this says nothing about the bytes
abbrev pub StopsFor : (at : ℕ) → StoreFault → (chain : ℕ) → List ℕ → Type 0
StopsFor at (faults.Damaged damage) chain bytes = IsDamaged chain bytes damage
StopsFor at (faults.NotCarriedOut error) chain bytes = IsEntryAt chain (λ entry. ⊤) bytes
StopsFor at faults.TooLong chain bytes =
    IsEntryAt chain (λ entry. 2 ^ 64 ≤ at + length (log_entry_bytes chain entry)) bytes
StopsFor at faults.NoMemory chain bytes = ⊤
StopsFor at (faults.Failed error) chain bytes = ⊤

-- `carries_out old entry new` says that the machine carries out an entry
module _ {M : Type 0} (carries_out : M → List (List ℕ) → M → Type 0) where
  -- the entry that begins there was read, the machine carried it out, and where it ends was returned; or the log ends
  -- there; or reading stopped there
  abbrev pub HasReadNext : LogEnd → M → M → Option (List ℕ) → Option (List ℕ) → Result (Option LogEnd) StoreError →
      Type 0
  HasReadNext at old new had left (Ok (Some end)) =
      (entry : List (List ℕ)) × IsWholeEntry entry × carries_out old entry new
      × Consumes had left (log_entry_bytes at.chain.state entry) × IsPast at entry end
  HasReadNext at old new had left (Ok None) = (old ≡ new) × HadLeft (IsEnd at.chain.state) had
  HasReadNext at old new had left (Err error) =
      (error.at ≡ at.length) × HadLeft (StopsFor at.length error.fault at.chain.state) had

  -- The log began with these entries, and the machine carried them out one after another. They have this many bytes,
  -- and the bytes after them have the given property.
  abbrev pub HasCarriedOut : M → M → Option (List ℕ) → (bytes : ℕ) → (ℕ → List ℕ → Type 0) → List (List (List ℕ)) →
      Type 0
  HasCarriedOut old new had bytes P entries =
      AllByRecursion IsWholeEntry entries × FoldsTo carries_out old entries new
      × (bytes ≡ length (log_bytes first_chain entries)) × HadLeft (BeginsWith first_chain entries P) had

  -- the machine carried out all entries, up to the end of the log, which was returned; or those up to the byte where
  -- reading stopped
  abbrev pub HasRecovered : M → M → Option (List ℕ) → Result LogEnd StoreError → Type 0
  HasRecovered old new had (Ok end) =
      (entries : List (List (List ℕ))) × HasCarriedOut old new had end.length IsEnd entries
      × (end.chain.state ≡ chain_behind first_chain entries)
  HasRecovered old new had (Err error) =
      (entries : List (List (List ℕ))) × (between : M)
      × HasCarriedOut old between had error.at (StopsFor error.at error.fault) entries
