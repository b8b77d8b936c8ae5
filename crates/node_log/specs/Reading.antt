-- What is read of a log, of which an entry, its end or damage stands at the front, behind a chain.
use Rattle.std.specs.Prelude.{◌≡◌, ◌≢◌, ◌⊎◌, ◌≤◌, ◌+◌, ◌-◌, ◌++◌, ℕ, List, take, drop, slice_index}
use Rattle.std.specs.Prelude.{Option, Some, None, Result, Ok, Err, ⊤}
use Rattle.std.specs.Io.KnownBytes.{Consumes}
use Rattle.frames.specs.Frame.{IsFrame, frame_bytes}
use Rattle.node_log.specs.Entry.{IsHead, length_in, digest_in, digest_of, log_entry_bytes}
use Rattle.node_log.specs.declared.error.Damage.{Damage}
use Rattle.node_log.specs.declared.error.Damage.TheVariants.{WrongHead, WrongDigest, NoFrame}
use Rattle.node_log.specs.declared.error.LogError.{LogError}
use Rattle.node_log.specs.declared.error.LogError.TheVariants as errors

-- an entry stands at the front
abbrev pub HasLogEntry : ℕ → List ℕ → Type 0
HasLogEntry chain bytes =
    (strings : List (List ℕ)) × (rest : List ℕ) × IsFrame strings × (bytes ≡ log_entry_bytes chain strings ++ rest)

-- the first 16 bytes are a head
abbrev pub HasHead : ℕ → List ℕ → Type 0
HasHead chain bytes = IsHead chain (take 16 bytes)

-- what stands behind the first 16 bytes
abbrev pub behind_head : List ℕ → List ℕ
behind_head bytes = drop 16 bytes

-- how many bytes the body has, as the first 16 bytes say
abbrev pub body_length : List ℕ → ℕ
body_length bytes = length_in (take 16 bytes)

-- as much of the body as is there
abbrev pub body_at : List ℕ → List ℕ
body_at bytes = take (body_length bytes) (behind_head bytes)

-- no byte from this place on is another than zero; the first one has place 0
abbrev pub AreZerosFrom : ℕ → List ℕ → Type 0
AreZerosFrom place bytes = (i : ℕ) → place ≤ i → slice_index bytes i ≡ 0

-- the last byte of the head at the front is missing or zero, as is all behind it
abbrev pub StopsInHead : List ℕ → Type 0
StopsInHead bytes = AreZerosFrom 15 bytes

-- the last byte of the body is missing or zero, as is all behind it
abbrev pub StopsInBody : List ℕ → Type 0
StopsInBody bytes = AreZerosFrom (16 + (body_length bytes - 1)) bytes

-- The log ends here: no entry stands at the front, and what stands there may be one that was not written to its end.
-- Its last byte is missing or zero, as is all behind it. Where that byte belongs is known from a head alone.
abbrev pub IsEnd : ℕ → List ℕ → Type 0
IsEnd chain bytes =
    (HasLogEntry chain bytes → ⊥)
    × (((HasHead chain bytes → ⊥) × StopsInHead bytes) ⊎ (HasHead chain bytes × StopsInBody bytes))

-- these bytes are the frame of no strings
abbrev pub IsNoBody : List ℕ → Type 0
IsNoBody body = (strings : List (List ℕ)) → IsFrame strings → body ≡ frame_bytes strings → ⊥

-- the bytes at the front are damaged in this way
abbrev pub IsDamaged : ℕ → List ℕ → Damage → Type 0
IsDamaged chain bytes WrongHead = (HasHead chain bytes → ⊥) × (StopsInHead bytes → ⊥)
IsDamaged chain bytes WrongDigest =
    HasHead chain bytes × (digest_of (body_at bytes) ≢ digest_in (take 16 bytes)) × (StopsInBody bytes → ⊥)
IsDamaged chain bytes NoFrame =
    HasHead chain bytes × (digest_of (body_at bytes) ≡ digest_in (take 16 bytes)) × IsNoBody (body_at bytes)
    × (StopsInBody bytes → ⊥)

-- If it is known what a reader had left, this holds for it.
abbrev pub HadLeft : (List ℕ → Type 0) → Option (List ℕ) → Type 0
HadLeft P None = ⊤
HadLeft P (Some bytes) = P bytes

-- What was read behind a chain: an entry with which the bytes began, and nothing else was taken; or none, at the end of
-- the log; or damage. If memory was refused or the reader failed, this says nothing.
abbrev pub ReadsEntry : ℕ → Option (List ℕ) → Option (List ℕ) → Result (Option (List (List ℕ))) LogError → Type 0
ReadsEntry chain old new (Ok (Some strings)) = IsFrame strings × Consumes old new (log_entry_bytes chain strings)
ReadsEntry chain old new (Ok None) = HadLeft (IsEnd chain) old
ReadsEntry chain old new (Err (errors.Damaged damage)) = HadLeft (λ bytes. IsDamaged chain bytes damage) old
ReadsEntry chain old new (Err errors.NoMemory) = ⊤
ReadsEntry chain old new (Err (errors.Failed error)) = ⊤

-- these strings were read, and these bytes are left, unless memory was refused or the reader failed
abbrev pub ReadsThis : List (List ℕ) → List ℕ → Option (List ℕ) → Result (Option (List (List ℕ))) LogError → Type 0
ReadsThis strings rest new (Ok (Some found)) = (found ≡ strings) × (new ≡ Some rest)
ReadsThis strings rest new (Ok None) = ⊥
ReadsThis strings rest new (Err (errors.Damaged damage)) = ⊥
ReadsThis strings rest new (Err errors.NoMemory) = ⊤
ReadsThis strings rest new (Err (errors.Failed error)) = ⊤
