-- The contracts that docs/trusted.md lists do not depend on this file; other contracts and proofs do.
-- What a program has to do with its log after a core was opened, and what comes of it, also where it is cut off.
use Rattle.std.specs.Prelude.{◌≡◌, ◌⊎◌, ◌≤◌, [], ◌∷◌, ℕ, List, take}
use Rattle.node_store.specs.Steps.{AreCarriedOut, IsCarriedOut, IsFront, Places, Step, StopWithin}

-- Of what the log keeps, the bytes behind the first ones may be gone.
abbrev pub MayLoseEnd : (count : ℕ) → (old new : Places) → Type 0
MayLoseEnd count old new = (most : ℕ) × (count ≤ most) × (new.kept ≡ take most old.kept)

-- the log was cut behind so many bytes; until it is synced, it may keep others behind them
abbrev pub IsCut : (count : ℕ) → (old new : Places) → Type 0
IsCut count old new =
    (new.sent ≡ old.sent) × (new.written ≡ take count old.written) × MayLoseEnd count old new

-- a cut was cut off: of what the log keeps, the bytes behind the first ones may be gone
abbrev pub IsCutOffCut : (count : ℕ) → (old new : Places) → Type 0
IsCutOffCut count old new = (new.sent ≡ old.sent) × MayLoseEnd count old new

-- A sync of a log that was cut was cut off. The log keeps what it kept, or what was written, or what lies between.
pub record IsCutOffSync (old new : Places) : Type 0 where
  pub sent : new.sent ≡ old.sent
  pub grows : IsFront old.kept old.written → IsFront old.kept new.kept × IsFront new.kept old.written
  pub shrinks : IsFront old.written old.kept → IsFront old.written new.kept × IsFront new.kept old.kept

-- the bytes of a start are appended to a log that is synced, which is synced again
abbrev pub start_steps : (entries : List ℕ) → List Step
start_steps entries = Step.Appends entries ∷ Step.Syncs ∷ []

-- the log was cut behind so many bytes and synced, and the bytes of the start were appended and synced
abbrev pub IsStartDone : (count : ℕ) → (entries : List ℕ) → (before after : Places) → Type 0
IsStartDone count entries before after =
    (cut synced : Places) × IsCut count before cut × IsCarriedOut cut Step.Syncs synced
    × AreCarriedOut synced (start_steps entries) after

-- that was cut off anywhere
abbrev pub IsStartCutOff : (count : ℕ) → (entries : List ℕ) → (before after : Places) → Type 0
IsStartCutOff count entries before after =
    IsCutOffCut count before after
    ⊎ ((cut : Places) × IsCut count before cut
    × (IsCutOffSync cut after
    ⊎ ((synced : Places) × IsCarriedOut cut Step.Syncs synced × StopWithin synced (start_steps entries) after)))
