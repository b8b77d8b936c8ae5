-- The contracts that docs/trusted.md lists do not depend on this file; other contracts and proofs do.
-- What the functions return that read an entry part by part.
use Rattle.std.specs.Prelude.{◌≡◌, ◌≢◌, ◌-◌, ◌++◌, ℕ, List, length, Option, Some, None, Result, Ok, Err, ⊤}
use Rattle.frames.specs.Frame.{IsFrame, frame_bytes}
use Rattle.node_log.specs.Entry.{head_of, digest_in, digest_of}
use Rattle.node_log.specs.Reading.{IsNoBody, AreZerosFrom, HadLeft}
use Rattle.node_log.specs.declared.error.Damage.{Damage}
use Rattle.node_log.specs.declared.error.Damage.TheVariants.{WrongHead, WrongDigest, NoFrame}
use Rattle.node_log.specs.declared.error.LogError.{LogError}
use Rattle.node_log.specs.declared.error.LogError.TheVariants as errors

-- the body is the frame of these strings, and has this head behind this chain
pub record IsBodyOf (chain : ℕ) (head body : List ℕ) (strings : List (List ℕ)) : Type 0 where
  pub lawful : IsFrame strings
  pub is_frame : body ≡ frame_bytes strings
  pub is_head : head ≡ head_of chain body

-- the body behind this head is damaged in this way
abbrev pub IsDamagedBody : List ℕ → List ℕ → Damage → Type 0
IsDamagedBody head body WrongHead = ⊥
IsDamagedBody head body WrongDigest = digest_of body ≢ digest_in head
IsDamagedBody head body NoFrame = (digest_of body ≡ digest_in head) × IsNoBody body

-- why the body behind this head gives no entry
abbrev pub IsNoBodyFor : List ℕ → List ℕ → LogError → Type 0
IsNoBodyFor head body (errors.Damaged damage) = IsDamagedBody head body damage
IsNoBodyFor head body errors.NoMemory = ⊤
IsNoBodyFor head body (errors.Failed error) = ⊤

-- why bytes cannot be read: memory is refused, or the reader fails
abbrev pub IsUnread : LogError → Type 0
IsUnread (errors.Damaged damage) = ⊥
IsUnread errors.NoMemory = ⊤
IsUnread (errors.Failed error) = ⊤

-- why bytes give no frame
abbrev pub IsNoFrameFor : List ℕ → LogError → Type 0
IsNoFrameFor body (errors.Damaged damage) = (damage ≡ NoFrame) × IsNoBody body
IsNoFrameFor body errors.NoMemory = ⊤
IsNoFrameFor body (errors.Failed error) = ⊤

-- What is made of a part of no entry, behind which the reader had some bytes left: none where the last byte of the part
-- and all behind it are zeros, and this damage otherwise.
abbrev pub EndsOrIsDamaged : List ℕ → Damage → Option (List ℕ) → Result (Option (List (List ℕ))) LogError → Type 0
EndsOrIsDamaged part damage old (Ok (Some strings)) = ⊥
EndsOrIsDamaged part damage old (Ok None) = HadLeft (λ rest. AreZerosFrom (length part - 1) (part ++ rest)) old
EndsOrIsDamaged part damage old (Err (errors.Damaged found)) =
    (found ≡ damage) × HadLeft (λ rest. AreZerosFrom (length part - 1) (part ++ rest) → ⊥) old
EndsOrIsDamaged part damage old (Err errors.NoMemory) = ⊤
EndsOrIsDamaged part damage old (Err (errors.Failed error)) = ⊤
