-- The contracts that docs/trusted.md lists do not depend on this file; other contracts and proofs do.
-- Which process makes which call of a history.
use Rattle.std.specs.Prelude.{◌≡◌, ◌≢◌, ◌<◌, ◌≤◌, ◌⊎◌, ◌↔◌, ℕ, max, List, [], ◌∷◌, ◌++◌, length, Option, Some, None}
use Rattle.std.specs.Prelude.{⊤, get_or, slice_get, slice_set}
use Rattle.record.specs.declared.call.Entry.{Entry}
use Rattle.record.specs.declared.call.Operation.TheVariants as operation
use Rattle.atomicity.specs.Atomic.{IsAnsweredBefore, no_entry}
use Rattle.exports.specs.declared.event.Process.{Process}
use Rattle.exports.specs.declared.event.Process.TheVariants as process

-- before the call of the entry at index `i`, this client made a call that was not answered when that one began
abbrev pub IsBusyAt : List Entry → List Process → (i client : ℕ) → Type 0
IsBusyAt entries processes i client =
    (j : ℕ) × (j < i) × (slice_get processes j ≡ Some (process.Client client))
    × ¬ (IsAnsweredBefore (get_or entries j no_entry) (get_or entries i no_entry))

-- each entry has a process: moves have the nemesis, and other calls have clients, none of which has two calls at once;
-- each call has the first client that is not busy
pub record AreProcesses (entries : List Entry) (processes : List Process) : Type 0 where
  pub one_each : length processes ≡ length entries
  pub moves : (i : ℕ) → i < length entries
      → (slice_get processes i ≡ Some process.Nemesis) ↔ ((get_or entries i no_entry).kind ≡ operation.Move)
  pub apart : (i j client : ℕ) → i < j → slice_get processes i ≡ Some (process.Client client)
      → slice_get processes j ≡ Some (process.Client client)
      → IsAnsweredBefore (get_or entries i no_entry) (get_or entries j no_entry)
  pub first : (i client before : ℕ) → slice_get processes i ≡ Some (process.Client client) → before < client
      → IsBusyAt entries processes i before

-- the later of two steps, the second of which may be absent; none if it is
abbrev pub later : ℕ → Option ℕ → Option ℕ
later since None = None
later since (Some step) = Some (max step since)

-- a client with an open call, or whose calls were answered by this step, is busy at the step of a call
abbrev pub IsBusy : (called : ℕ) → Option ℕ → Type 0
IsBusy called None = ⊤
IsBusy called (Some since) = called ≤ since

-- all clients before this one are busy at the step of a call
abbrev pub AreBusy : (called : ℕ) → List (Option ℕ) → (client : ℕ) → Type 0
AreBusy called clients client =
    (before : ℕ) (kept : Option ℕ) → before < client → slice_get clients before ≡ Some kept → IsBusy called kept

-- the call of this entry gets the first client whose calls were answered before it began, or else a new client
abbrev pub TakesClient : List (Option ℕ) → Entry → List (Option ℕ) → ℕ → Type 0
TakesClient old entry new client =
    AreBusy entry.called old client
    × (((since : ℕ) × (slice_get old client ≡ Some (Some since)) × (since < entry.called)
    × (new ≡ slice_set old client (later since entry.answered)))
    ⊎ ((client ≡ length old) × (new ≡ old ++ entry.answered ∷ [])))

-- the call of this entry gets a client, or the nemesis if it is a move
abbrev pub TakesProcess : List (Option ℕ) → Entry → List (Option ℕ) → Process → Type 0
TakesProcess old entry new process.Nemesis = (entry.kind ≡ operation.Move) × (new ≡ old)
TakesProcess old entry new (process.Client client) =
    (entry.kind ≢ operation.Move) × TakesClient old entry new client
