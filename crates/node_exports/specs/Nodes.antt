-- The contracts that docs/trusted.md lists do not depend on this file; other contracts and proofs do.
-- What the calls leave in a handle.
use Rattle.std.specs.Prelude.{◌≡◌, ℕ, Bool, true, List, Some, if◌then◌else◌}
use Rattle.node_core.specs.Rewriting.{HasKept, IsNotAnew}
use Rattle.node_core.specs.Rounds.{HasFailed}
use Rattle.node_core.specs.declared.error.CoreError.{CoreError}
use Rattle.node_handle.specs.Embedding.{HasRewritten, HasTaken}
use Rattle.node_handle.specs.declared.embedded.Embedded.{Embedded}
use Rattle.node_handle.specs.declared.embedded.Handled.{Handled}
use Rattle.node_handle.specs.declared.held.Held.{Held}
use Rattle.node_handle.specs.declared.task.Work.TheVariants as works
use Rattle.node_exports.specs.Answer.{number_of, other_of}

-- 1 for true and 0 for false
abbrev pub number_of_bool : Bool → ℕ
number_of_bool is_so = if is_so then 1 else 0

-- the handle has a node of which this holds
abbrev pub Has : Held → (Embedded → Type 0) → Type 0
Has held P = (node : Embedded) × (held.value ≡ Some node) × P node

-- the handle had a node and has one, of which this holds
abbrev pub BothHave : (old new : Held) → (Embedded → Embedded → Type 0) → Type 0
BothHave old new P = Has old (λ before. Has new (λ after. P before after))

-- the node handled the frames with which the input begins, which have so many bytes, and says of another node that it
-- has another cluster file
abbrev pub HandlesFrames : (input : List ℕ) → (used other : ℕ) → (old new : Embedded) → Type 0
HandlesFrames input used other old new =
    (handled : Handled) × HasTaken old new input handled × (used ≡ handled.used) × (other ≡ other_of handled.report)

-- the node has stopped at the input, for the reason that has this number
abbrev pub StopsAt : (input : List ℕ) → (answer : ℕ) → (old new : Embedded) → Type 0
StopsAt input answer old new =
    (error : CoreError) × (answer ≡ number_of error) × HasFailed old.core input error
    × (new.core.is_stopped ≡ true) × (new.work ≡ old.work)

-- a new log was given, which is the node's task; or none was, and nothing has changed. 1 and 0 say which.
abbrev pub GivesLog : (given : ℕ) → (old new : Embedded) → Type 0
GivesLog given old new = (is_given : Bool) × (given ≡ number_of_bool is_given) × HasRewritten old new is_given

-- the node goes on with its old log, and has no task; or nothing has changed. 1 and 0 say which.
abbrev pub KeepsLog : (kept : ℕ) → (old new : Embedded) → Type 0
KeepsLog kept old new =
    (is_kept : Bool) × (kept ≡ number_of_bool is_kept) × HasKept old.core new.core is_kept
    × (new.work ≡ (if is_kept then works.Idle else old.work))

-- the node gives no new log, for the reason that has this number, and has not changed
abbrev pub RefusesLog : (answer : ℕ) → (old new : Embedded) → Type 0
RefusesLog answer old new =
    (error : CoreError) × (answer ≡ number_of error) × IsNotAnew old.core error × (new ≡ old)
