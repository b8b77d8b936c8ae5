-- The contracts that docs/trusted.md lists do not depend on this file; other contracts and proofs do.
-- What a core gives for a log that is written anew.
use Rattle.std.specs.Prelude.{◌≡◌, ⊤, ℕ, Bool, true, false, List, Option, None, Some}
use Rattle.node.specs.Anew.{AreAnew}
use Rattle.node_keeper.specs.Keeping.{kept_of}
use Rattle.node_log.specs.Entry.{first_chain}
use Rattle.node_store.specs.Recovery.{log_bytes}
use Rattle.node_store.specs.Rewriting.{IsEndOf}
use Rattle.node_strings.specs.Strings.{Strings}
use Rattle.recoveries.specs.RewritingNodes.{CanBeWrittenAnew}
use Rattle.node_core.specs.declared.embedded.NodeCore.{NodeCore}
use Rattle.node_core.specs.declared.error.CoreError.{CoreError}
use Rattle.node_core.specs.declared.error.CoreError.TheVariants as errors

-- the bytes are those of entries that give back what the node of this core keeps, and the log of the other core ends
-- behind them; nothing else differs but where the log of before ended
pub record IsLogAnew (old new : NodeCore) (bytes : List ℕ) : Type 0 where
  pub entries : List Strings
  pub anew : AreAnew old.node entries
  pub those : bytes ≡ log_bytes first_chain entries
  pub ends : IsEndOf entries new.end
  pub former : new.former ≡ Some old.end
  pub node : new.node ≡ old.node
  pub going : new.is_stopped ≡ old.is_stopped

-- there are bytes of a new log; or the log may not be written anew now, and nothing has changed
abbrev pub HasLogAnew : (old new : NodeCore) → Option (List ℕ) → Type 0
HasLogAnew old new None = (CanBeWrittenAnew (kept_of old.node.keeper) → ⊥) × (new ≡ old)
HasLogAnew old new (Some bytes) = IsLogAnew old new bytes

-- the core goes on behind the old log, if no frame was handled since the new one was given; or nothing has changed
abbrev pub HasKept : (old new : NodeCore) → (kept : Bool) → Type 0
HasKept old new true = (old.former ≡ Some new.end) × (new.node ≡ old.node) × (new.is_stopped ≡ old.is_stopped)
HasKept old new false = (old.former ≡ None) × (new ≡ old)

-- why no log is given: the core has stopped, or the node or memory refuses
abbrev pub IsNotAnew : NodeCore → CoreError → Type 0
IsNotAnew old errors.Stopped = old.is_stopped ≡ true
IsNotAnew old (errors.Refused error) = ⊤
IsNotAnew old errors.NoMemory = ⊤
IsNotAnew old _ = ⊥
