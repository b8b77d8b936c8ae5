-- The contracts that docs/trusted.md lists do not depend on this file; other contracts and proofs do.
-- What the calls of an embedded node come to.
use Rattle.std.specs.Prelude.{◌≡◌, ◌+◌, ℕ, Bool, true, false, List, length, Some, None}
use Rattle.node_core.specs.Opening.{IsOpened}
use Rattle.node_core.specs.Rewriting.{HasLogAnew}
use Rattle.node_core.specs.Rounds.{HasHandled}
use Rattle.node_core.specs.declared.opening.Opened.{Opened}
use Rattle.node_store.specs.declared.gathering.Round.{Round}
use Rattle.node_handle.specs.declared.embedded.Embedded.{Embedded}
use Rattle.node_handle.specs.declared.embedded.Handled.{Handled}
use Rattle.node_handle.specs.declared.task.Work.TheVariants as works

-- a core was opened, and its program has to do what is due after a start
pub record HasStarted (text : List ℕ) (number : ℕ) (disk : List ℕ) (node : Embedded) : Type 0 where
  pub opened : Opened
  pub opens : IsOpened text number disk opened
  pub core : node.core ≡ opened.core
  pub work : node.work ≡ works.Start opened.length opened.entries

-- the core handled the frames with which the input begins, which have so many bytes, and its program has to do what is
-- due for them
pub record HasTaken (old new : Embedded) (input : List ℕ) (handled : Handled) : Type 0 where
  pub round : Round
  pub handles : HasHandled old.core new.core input round
  pub used : handled.used + length round.rest.now ≡ length input
  pub report : handled.report ≡ round.report
  pub work : new.work ≡ works.Round round.batch

-- the core gave a new log, with which its program has to replace the old one; or it gave none, and nothing has changed
abbrev pub HasRewritten : (old new : Embedded) → (given : Bool) → Type 0
HasRewritten old new true =
    (bytes : List ℕ) × HasLogAnew old.core new.core (Some bytes) × (new.work ≡ works.Rewriting bytes)
HasRewritten old new false = HasLogAnew old.core new.core None × (new.work ≡ old.work)
