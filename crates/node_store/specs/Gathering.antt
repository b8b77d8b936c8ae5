-- The contracts that docs/trusted.md lists do not depend on this file; other contracts and proofs do.
-- What came of frames that lay in memory.
use Rattle.std.specs.Prelude.{◌≡◌, ◌++◌, ℕ, List}
use Rattle.std.specs.List.{flat_map, FoldsTo}
use Rattle.node_effects.specs.declared.effects.Effects.{Effects}
use Rattle.node_store.specs.Outputs.{HasGathered}
use Rattle.node_store.specs.Serving.{Happens, LoopEvent, all_outputs, read_by}
use Rattle.node_store.specs.declared.gathering.Round.{Round}

-- `handles old frame effects new` says what a machine does with a frame, and `notes old bytes new` how it is told a
-- length
module _ {M : Type 0} (handles : M → List (List ℕ) → Effects → M → Type 0) (notes : M → ℕ → M → Type 0) where
  -- The machine handled the frames with which the input begins, one after another, and the bytes behind them are the
  -- rest. What it wants done for them, behind this chain of the log, waits in the batch.
  abbrev pub HandlesInput : (chain : ℕ) → M → M → (input : List ℕ) → Round → Type 0
  HandlesInput chain old new input round =
      (events : List LoopEvent) × FoldsTo (Happens handles notes) old events new
      × (input ≡ flat_map read_by events ++ round.rest.now) × HasGathered chain round.batch (all_outputs events)
