-- The contracts that docs/trusted.md lists do not depend on this file; other contracts and proofs do.
-- The rounds of the loop of a machine.
use Rattle.std.specs.Prelude.{◌≡◌, ℕ, zero, suc, List, Option, None, Some, Result, Ok, Err, true, false}
use Rattle.node_effects.specs.declared.effects.Effects.{Effects}
use Rattle.node_store.specs.Rewriting.{HasGrown, HasLengthened}
use Rattle.node_store.specs.Serving.{ServesSome, StopsEarly}
use Rattle.node_store.specs.declared.end.LogEnd.{LogEnd}
use Rattle.node_store.specs.declared.stop.ServeError.{ServeError}

-- the loop between two rounds: how long the log is, as the loop counts it, the chain behind which it ends, the machine,
-- the bytes that are left of the input, those that the log keeps, and those that the output holds
pub record BetweenRounds (M : Type 0) : Type 0 where
  pub length : ℕ
  pub chain : ℕ
  pub machine : M
  pub left : Option (List ℕ)
  pub kept : Option (List ℕ)
  pub held : Option (List ℕ)

-- `handles old frame effects new` says what a machine does with a frame, and `notes old bytes new` how it is told a
-- length
module _ {M : Type 0} (handles : M → List (List ℕ) → Effects → M → Type 0) (notes : M → ℕ → M → Type 0) where
  -- the loop went from the one to the other in one round, and counted the bytes that the log got
  abbrev pub IsRound : BetweenRounds M → BetweenRounds M → Type 0
  IsRound old new = ServesSome handles notes old.chain new.chain old.machine new.machine old.left new.left
      old.kept new.kept old.held new.held (Ok true) × HasLengthened old.kept new.kept old.length new.length

  -- The loop went from the one to the other in so many rounds, one after another. Before each of them, its log, which
  -- was so long at the beginning, had not grown much.
  abbrev pub GoesRounds : (begin count : ℕ) → BetweenRounds M → BetweenRounds M → Type 0
  GoesRounds begin zero old new = new ≡ old
  GoesRounds begin (suc count) old new = (between : BetweenRounds M) × GoesRounds begin count old between
      × (HasGrown begin between.length → ⊥) × IsRound between new

  -- the loop went in rounds until this one is to begin, before which its log has not grown much either
  abbrev pub ComesToRound : (first last : BetweenRounds M) → Type 0
  ComesToRound first last =
      (count : ℕ) × GoesRounds first.length count first last × (HasGrown first.length last.length → ⊥)

  -- The loop went in rounds: until the log had grown much, up to this end; or, as long as it had not, until the last
  -- round, in which the input ended, or in which the loop stopped early.
  abbrev pub ServesInRounds : BetweenRounds M → M → (left keeps holds : Option (List ℕ))
      → Result (Option LogEnd) ServeError → Type 0
  ServesInRounds first new left keeps holds (Ok (Some end)) =
      HasGrown first.length end.length
      × (count : ℕ) × GoesRounds first.length count first
      (record {
        length = end.length;
        chain = end.chain.state;
        machine = new;
        left = left;
        kept = keeps;
        held = holds;
      })
  ServesInRounds first new left keeps holds (Ok None) =
      (last : BetweenRounds M) × ComesToRound first last × (then : ℕ)
      × ServesSome handles notes last.chain then last.machine new last.left left last.kept keeps last.held holds
      (Ok false)
  ServesInRounds first new left keeps holds (Err error) =
      (last : BetweenRounds M) × ComesToRound first last
      × StopsEarly handles notes last.chain last.machine last.left last.kept keeps last.held holds error
