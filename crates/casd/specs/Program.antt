-- The contracts that docs/trusted.md lists do not depend on this file; other contracts and proofs do.
-- What the program does with its node.
use Rattle.std.specs.Prelude.{◌≡◌, ◌⊎◌, ℕ, List, Option, Some, None, Result, Ok, Err}
use Rattle.deeds.specs.Kept.{FileOfNames}
use Rattle.node.specs.declared.node.Node.{Node}
use Rattle.node_store.specs.Rounds.{BetweenRounds}
use Rattle.node_store.specs.declared.end.LogEnd.{LogEnd}
use Rattle.processes.specs.Sessions.{GoesOn, ServesToEnd, ServesToExchange, ServesToStop}
use Rattle.casd.specs.Opening.{HasStarted, IsFailedStart}
use Rattle.casd.specs.declared.fault.Fault.{Fault}
use Rattle.casd.specs.declared.fault.Fault.TheVariants as faults

-- the program served until its input ended, its loop stopped early, or it could not exchange its log
abbrev pub HasServed : {T : Type 0} → BetweenRounds Node → Node → (left keeps holds : Option (List ℕ))
    → Result T Fault → Type 0
HasServed first new left keeps holds (Ok done) = ServesToEnd first new left keeps holds
HasServed first new left keeps holds (Err (faults.Ended error)) = ServesToStop first new left keeps holds error
HasServed first new left keeps holds (Err (faults.NotExchanged error)) = ServesToExchange first left keeps holds
HasServed first new left keeps holds (Err _) = ⊥

-- the program served until its log had grown, and perhaps wrote it anew, up to the end that is the result; or it served
-- until one of the other ends
abbrev pub HasServedOnce : BetweenRounds Node → Node → (left keeps holds : Option (List ℕ))
    → Result (Option LogEnd) Fault → Type 0
HasServedOnce first new left keeps holds (Ok (Some then)) = GoesOn 1 first
    (record {
      length = then.length;
      chain = then.chain.state;
      machine = new;
      left = left;
      kept = keeps;
      held = holds;
    })
HasServedOnce first new left keeps holds (Ok None) = ServesToEnd first new left keeps holds
HasServedOnce first new left keeps holds (Err fault) = HasServed {T = Unit {0}} first new left keeps holds (Err fault)

-- the program started with the bytes that it found in a log, with this input and output, and then served
abbrev pub HasStartedAndServed : {T : Type 0} → FileOfNames → (number : ℕ) → (found : Option (List ℕ))
    → (input held : Option (List ℕ)) → Node → (keeps holds : Option (List ℕ)) → Result T Fault → Type 0
HasStartedAndServed names number found input held new keeps holds result =
    (started : Node) × (end : LogEnd) × (kept left : Option (List ℕ))
    × HasStarted names number found started end kept
    × HasServed (record {
      length = end.length;
      chain = end.chain.state;
      machine = started;
      left = input;
      kept = kept;
      held = held;
    })
    new left keeps holds result

-- the program started, and then there was no memory for its input, of which it read nothing
abbrev pub HasOnlyStarted : FileOfNames → (number : ℕ) → (found held : Option (List ℕ)) → Node
    → (keeps holds : Option (List ℕ)) → Type 0
HasOnlyStarted names number found held new keeps holds =
    (end : LogEnd) × HasStarted names number found new end keeps × (holds ≡ held)

-- the program could not start, for this fault, and wrote nothing to its output
abbrev pub HasNotStarted : FileOfNames → (number : ℕ) → (found kept held keeps holds : Option (List ℕ)) → Fault → Type 0
HasNotStarted names number found kept held keeps holds fault =
    IsFailedStart names number found kept keeps fault × (holds ≡ held)

-- the program started and served, until its input ended, its loop stopped early, or it could not exchange its log; or
-- it could not start; or there was no memory for its input
abbrev pub HasRun : {T : Type 0} → FileOfNames → (number : ℕ) → (found kept : Option (List ℕ))
    → (input held : Option (List ℕ)) → Node → (keeps holds : Option (List ℕ)) → Result T Fault → Type 0
HasRun names number found kept input held new keeps holds (Ok done) =
    HasStartedAndServed names number found input held new keeps holds (Ok done)
HasRun {T = T} names number found kept input held new keeps holds (Err (faults.Ended error)) =
    HasStartedAndServed {T = T} names number found input held new keeps holds (Err (faults.Ended error))
HasRun {T = T} names number found kept input held new keeps holds (Err (faults.NotExchanged error)) =
    HasStartedAndServed {T = T} names number found input held new keeps holds (Err (faults.NotExchanged error))
    ⊎ HasNotStarted names number found kept held keeps holds (faults.NotExchanged error)
HasRun names number found kept input held new keeps holds (Err faults.NoMemory) =
    HasOnlyStarted names number found held new keeps holds
    ⊎ HasNotStarted names number found kept held keeps holds faults.NoMemory
HasRun names number found kept input held new keeps holds (Err fault) =
    HasNotStarted names number found kept held keeps holds fault
