-- The contracts that docs/trusted.md lists do not depend on this file; other contracts and proofs do.
-- What a node program does after its start, until it ends: rounds of its loop, and rewritings of its log between them.
use Rattle.std.specs.Prelude.{◌≡◌, ℕ, zero, suc, List, Option, None, Ok, Err}
use Rattle.node.specs.Handles.{Handles as HandlesFrame}
use Rattle.node.specs.Recovering.{Notes as NotesLength}
use Rattle.node.specs.declared.node.Node.{Node}
use Rattle.node_store.specs.Rewriting.{HasGrown}
use Rattle.node_store.specs.Rounds.{BetweenRounds, GoesRounds, ServesInRounds}
use Rattle.node_store.specs.declared.end.LogEnd.{LogEnd}
use Rattle.node_store.specs.declared.stop.ServeError.{ServeError}
use Rattle.processes.specs.Programs.{IsHalfRewritten, IsPerhapsRewritten}

-- the loop went from the one to the other in rounds, until its log had grown much
abbrev pub IsInRounds : (old new : BetweenRounds Node) → Type 0
IsInRounds old new = HasGrown old.length new.length
    × (count : ℕ) × GoesRounds HandlesFrame NotesLength old.length count old new

-- the log was perhaps written anew between two rounds, and nothing else happened
pub record IsRenewal (old new : BetweenRounds Node) : Type 0 where
  pub end : LogEnd
  pub then : LogEnd
  pub long : end.length ≡ old.length
  pub ends : end.chain.state ≡ old.chain
  pub rewritten : IsPerhapsRewritten old.machine old.kept end new.kept then
  pub lengthened : new.length ≡ then.length
  pub chained : new.chain ≡ then.chain.state
  pub machine : new.machine ≡ old.machine
  pub left : new.left ≡ old.left
  pub held : new.held ≡ old.held

-- so many times, one after another, the loop went in rounds, and then the log was perhaps written anew
abbrev pub GoesOn : (count : ℕ) → (old new : BetweenRounds Node) → Type 0
GoesOn zero old new = new ≡ old
GoesOn (suc count) old new =
    (between served : BetweenRounds Node) × GoesOn count old between × IsInRounds between served × IsRenewal served new

-- the program went on, until its input ended in the last round
abbrev pub ServesToEnd : BetweenRounds Node → Node → (left keeps holds : Option (List ℕ)) → Type 0
ServesToEnd first new left keeps holds =
    (count : ℕ) × (last : BetweenRounds Node) × GoesOn count first last
    × ServesInRounds HandlesFrame NotesLength last new left keeps holds (Ok None)

-- the program went on, until its loop stopped early in the last round
abbrev pub ServesToStop : BetweenRounds Node → Node → (left keeps holds : Option (List ℕ)) → ServeError → Type 0
ServesToStop first new left keeps holds error =
    (count : ℕ) × (last : BetweenRounds Node) × GoesOn count first last
    × ServesInRounds HandlesFrame NotesLength last new left keeps holds (Err error)

-- the program went on, until it could not exchange its log
abbrev pub ServesToExchange : BetweenRounds Node → (left keeps holds : Option (List ℕ)) → Type 0
ServesToExchange first left keeps holds =
    (count : ℕ) × (last served : BetweenRounds Node) × GoesOn count first last × IsInRounds last served
    × (left ≡ served.left) × (holds ≡ served.held) × IsHalfRewritten served.machine served.kept keeps
