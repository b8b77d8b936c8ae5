-- What the program does with its node, from its start on.
use Rattle.std.proofs.Common.{◌≡◌, ℕ, None, Some, Result, Ok, Err, refl, inl, inr}
use Rattle.deeds.specs.Kept.{FileOfNames}
use Rattle.node.specs.declared.node.Node.{Node}
use Rattle.node_store.specs.declared.end.LogEnd.{LogEnd}
use Rattle.casd.specs.Opening.{HasStarted, IsFailedStart}
use Rattle.casd.specs.Program.{HasRun, HasServed}
use Rattle.casd.specs.declared.fault.Fault.{Fault}
use Rattle.casd.specs.declared.fault.Fault.TheVariants as faults
use Rattle.casd.proofs.CutLemmas.{Known}
use Rattle.casd.proofs.SessionLemmas.{at}

-- a start that fails
pub no_run : (T : Type 0) (names : FileOfNames) (number : ℕ) (found kept input held : Known) (new : Node) (keeps : Known)
    (fault : Fault) → IsFailedStart names number found kept keeps fault →
    HasRun {T = T} names number found kept input held new keeps held (Err fault)
no_run T names number None kept input held new keeps (faults.Ended error) failed = absurd failed
no_run T names number (Some disk) kept input held new keeps (faults.Ended error) failed = absurd failed.0
no_run T names number found kept input held new keeps (faults.NotExchanged error) failed = inr (failed, refl)
no_run T names number found kept input held new keeps faults.NoMemory failed = inr (failed, refl)
no_run T names number found kept input held new keeps _ failed = (failed, refl)

-- a start, and no memory behind it
pub only_started : (T : Type 0) (names : FileOfNames) (number : ℕ) (found kept input held : Known) (new : Node) (end : LogEnd)
    (keeps : Known) → HasStarted names number found new end keeps →
    HasRun {T = T} names number found kept input held new keeps held (Err faults.NoMemory)
only_started T names number found kept input held new end keeps start = inl (end, start, refl)

-- a start, and a session behind it
pub ran : (T : Type 0) (names : FileOfNames) (number : ℕ) (found before input held : Known) (started new : Node) (end : LogEnd)
    (kept left keeps holds : Known) (r : Result T Fault) → HasStarted names number found started end kept →
    HasServed (at end started input kept held) new left keeps holds r →
    HasRun names number found before input held new keeps holds r
ran T names number found before input held started new end kept left keeps holds (Ok done) start served =
    (started, end, kept, left, start, served)
ran T names number found before input held started new end kept left keeps holds (Err (faults.Ended error)) start served =
    (started, end, kept, left, start, served)
ran T names number found before input held started new end kept left keeps holds (Err (faults.NotExchanged error)) start
    served = inl (started, end, kept, left, start, served)
ran T names number found before input held started new end kept left keeps holds (Err _) start served = absurd served
