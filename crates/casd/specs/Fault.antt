-- The contracts that docs/trusted.md lists do not depend on this file; other contracts and proofs do.
-- The exit status of each fault, and which faults come from where.
use Rattle.std.specs.Prelude.{◌≡◌, ◌⊎◌, ℕ, Bool, IsTrue, Result, Ok, Err, ⊤}
use Rattle.cluster_file.specs.declared.error.FileError.TheVariants as files
use Rattle.node_store.specs.declared.stop.ServeError.TheVariants as ends
use Rattle.casd.specs.declared.fault.Fault.{Fault}
use Rattle.casd.specs.declared.fault.Fault.TheVariants as faults

-- 2 if the words or the cluster file are wrong, 3 if the log could not be written, synced or exchanged, and 1 for
-- anything else
abbrev pub exit_status_of : Fault → ℕ
exit_status_of faults.NotText = 2
exit_status_of faults.Usage = 2
exit_status_of faults.BadNode = 2
exit_status_of (faults.Unread error) = 2
exit_status_of (faults.BadFile (files.Fault fault)) = 2
exit_status_of (faults.BadFile files.NoMemory) = 1
exit_status_of (faults.NoNode number) = 2
exit_status_of (faults.NoNull error) = 1
exit_status_of faults.NoFolder = 1
exit_status_of faults.InUse = 1
exit_status_of (faults.Unlocked error) = 1
exit_status_of (faults.Unopened error) = 1
exit_status_of faults.OldForm = 1
exit_status_of (faults.BadLog error) = 1
exit_status_of (faults.Stopped error) = 1
exit_status_of (faults.LogLost error) = 3
exit_status_of (faults.NotExchanged error) = 3
exit_status_of (faults.Ended (ends.LogLost error)) = 3
exit_status_of (faults.Ended (ends.NoFrame fault)) = 1
exit_status_of (faults.Ended (ends.NoInput error)) = 1
exit_status_of (faults.Ended (ends.OutputLost error)) = 1
exit_status_of (faults.Ended (ends.Stopped error)) = 1
exit_status_of (faults.OutputLost error) = 1
exit_status_of faults.NoMemory = 1

-- the exit status of a run: 0, or that of its fault
abbrev pub status_of : {T : Type 0} → Result T Fault → ℕ
status_of (Ok done) = 0
status_of (Err fault) = exit_status_of fault

-- a call of the log has failed if the status is 3; if it is another one, this is so only if one had failed before
abbrev pub TellsFailedLog : (old new : Bool) → (status : ℕ) → Type 0
TellsFailedLog old new status = (status ≡ 3 → IsTrue new) × (IsTrue new → IsTrue old ⊎ (status ≡ 3))

-- why the words of the command line cannot be read: one is no text, or there is no memory
abbrev pub IsWordsFault : Fault → Type 0
IsWordsFault faults.NotText = ⊤
IsWordsFault faults.NoMemory = ⊤
IsWordsFault _ = ⊥

-- why the folder cannot be locked
abbrev pub IsLockFault : Fault → Type 0
IsLockFault faults.NoFolder = ⊤
IsLockFault faults.InUse = ⊤
IsLockFault (faults.Unlocked error) = ⊤
IsLockFault _ = ⊥

-- why the log cannot be opened: its folder cannot be locked, the system fails, or there is no memory
abbrev pub IsOpenFault : Fault → Type 0
IsOpenFault faults.NoFolder = ⊤
IsOpenFault faults.InUse = ⊤
IsOpenFault (faults.Unlocked error) = ⊤
IsOpenFault (faults.Unopened error) = ⊤
IsOpenFault faults.NoMemory = ⊤
IsOpenFault _ = ⊥

-- the program found that it must not use this log
abbrev pub IsRefusal : Fault → Type 0
IsRefusal faults.OldForm = ⊤
IsRefusal (faults.BadLog error) = ⊤
IsRefusal _ = ⊥

-- why the log is not carried out again: the program must not use it, the system fails, or there is no memory
abbrev pub IsReadFault : Fault → Type 0
IsReadFault (faults.Unopened error) = ⊤
IsReadFault faults.NoMemory = ⊤
IsReadFault fault = IsRefusal fault

-- why a start fails: the log is not carried out again, cut, exchanged or written; or the node cannot start
abbrev pub IsStartFault : Fault → Type 0
IsStartFault (faults.Stopped error) = ⊤
IsStartFault (faults.LogLost error) = ⊤
IsStartFault (faults.NotExchanged error) = ⊤
IsStartFault fault = IsReadFault fault
