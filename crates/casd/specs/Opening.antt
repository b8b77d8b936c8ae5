-- The contracts that docs/trusted.md lists do not depend on this file; other contracts and proofs do.
-- How the program starts its node, and how it writes its log anew.
use Rattle.std.specs.Prelude.{◌≡◌, ◌≤◌, ◌⊎◌, ◌+◌, ◌-◌, ◌^◌, ℕ, List, length, min, take, Option, Some, None}
use Rattle.std.specs.Prelude.{Result, Ok, Err, ⊤}
use Rattle.std.specs.List.{AllByRecursion, FoldsTo}
use Rattle.recoveries.specs.Records.{IsStarted}
use Rattle.deeds.specs.Kept.{FileOfNames}
use Rattle.node_keeper.specs.Keeping.{kept_of}
use Rattle.node_strings.specs.Strings.{Strings}
use Rattle.node.specs.Recovering.{CarriesOutEntry}
use Rattle.node.specs.Starts.{CanBeNamed, IsNotStarted, start_entries}
use Rattle.node.specs.declared.node.Node.{Node}
use Rattle.node_effects.specs.declared.error.NodeError.TheVariants as errors
use Rattle.node_log.specs.Entry.{IsOldHead}
use Rattle.node_log.specs.Reading.{HadLeft}
use Rattle.node_store.specs.Disk.{IsFrontOf}
use Rattle.node_store.specs.Recovery.{HasRecovered, IsWholeEntry, log_bytes}
use Rattle.node_store.specs.declared.end.LogEnd.{LogEnd}
use Rattle.node_store.specs.declared.error.StoreError.{StoreError}
use Rattle.processes.specs.Programs.{IsBegun, IsHalfRewritten, IsNewAndIdle, IsPartlyBegun, IsPartlyCut}
use Rattle.processes.specs.Programs.{IsPerhapsRewritten, IsStart, IsStoppedAt, StartStage}
use Rattle.casd.specs.Fault.{IsStartFault}
use Rattle.casd.specs.declared.fault.Fault.{Fault}
use Rattle.casd.specs.declared.fault.Fault.TheVariants as faults

-- The parts of a start

-- a log of these bytes has an older form: they begin with a head of such a form
abbrev pub HasOldForm : (disk : List ℕ) → Type 0
HasOldForm disk = IsOldHead (take 16 disk)

-- the first bytes of a log were read, and it has no older form; or it has one; or it could not be read, or there was no
-- memory
abbrev pub HasReadForm : {T : Type 0} → (found : Option (List ℕ)) → Result T Fault → Type 0
HasReadForm found (Ok done) = HadLeft (λ disk. HasOldForm disk → ⊥) found
HasReadForm found (Err faults.OldForm) = HadLeft HasOldForm found
HasReadForm found (Err (faults.Unopened error)) = ⊤
HasReadForm found (Err faults.NoMemory) = ⊤
HasReadForm found (Err _) = ⊥

-- the node carried out the entries of a log again, up to its end, which is the result; or up to the byte where reading
-- stopped, for the reason that the error names; or the log could not be read, or there was no memory
abbrev pub HasReadLog : (old new : Node) → (found : Option (List ℕ)) → Result LogEnd Fault → Type 0
HasReadLog old new found (Ok end) = HasRecovered CarriesOutEntry old new found (Ok end)
HasReadLog old new found (Err (faults.BadLog error)) = HasRecovered CarriesOutEntry old new found (Err error)
HasReadLog old new found (Err (faults.Unopened error)) = ⊤
HasReadLog old new found (Err faults.NoMemory) = ⊤
HasReadLog old new found (Err _) = ⊥

-- a log, which had the bytes `written`, was cut behind so many of them and keeps these; or it was not, or not for sure
abbrev pub HasCut : {T : Type 0} → (count : ℕ) → (written kept keeps : Option (List ℕ)) → Result T Fault → Type 0
HasCut count written kept keeps (Ok done) = IsFrontOf count written keeps
HasCut count written kept keeps (Err (faults.Unopened error)) =
    (disk : List ℕ) → written ≡ Some disk → count ≤ length disk → IsPartlyCut count disk kept keeps
HasCut count written kept keeps (Err (faults.LogLost error)) =
    (disk : List ℕ) → written ≡ Some disk → count ≤ length disk → IsPartlyCut count disk kept keeps
HasCut count written kept keeps (Err _) = ⊥

-- the log, which kept these bytes up to this end, was perhaps written anew, and the new end is the result; or it is not
-- known whether it was
abbrev pub HasWrittenAnew : Node → (old : Option (List ℕ)) → LogEnd → (new : Option (List ℕ)) → Result LogEnd Fault →
    Type 0
HasWrittenAnew node old end new (Ok then) = IsPerhapsRewritten node old end new then
HasWrittenAnew node old end new (Err (faults.NotExchanged error)) = IsHalfRewritten node old new
HasWrittenAnew node old end new (Err _) = ⊥

-- the node was started, and the log has the entries of the start up to the end that is the result, which counts their
-- bytes up to 2^64 - 1; or the node was not started, for this reason; or it was, and the log perhaps has a front of the
-- entries
abbrev pub HasBegun : (old new : Node) → LogEnd → (kept keeps : Option (List ℕ)) → Result LogEnd Fault → Type 0
HasBegun old new end kept keeps (Ok then) = IsBegun old new end.chain.state then.chain.state kept keeps
    × (then.length ≡ min (end.length + length (log_bytes end.chain.state (start_entries old))) (2 ^ 64 - 1))
HasBegun old new end kept keeps (Err (faults.Stopped error)) =
    IsNotStarted old.keeper.digest old.keeper.ids error × (keeps ≡ kept)
HasBegun old new end kept keeps (Err (faults.LogLost error)) = IsPartlyBegun old new end.chain.state kept keeps
HasBegun old new end kept keeps (Err _) = ⊥

-- A start

-- the program started with a log of which nothing is known: a new node of this number carried out some entries, and was
-- then started, which changed nothing at its desk
pub record IsUnknownStart (names : FileOfNames) (number : ℕ) (node : Node) : Type 0 where
  pub new : Node
  pub copy : Node
  pub entries : List Strings
  pub is_new : IsNewAndIdle names number new
  pub whole : AllByRecursion IsWholeEntry entries
  pub carried : FoldsTo CarriesOutEntry new entries copy
  pub named : CanBeNamed copy
  pub started : IsStarted (kept_of copy.keeper) (kept_of node.keeper)
  pub desk : node.desk ≡ copy.desk

-- this is the number of the bytes, which are known; or 2^64 - 1, if there are more
abbrev pub IsCountOf : Option (List ℕ) → (count : ℕ) → Type 0
IsCountOf known count = (bytes : List ℕ) × (known ≡ Some bytes) × (count ≡ min (length bytes) (2 ^ 64 - 1))

-- the program started with these bytes of a log, if they are known, which has no older form; the log then keeps those
-- bytes up to this end
abbrev pub HasStarted : FileOfNames → (number : ℕ) → (found : Option (List ℕ)) → Node → LogEnd
    → (keeps : Option (List ℕ)) → Type 0
HasStarted names number (Some disk) node end keeps =
    (HasOldForm disk → ⊥) × IsStart names number disk node end.chain.state keeps × IsCountOf keeps end.length
HasStarted names number None node end keeps = IsUnknownStart names number node

-- What the log keeps if a start fails with this fault, in which these bytes were found, and which kept those. If it was
-- not carried out again, it was not changed. If the node had no more epoch, it was cut. It may be that it was not cut,
-- not written anew, or has no entries of the start.
abbrev pub LeavesLog : FileOfNames → (number : ℕ) → (disk : List ℕ) → (kept keeps : Option (List ℕ)) → Fault → Type 0
LeavesLog names number disk kept keeps faults.OldForm =
    IsStoppedAt StartStage.Reading names number disk kept keeps
LeavesLog names number disk kept keeps (faults.BadLog error) =
    IsStoppedAt StartStage.Reading names number disk kept keeps
LeavesLog names number disk kept keeps faults.NoMemory =
    IsStoppedAt StartStage.Reading names number disk kept keeps
LeavesLog names number disk kept keeps (faults.Unopened error) =
    IsStoppedAt StartStage.Reading names number disk kept keeps
    ⊎ IsStoppedAt StartStage.Cutting names number disk kept keeps
LeavesLog names number disk kept keeps (faults.LogLost error) =
    IsStoppedAt StartStage.Cutting names number disk kept keeps
    ⊎ IsStoppedAt StartStage.Appending names number disk kept keeps
LeavesLog names number disk kept keeps (faults.NotExchanged error) =
    IsStoppedAt StartStage.Exchanging names number disk kept keeps
LeavesLog names number disk kept keeps (faults.Stopped errors.NoMoreIds) =
    IsStoppedAt StartStage.Asking names number disk kept keeps
LeavesLog names number disk kept keeps (faults.Stopped error) =
    IsStoppedAt StartStage.Starting names number disk kept keeps
LeavesLog names number disk kept keeps _ = ⊥

-- a new node of this number carried out the entries with which these bytes of a log begin, up to the byte that the
-- error names, where reading stopped for the reason that it names
abbrev pub IsBadLog : FileOfNames → (number : ℕ) → (disk : List ℕ) → StoreError → Type 0
IsBadLog names number disk error =
    (new after : Node) × IsNewAndIdle names number new × HasRecovered CarriesOutEntry new after (Some disk) (Err error)

-- What a fault of a start says of the bytes that were found in the log. An older form is named as such, unless the log
-- cannot be read or there is no memory, and it is not changed. Any other fault says that the log has no older form.
abbrev pub IsCauseIn : FileOfNames → (number : ℕ) → (disk : List ℕ) → (kept keeps : Option (List ℕ)) → Fault → Type 0
IsCauseIn names number disk kept keeps faults.OldForm = HasOldForm disk
IsCauseIn names number disk kept keeps (faults.Unopened error) = HasOldForm disk → keeps ≡ kept
IsCauseIn names number disk kept keeps faults.NoMemory = ⊤
IsCauseIn names number disk kept keeps (faults.BadLog error) =
    (HasOldForm disk → ⊥) × IsBadLog names number disk error
IsCauseIn names number disk kept keeps _ = HasOldForm disk → ⊥

-- a start failed with this fault, which has a cause, and the log keeps what the fault says, if the bytes that were
-- found in it are known
abbrev pub IsFailedStart : FileOfNames → (number : ℕ) → (found kept keeps : Option (List ℕ)) → Fault → Type 0
IsFailedStart names number (Some disk) kept keeps fault =
    LeavesLog names number disk kept keeps fault × IsCauseIn names number disk kept keeps fault
IsFailedStart names number None kept keeps fault = IsStartFault fault
