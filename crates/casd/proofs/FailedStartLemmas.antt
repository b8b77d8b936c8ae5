-- What the log keeps if a start of the program fails.
use Rattle.std.proofs.Common.{◌≡◌, ℕ, List, take, None, Some, Result, Ok, Err, IfOk, IfErr, refl, sym, subst, inl, inr}
use Rattle.deeds.specs.Kept.{FileOfNames}
use Rattle.node.specs.Recovering.{CarriesOutEntry}
use Rattle.node.specs.Starts.{HasMoreEpochs}
use Rattle.node.specs.declared.node.Node.{Node}
use Rattle.node_effects.specs.declared.error.NodeError.{NodeError}
use Rattle.node_effects.specs.declared.error.NodeError.TheVariants as errors
use Rattle.node_store.specs.Disk.{IsFrontOf}
use Rattle.node_store.specs.Recovery.{HasRecovered}
use Rattle.node_store.specs.declared.end.LogEnd.{LogEnd}
use Rattle.processes.specs.Programs.{IsHalfRewritten, IsNewAndIdle, IsPerhapsRewritten, IsStoppedAt, StartStage}
use Rattle.casd.specs.Fault.{IsReadFault, IsRefusal, IsStartFault}
use Rattle.casd.specs.Opening.{HasBegun, HasCut, HasReadForm, HasReadLog, HasStarted, HasWrittenAnew, IsFailedStart, LeavesLog}
use Rattle.casd.specs.declared.fault.Fault.{Fault}
use Rattle.casd.specs.declared.fault.Fault.TheVariants as faults
use Rattle.casd.proofs.CutLemmas.{Known}
use Rattle.casd.proofs.FormLemmas.{HasNoOldForm}
use Rattle.casd.proofs.StartLemmas.{started, within_log}

pub read_starts : (fault : Fault) → IsReadFault fault → IsStartFault fault
read_starts faults.OldForm is = tt
read_starts (faults.BadLog error) is = tt
read_starts (faults.Unopened error) is = tt
read_starts faults.NoMemory is = tt
read_starts _ is = absurd is

-- what the log keeps, whatever the cause of the fault is
abbrev Leaves : FileOfNames → (number : ℕ) → (found kept keeps : Known) → Fault → Type 0
Leaves names number (Some disk) kept keeps fault = LeavesLog names number disk kept keeps fault
Leaves names number None kept keeps fault = IsStartFault fault

-- a start that failed after the log was read, which has no older form
pub told : (names : FileOfNames) (number : ℕ) (found kept keeps : Known) (fault : Fault) → HasNoOldForm found →
    (IsRefusal fault → ⊥) → Leaves names number found kept keeps fault → IsFailedStart names number found kept keeps fault
told names number None kept keeps fault form kind leaves = leaves
told names number (Some disk) kept keeps faults.OldForm form kind leaves = absurd (kind tt)
told names number (Some disk) kept keeps (faults.BadLog error) form kind leaves = absurd (kind tt)
told names number (Some disk) kept keeps (faults.Unopened error) form kind leaves = (leaves, λ old. absurd (form old))
told names number (Some disk) kept keeps faults.NoMemory form kind leaves = (leaves, tt)
told names number (Some disk) kept keeps _ form kind leaves = (leaves, form)

-- the form of the log was not read, or is an older one
pub unread : (T : Type 0) (names : FileOfNames) (number : ℕ) (found kept : Known) (fault : Fault) →
    HasReadForm {T = T} found (Err fault) → IsFailedStart names number found kept kept fault
unread T names number None kept faults.OldForm form = tt
unread T names number None kept (faults.Unopened error) form = tt
unread T names number None kept faults.NoMemory form = tt
unread T names number None kept _ form = absurd form
unread T names number (Some disk) kept faults.OldForm form = (refl, form)
unread T names number (Some disk) kept (faults.Unopened error) form = (inl refl, λ old. refl)
unread T names number (Some disk) kept faults.NoMemory form = (refl, tt)
unread T names number (Some disk) kept _ form = absurd form

-- the log was not carried out again, and not changed
pub unrecovered : (names : FileOfNames) (number : ℕ) (found kept : Known) (new after : Node) (fault : Fault) →
    IsNewAndIdle names number new → HasNoOldForm found → HasReadLog new after found (Err fault) →
    IsFailedStart names number found kept kept fault
unrecovered names number None kept new after (faults.BadLog error) is_new form read = tt
unrecovered names number None kept new after (faults.Unopened error) is_new form read = tt
unrecovered names number None kept new after faults.NoMemory is_new form read = tt
unrecovered names number None kept new after _ is_new form read = absurd read
unrecovered names number (Some disk) kept new after (faults.BadLog error) is_new form read =
    (refl, (form, (new, after, is_new, read)))
unrecovered names number (Some disk) kept new after (faults.Unopened error) is_new form read = (inl refl, λ old. refl)
unrecovered names number (Some disk) kept new after faults.NoMemory is_new form read = (refl, tt)
unrecovered names number (Some disk) kept new after _ is_new form read = absurd read

-- the log was not cut, or not for sure
pub uncut : (T : Type 0) (names : FileOfNames) (number : ℕ) (found kept keeps : Known) (new copy : Node) (end : LogEnd)
    (fault : Fault) → IsNewAndIdle names number new → HasRecovered CarriesOutEntry new copy found (Ok end) →
    HasCut {T = T} end.length found kept keeps (Err fault) → Leaves names number found kept keeps fault
uncut T names number None kept keeps new copy end (faults.Unopened error) is_new recovered cut = tt
uncut T names number None kept keeps new copy end (faults.LogLost error) is_new recovered cut = tt
uncut T names number None kept keeps new copy end _ is_new recovered cut = absurd cut
uncut T names number (Some disk) kept keeps new copy end (faults.Unopened error) is_new recovered cut = inr (
  copy,
  end,
  record { new = new; is_new = is_new; recovered = recovered },
  cut disk refl (within_log new copy disk end recovered),
)
uncut T names number (Some disk) kept keeps new copy end (faults.LogLost error) is_new recovered cut = inl (
  copy,
  end,
  record { new = new; is_new = is_new; recovered = recovered },
  cut disk refl (within_log new copy disk end recovered),
)
uncut T names number (Some disk) kept keeps new copy end _ is_new recovered cut = absurd cut

-- the node has no more epoch, so the log is as it was cut
pub unasked : (names : FileOfNames) (number : ℕ) (found kept keeps : Known) (new copy : Node) (end : LogEnd) →
    IsNewAndIdle names number new → HasRecovered CarriesOutEntry new copy found (Ok end) →
    IsFrontOf end.length found keeps → (HasMoreEpochs copy.keeper.ids → ⊥) →
    Leaves names number found kept keeps (faults.Stopped errors.NoMoreIds)
unasked names number None kept keeps new copy end is_new recovered front none = tt
unasked names number (Some disk) kept keeps new copy end is_new recovered front none =
    (copy, end, record { new = new; is_new = is_new; recovered = recovered }, none, front)

-- it is not known whether the log was exchanged
pub unexchanged : (names : FileOfNames) (number : ℕ) (found kept cut keeps : Known) (new copy : Node) (end : LogEnd)
    (fault : Fault) → IsNewAndIdle names number new → HasRecovered CarriesOutEntry new copy found (Ok end) →
    IsFrontOf end.length found cut → HasMoreEpochs copy.keeper.ids → HasWrittenAnew copy cut end keeps (Err fault) →
    Leaves names number found kept keeps fault
unexchanged names number None kept cut keeps new copy end (faults.NotExchanged error) is_new recovered front more half = tt
unexchanged names number None kept cut keeps new copy end _ is_new recovered front more half = absurd half
unexchanged names number (Some disk) kept cut keeps new copy end (faults.NotExchanged error) is_new recovered front more half = (
  copy,
  end,
  record { new = new; is_new = is_new; recovered = recovered },
  more,
  subst (λ (old : Known). IsHalfRewritten copy old keeps) front half,
)
unexchanged names number (Some disk) kept cut keeps new copy end _ is_new recovered front more half = absurd half

-- the node was not started
unstarted : (names : FileOfNames) (number : ℕ) (disk : List ℕ) (kept cut between keeps : Known) (new copy : Node)
    (end then : LogEnd) → IsNewAndIdle names number new → HasRecovered CarriesOutEntry new copy (Some disk) (Ok end) →
    IsFrontOf end.length (Some disk) cut → HasMoreEpochs copy.keeper.ids → IsPerhapsRewritten copy cut end between then →
    keeps ≡ between → IsStoppedAt StartStage.Starting names number disk kept keeps
unstarted names number disk kept cut between keeps new copy end then is_new recovered front more renewed same = (
  copy,
  end,
  then,
  record { new = new; is_new = is_new; recovered = recovered },
  more,
  subst (λ (k : Known). IsPerhapsRewritten copy (Some (take end.length disk)) end k then) (sym same)
      (subst (λ (old : Known). IsPerhapsRewritten copy old end between then) front renewed),
)

-- the node was not started, or the log did not get the entries of the start
pub unbegun : (names : FileOfNames) (number : ℕ) (found kept cut between keeps : Known) (new copy node : Node)
    (end then : LogEnd) (fault : Fault) → IsNewAndIdle names number new →
    HasRecovered CarriesOutEntry new copy found (Ok end) → IsFrontOf end.length found cut → HasMoreEpochs copy.keeper.ids →
    IsPerhapsRewritten copy cut end between then → HasBegun copy node then between keeps (Err fault) →
    Leaves names number found kept keeps fault
unbegun names number None kept cut between keeps new copy node end then (faults.Stopped error) is_new recovered front
    more renewed begun = tt
unbegun names number None kept cut between keeps new copy node end then (faults.LogLost error) is_new recovered front
    more renewed begun = tt
unbegun names number None kept cut between keeps new copy node end then _ is_new recovered front more renewed begun =
    absurd begun
unbegun names number (Some disk) kept cut between keeps new copy node end then (faults.Stopped error) is_new recovered front
    more renewed begun = go error begun
  where
    go : (error : NodeError) → HasBegun copy node then between keeps (Err (faults.Stopped error)) →
        Leaves names number (Some disk) kept keeps (faults.Stopped error)
    go errors.NoMoreIds begun = absurd (begun.0 more)
    go (errors.Refused refusal) begun = absurd begun.0
    go _ begun = unstarted names number disk kept cut between keeps new copy end then is_new recovered front more renewed begun.1
unbegun names number (Some disk) kept cut between keeps new copy node end then (faults.LogLost error) is_new recovered front
    more renewed begun = inr (
      copy,
      node,
      end,
      then,
      between,
      record { new = new; is_new = is_new; recovered = recovered },
      subst (λ (old : Known). IsPerhapsRewritten copy old end between then) front renewed,
      begun,
    )
unbegun names number (Some disk) kept cut between keeps new copy node end then _ is_new recovered front more renewed begun =
    absurd begun

-- the last function of a start, which succeeds or fails
pub begun_starts : (names : FileOfNames) (number : ℕ) (r : Result LogEnd Fault) (found cut kept keeps : Known)
    (new copy node : Node) (end later : LogEnd) → HasNoOldForm found → IsNewAndIdle names number new →
    HasRecovered CarriesOutEntry new copy found (Ok end) → IsFrontOf end.length found cut →
    IsPerhapsRewritten copy cut end kept later → HasBegun copy node later kept keeps r →
    IfOk r (λ last. HasStarted names number found node last keeps)
begun_starts names number (Ok last) found cut kept keeps new copy node end later form is_new recovered front renewed begun =
    started names number found new copy node end later last cut kept keeps form is_new recovered front renewed begun
begun_starts names number (Err fault) found cut kept keeps new copy node end later form is_new recovered front renewed begun = tt

pub begun_fails : (names : FileOfNames) (number : ℕ) (r : Result LogEnd Fault) (found before cut kept keeps : Known)
    (new copy node : Node) (end later : LogEnd) → HasNoOldForm found → IfErr r (λ fault. IsRefusal fault → ⊥) →
    IsNewAndIdle names number new → HasRecovered CarriesOutEntry new copy found (Ok end) → IsFrontOf end.length found cut →
    HasMoreEpochs copy.keeper.ids → IsPerhapsRewritten copy cut end kept later → HasBegun copy node later kept keeps r →
    IfErr r (IsFailedStart names number found before keeps)
begun_fails names number (Ok last) found before cut kept keeps new copy node end later form kind is_new recovered front more
    renewed begun = tt
begun_fails names number (Err fault) found before cut kept keeps new copy node end later form kind is_new recovered front more
    renewed begun = told names number found before keeps fault form kind
    (unbegun names number found before cut kept keeps new copy node end later fault is_new recovered front more renewed begun)
