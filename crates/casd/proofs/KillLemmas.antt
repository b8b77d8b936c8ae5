-- A start of the program, and a rewriting of its log, as events of its process, whatever they return.
use Rattle.std.proofs.Common.{◌≡◌, ℕ, List, [], length, take, None, Some, Result, Ok, Err, IfOk, IfErr}
use Rattle.std.proofs.Common.{refl, sym, subst, ap, ◌∙◌, inl, inr, append-nil, arith}
use Rattle.std.proofs.lemmas.List.{take_all}
use Rattle.std.specs.Io.KnownBytes.{Keeps}
use Rattle.deeds.specs.Kept.{FileOfNames}
use Rattle.node.specs.declared.node.Node.{Node}
use Rattle.node_effects.specs.declared.error.NodeError.TheVariants as errors
use Rattle.node_log.specs.Entry.{chain_behind, first_chain}
use Rattle.node_store.specs.Laws.{IsLeft}
use Rattle.node_store.specs.Recovery.{log_bytes}
use Rattle.node_store.specs.declared.end.LogEnd.{LogEnd}
use Rattle.node_strings.specs.Strings.{Strings}
use Rattle.processes.specs.Loops.{HaveEvents, IsBetweenRounds}
use Rattle.processes.specs.Processes.{Process, Processes}
use Rattle.processes.specs.Programs.{IsNewAndIdle, IsStoppedStart, RewritesAreEvents, StartStage, StartsAreEvents}
use Rattle.processes.specs.Runs.{AreReached}
use Rattle.processes.specs.StoppedStarts.{IsStoppedWith, StoppedStartsAreEvents}
use Rattle.casd.specs.Kills.{IsAfterRewriting, IsAfterStart, IsLeftOf, LeavesRewriting, LeavesStart, MayBeStarted}
use Rattle.casd.specs.Opening.{HasStarted, HasWrittenAnew, IsFailedStart, LeavesLog}
use Rattle.casd.specs.declared.fault.Fault.{Fault}
use Rattle.casd.specs.declared.fault.Fault.TheVariants as faults
use Rattle.casd.proofs.CutLemmas.{Known}

-- what holds after some events holds as it is told otherwise
pub told_otherwise : (names : FileOfNames) (number : ℕ) (processes : Processes) (P Q : (written : List ℕ) → Process → Type 0) →
    ((written : List ℕ) (process : Process) → P written process → Q written process) →
    HaveEvents names number processes P → HaveEvents names number processes Q
told_otherwise names number processes P Q weaker have =
    record { events = have.events; own = have.own; may = have.may; programs = have.programs; holds = weaker _ _ have.holds }

-- a stop may leave the whole log of a process that rests
pub rests_left : (process : Process) (node : Node) (chain : ℕ) (keeps : Known) →
    IsBetweenRounds process node chain keeps → IsLeftOf process keeps
rests_left process node chain keeps rests = (
  log_bytes first_chain process.log,
  rests.bytes,
  record {
    front = log_bytes first_chain process.log;
    more = [];
    lost = [];
    zeros = 0;
    kept = ap (λ (es : List Strings). log_bytes first_chain es)
        (sym (take_all process.synced process.log (let all = rests.synced in omega (arith, all))))
        ∙ sym (append-nil (log_bytes first_chain (take process.synced process.log)));
    all = sym (append-nil (log_bytes first_chain process.log));
    disk_is = sym (append-nil (log_bytes first_chain process.log));
  },
)

-- A start

-- a start that failed has come to a stage
failed_at : (names : FileOfNames) (number : ℕ) (disk : List ℕ) (kept keeps : Known) (fault : Fault) →
    LeavesLog names number disk kept keeps fault → IsStoppedStart names number disk kept keeps
failed_at names number disk kept keeps faults.OldForm is = (StartStage.Reading, is)
failed_at names number disk kept keeps (faults.BadLog error) is = (StartStage.Reading, is)
failed_at names number disk kept keeps faults.NoMemory is = (StartStage.Reading, is)
failed_at names number disk kept keeps (faults.Unopened error) (inl is) = (StartStage.Reading, is)
failed_at names number disk kept keeps (faults.Unopened error) (inr is) = (StartStage.Cutting, is)
failed_at names number disk kept keeps (faults.LogLost error) (inl is) = (StartStage.Cutting, is)
failed_at names number disk kept keeps (faults.LogLost error) (inr is) = (StartStage.Appending, is)
failed_at names number disk kept keeps (faults.NotExchanged error) is = (StartStage.Exchanging, is)
failed_at names number disk kept keeps (faults.Stopped errors.NoMoreIds) is = (StartStage.Asking, is)
failed_at names number disk kept keeps (faults.Stopped errors.NoMemory) is = (StartStage.Starting, is)
failed_at names number disk kept keeps (faults.Stopped errors.Unwritable) is = (StartStage.Starting, is)
failed_at names number disk kept keeps (faults.Stopped (errors.Refused refusal)) is = (StartStage.Starting, is)
failed_at names number disk kept keeps _ is = absurd is

-- a start that succeeded, at bytes that a stop may have left
pub good_start : StartsAreEvents → (processes : Processes) (reached : AreReached processes) (number : ℕ)
    (found kept : Known) (new : Node) (end : LogEnd) (keeps : Known) → MayBeStarted (processes.at number) found kept →
    HasStarted reached.names number found new end keeps →
    HaveEvents reached.names number processes (λ written process. (written ≡ []) × IsBetweenRounds process new end.chain.state keeps)
good_start law processes reached number None kept new end keeps ((stopped, (disk, is, left)), before, more) start =
    absurd (cc)
good_start law processes reached number (Some bytes) kept new end keeps ((stopped, (disk, is, left)), before, more) start =
    let same : disk ≡ bytes = cc in
    law processes reached number bytes new end.chain.state keeps stopped
    (subst (IsLeft (processes.at number).log (processes.at number).synced) same left) start.1

-- a start that failed
pub bad_start : StoppedStartsAreEvents → (processes : Processes) (reached : AreReached processes) (number : ℕ)
    (found kept keeps : Known) (fault : Fault) → MayBeStarted (processes.at number) found kept →
    IsFailedStart reached.names number found kept keeps fault →
    HaveEvents reached.names number processes (λ written process. (written ≡ []) × IsStoppedWith process keeps)
bad_start law processes reached number found kept keeps fault may failed = go found kept may failed
  where
    log : List Strings
    log = (processes.at number).log

    synced : ℕ
    synced = (processes.at number).synced

    go : (found kept : Known) → MayBeStarted (processes.at number) found kept →
        IsFailedStart reached.names number found kept keeps fault →
        HaveEvents reached.names number processes (λ written process. (written ≡ []) × IsStoppedWith process keeps)
    go None kept ((stopped, (disk, is, left)), before, more) failed = absurd (cc)
    go found None (at, (stopped, (before, is, left)), more) failed = absurd (cc)
    go (Some disk) (Some before) ((stopped, (bytes, is, left)), (still, (others, same, held)), fronts) failed =
        let e : bytes ≡ disk = cc in
        let f : others ≡ before = cc in
        law processes reached number disk before keeps stopped (subst (IsLeft log synced) e left)
        (subst (IsLeft log synced) f held) fronts
        (failed_at reached.names number disk (Some before) keeps fault failed.0)

-- whatever a start returned
pub start_leaves : StartsAreEvents → StoppedStartsAreEvents → (old : Node) (found kept : Known) (new : Node) (keeps : Known)
    (result : Result LogEnd Fault) →
    ((names : FileOfNames) (number : ℕ) → IsNewAndIdle names number old →
    IfOk result (λ end. HasStarted names number found new end keeps)) →
    ((names : FileOfNames) (number : ℕ) → IsNewAndIdle names number old →
    IfErr result (IsFailedStart names number found kept keeps)) → LeavesStart old found kept new keeps result
start_leaves law other old found kept new keeps (Ok end) starts fails processes reached number is_new may =
    told_otherwise reached.names number processes
    (λ written process. (written ≡ []) × IsBetweenRounds process new end.chain.state keeps)
    (λ written process. (written ≡ []) × IsLeftOf process keeps × IsAfterStart new keeps (Ok end) process)
    (λ written process at. (at.0, rests_left process new end.chain.state keeps at.1, at.1))
    (good_start law processes reached number found kept new end keeps may (starts reached.names number is_new))
start_leaves law other old found kept new keeps (Err fault) starts fails processes reached number is_new may =
    told_otherwise reached.names number processes
    (λ written process. (written ≡ []) × IsStoppedWith process keeps)
    (λ written process. (written ≡ []) × IsLeftOf process keeps × IsAfterStart new keeps (Err fault) process)
    (λ written process at. (at.0, at.1.1, at.1.0))
    (bad_start other processes reached number found kept keeps fault may (fails reached.names number is_new))

-- A rewriting

-- nothing happens
stays : (names : FileOfNames) (number : ℕ) (processes : Processes) (Holds : (written : List ℕ) → Process → Type 0) →
    Holds [] (processes.at number) → HaveEvents names number processes Holds
stays names number processes Holds holds = record { events = []; own = tt; may = tt; programs = tt; holds = holds }

-- bytes that stay known are the same
kept_same : (old new : Known) (bytes : List ℕ) → old ≡ Some bytes → Keeps old new → new ≡ old
kept_same None new bytes known keeps = absurd (cc)
kept_same (Some xs) None bytes known keeps = absurd keeps
kept_same (Some xs) (Some ys) bytes known keeps = ap Some keeps

-- where the log ends that has these entries alone
abbrev end_of : List Strings → LogEnd
end_of entries = record {
  length = length (log_bytes first_chain entries);
  chain = record { state = chain_behind first_chain entries };
}

-- whatever a rewriting returned
pub rewriting_leaves : RewritesAreEvents → (node : Node) (kept keeps : Known) (end : LogEnd) (result : Result LogEnd Fault) →
    HasWrittenAnew node kept end keeps result → LeavesRewriting node end.chain.state kept keeps result
rewriting_leaves law node kept keeps end (Ok then) (None, are, (same, here)) names number processes rests =
    let resting = subst (λ (e : LogEnd). IsBetweenRounds (processes.at number) node e.chain.state keeps) (sym here)
    (subst (IsBetweenRounds (processes.at number) node end.chain.state) (sym same) rests) in
    stays names number processes
    (λ written process. (written ≡ []) × IsLeftOf process keeps × IsAfterRewriting node keeps (Ok then) process)
    (refl, rests_left (processes.at number) node then.chain.state keeps resting, resting)
rewriting_leaves law node kept keeps end (Ok then) (Some entries, are, (becomes, ends)) names number processes rests =
    told_otherwise names number processes
    (λ written process. (written ≡ []) × IsBetweenRounds process node then.chain.state keeps)
    (λ written process. (written ≡ []) × IsLeftOf process keeps × IsAfterRewriting node keeps (Ok then) process)
    (λ written process at. (at.0, rests_left process node then.chain.state keeps at.1, at.1))
    (law names number processes node end.chain.state kept keeps entries then rests are becomes ends)
rewriting_leaves law node kept keeps end (Err (faults.NotExchanged error)) (entries, are, inl same) names number processes rests =
    let resting = subst (IsBetweenRounds (processes.at number) node end.chain.state)
    (sym (kept_same kept keeps _ rests.bytes same)) rests in
    stays names number processes
    (λ written process. (written ≡ []) × IsLeftOf process keeps
    × IsAfterRewriting node keeps (Err (faults.NotExchanged error)) process)
    (refl, rests_left (processes.at number) node end.chain.state keeps resting, (end.chain.state, resting))
rewriting_leaves law node kept keeps end (Err (faults.NotExchanged error)) (entries, are, inr becomes) names number processes
    rests =
    let then = end_of entries in
    told_otherwise names number processes
    (λ written process. (written ≡ []) × IsBetweenRounds process node then.chain.state keeps)
    (λ written process. (written ≡ []) × IsLeftOf process keeps
    × IsAfterRewriting node keeps (Err (faults.NotExchanged error)) process)
    (λ written process at. (at.0, rests_left process node then.chain.state keeps at.1, (then.chain.state, at.1)))
    (law names number processes node end.chain.state kept keeps entries then rests are becomes
    (record { long = refl; chained = refl }))
rewriting_leaves law node kept keeps end (Err _) written names number processes rests = absurd written
