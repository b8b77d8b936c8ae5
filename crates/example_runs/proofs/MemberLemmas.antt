-- A start of one process of a run is one of its process.
use Rattle.std.proofs.Common.{◌≡◌, ◌≤◌, ℕ, List, [], ◌++◌, length, take, None, Some, Ok}
use Rattle.std.proofs.Common.{refl, sym, subst, ap, ◌∙◌, append-nil, arith}
use Rattle.std.proofs.lemmas.List.{take_all}
use Rattle.cluster_file.specs.File.{FileContents}
use Rattle.deeds.specs.Kept.{FileOfNames}
use Rattle.node.specs.Recovering.{CarriesOutEntry}
use Rattle.node.specs.Starts.{start_entries}
use Rattle.node.specs.declared.node.Node.{Node}
use Rattle.node_keeper.specs.Keeping.{names_of}
use Rattle.node_log.specs.Entry.{first_chain}
use Rattle.node_store.specs.Laws.{IsLeft, LeftLogIsRead}
use Rattle.node_store.specs.Recovery.{HasRecovered, log_bytes}
use Rattle.node_store.specs.declared.end.LogEnd.{LogEnd}
use Rattle.processes.specs.Events.{ProcessEvent, started_process}
use Rattle.processes.specs.Processes.{Process, Processes}
use Rattle.processes.specs.Programs.{IsNewAndIdle, IsStart}
use Rattle.processes.specs.Runs.{AreReached}
use Rattle.processes.proofs.LogLemmas.{some_is}
use Rattle.processes.proofs.ProgramLemmas.{started_so}
use Rattle.example_runs.specs.Members.{HasBegun, HasStarted}
use Rattle.example_runs.specs.Reached.{IsAt}
use Rattle.example_runs.specs.declared.members.Member.{Member}
use Rattle.example_runs.proofs.GoingLemmas.{Goes, goes_as, goes_on, goes_once}

-- a new node carried out the log, and was started
pub has_started : (file : FileContents) (number : ℕ) (new copy : Node) (end : LogEnd) (old between after : Member) →
    old.node ≡ None → between ≡ old → IsNewAndIdle (names_of file) number new →
    HasRecovered CarriesOutEntry new copy (Some old.log.items) (Ok end) → HasBegun copy end between after →
    HasStarted file number old after
has_started file number new copy end old between after stopped same is_new recovered begun = record {
  stopped = stopped;
  node = begun.node;
  runs = begun.runs;
  start = record {
    new = new;
    copy = copy;
    end = end;
    then = end;
    anew = None;
    kept = Some (take end.length old.log.items);
    is_new = is_new;
    recovered = recovered;
    renewed = tt;
    rewritten = (refl, refl);
    named = begun.named;
    started = begun.started;
    desk = begun.desk;
    appended = begun.log ∙ ap (λ (m : Member). take end.length m.log.items ++ log_bytes end.chain.state (start_entries copy)) same;
    chained = begun.chain;
  };
}

-- all of a synced log is left of it
all_left : (process : Process) → process.synced ≡ length process.log →
    IsLeft process.log process.synced (log_bytes first_chain process.log)
all_left process synced = record {
  front = log_bytes first_chain process.log;
  more = [];
  lost = [];
  zeros = 0;
  kept = ap (log_bytes first_chain) (sym (take_all process.synced process.log (omega arith)))
      ∙ sym (append-nil (log_bytes first_chain (take process.synced process.log)));
  all = sym (append-nil (log_bytes first_chain process.log));
  disk_is = sym (append-nil (log_bytes first_chain process.log));
}

-- a process of the run, as which this one of it is, is started, and its log is synced
pub started_goes : LeftLogIsRead → (processes : Processes) (reached : AreReached processes) (file : FileContents) →
    reached.names ≡ names_of file → (number : ℕ) (old new : Member) → IsAt (processes.at number) old →
    HasStarted file number old new →
    (process : Process) × Goes reached.names number processes process [] [] × IsAt process new
started_goes law processes reached file same number old new at started =
    let names = reached.names in
    let process = processes.at number in
    let node = started.node in
    let so = started_so law processes reached number old.log.items node new.chain.state (Some new.log.items)
    (at.runs ∙ started.stopped)
    (subst (λ (disk : List ℕ). IsLeft process.log process.synced disk) (sym at.bytes) (all_left process at.synced))
    (subst (λ (ns : FileOfNames). IsStart ns number old.log.items node new.chain.state (Some new.log.items)) (sym same)
    started.start) in
    let event = ProcessEvent.Starts number so.read so.anew so.new so.copy node in
    let after = started_process process so.read so.anew so.copy node in
    let first : Goes names number processes after [] [] = goes_once names number processes event refl so.may so.idle in
    let count = length after.log in
    let within : ((first.to.at number).synced ≤ count) × (count ≤ length (first.to.at number).log) =
    subst (λ (p : Process). (p.synced ≤ count) × (count ≤ length p.log)) (sym first.own) (so.sound.fits, omega arith) in
    let last : Process = record after { synced = count } in
    let second : Goes names number first.to last [] [] =
    goes_as names number first.to (record (first.to.at number) { synced = count }) last [] []
    (ap (λ (p : Process). record p { synced = count }) first.own)
    (goes_once names number first.to (ProcessEvent.Syncs number count) refl within tt) in (
      last,
      goes_on names number processes after last [] [] [] [] first second,
      record {
        runs = sym started.runs;
        synced = refl;
        told = refl;
        bytes = some_is new.log.items (log_bytes first_chain after.log) so.bytes;
        chained = so.chained;
      },
    )
