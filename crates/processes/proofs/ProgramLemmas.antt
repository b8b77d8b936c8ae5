-- A start and a rewriting of a node program are lists of events of its process.
use Rattle.std.proofs.Common.{◌≡◌, ◌≤◌, ◌+◌, ℕ, List, [], ◌∷◌, ◌++◌, length, take, Option, None, Some}
use Rattle.std.proofs.Common.{refl, sym, subst, ap, ◌∙◌, append_assoc, append-nil, length-append, arith}
use Rattle.std.specs.List.{AllByRecursion, FoldsTo}
use Rattle.std.specs.Io.KnownBytes.{Appends, Keeps}
use Rattle.deeds.specs.Kept.{FileOfNames}
use Rattle.node_clients.specs.Desk.{NoneWaits}
use Rattle.node_log.specs.Entry.{chain_behind, first_chain}
use Rattle.node_strings.specs.Strings.{Strings}
use Rattle.node.specs.Anew.{CarriesOutAll}
use Rattle.node.specs.Recovering.{CarriesOutEntry}
use Rattle.node.specs.Starts.{start_entries}
use Rattle.node.specs.declared.node.Node.{Node}
use Rattle.node_store.specs.Laws.{IsLeft, LeftLogIsRead}
use Rattle.node_store.specs.Recovery.{log_bytes}
use Rattle.node_store.specs.Rewriting.{Becomes, IsEndOf}
use Rattle.node_store.specs.declared.end.LogEnd.{LogEnd}
use Rattle.node_store.proofs.LogBytesLemmas.{bytes_then, chain_then}
use Rattle.processes.specs.Events.{MayStart, ProcessEvent, found_log, processes_after, rewritten_process, started_process}
use Rattle.processes.specs.Loops.{HaveEvents, IsBetweenRounds}
use Rattle.processes.specs.Processes.{Process, Processes, new_process, new_processes}
use Rattle.processes.specs.Programs.{IsRewrittenIf, IsStart, RewritesAreEvents, StartsAreEvents}
use Rattle.processes.specs.Runs.{AreReached, MayAllHappenTo, processes_run}
use Rattle.processes.proofs.LeadLemmas.{LeadsTo, leads_on, leads_once, own_process}
use Rattle.processes.proofs.ReadLogLemmas.{read_first, started_whole}
use Rattle.processes.proofs.RoundLawLemmas.{have_events, log_grows}
use Rattle.processes.proofs.SafeLogLemmas.{all_whole_after}
use Rattle.processes.proofs.StandingLemmas.{HasWholeLog}

-- the logs of processes that are reached are whole
whole_run : LeftLogIsRead → (names : FileOfNames) (events : List ProcessEvent) (processes : Processes) →
    MayAllHappenTo names events processes → ((number : ℕ) → HasWholeLog (processes.at number)) → (number : ℕ) →
    HasWholeLog ((processes_run events processes).at number)
whole_run law names [] processes may sound number = sound number
whole_run law names (event ∷ events) processes may sound number =
    whole_run law names events (processes_after processes event) may.1
    (all_whole_after law names processes event may.0 sound) number

pub reached_whole : LeftLogIsRead → (processes : Processes) → AreReached processes → (number : ℕ) →
    HasWholeLog (processes.at number)
reached_whole law processes reached number =
    subst (λ (ps : Processes). HasWholeLog (ps.at number)) reached.result
    (whole_run law reached.names reached.events new_processes reached.may
    (λ any. record { whole = tt; fits = omega arith }) number)

pub carried_all : (old new : Node) (entries : List Strings) → FoldsTo CarriesOutEntry old entries new → CarriesOutAll old entries new
carried_all old new [] same = sym same
carried_all old new (entry ∷ entries) folds = (folds.0, folds.1, carried_all folds.0 new entries folds.2)

-- the bytes up to the end of some entries are those of the entries
pub cut_at : (chain : ℕ) (entries : List Strings) (rest disk : List ℕ) (count : ℕ) → disk ≡ log_bytes chain entries ++ rest →
    count ≡ length (log_bytes chain entries) → take count disk ≡ log_bytes chain entries
cut_at chain entries rest disk count whole long =
    ap (λ (n : ℕ). take n disk) long ∙ ap (λ (t : List ℕ). take (length (log_bytes chain entries)) t) whole
    ∙ front_of (log_bytes chain entries) rest
  where
    front_of : (xs ys : List ℕ) → take (length xs) (xs ++ ys) ≡ xs
    front_of [] ys = refl
    front_of (x ∷ xs) ys = ap (λ (t : List ℕ). x ∷ t) (front_of xs ys)

pub kept_as : (old new : Option (List ℕ)) (bytes : List ℕ) → old ≡ Some bytes → Keeps old new → new ≡ old
kept_as None new bytes is keeps = absurd (cc)
kept_as (Some some) None bytes is keeps = absurd keeps
kept_as (Some some) (Some others) bytes is keeps = ap Some keeps

-- after a rewriting, if there was one, the log has these bytes and ends behind this chain
pub record IsFound (read : List Strings) (anew : Option (List Strings)) (kept : Option (List ℕ)) (then : LogEnd) : Type 0 where
  pub bytes : kept ≡ Some (log_bytes first_chain (found_log read anew))
  pub chained : then.chain.state ≡ chain_behind first_chain (found_log read anew)

pub found_if : (read : List Strings) (anew : Option (List Strings)) (bytes : List ℕ) (kept : Option (List ℕ)) (end then : LogEnd) →
    bytes ≡ log_bytes first_chain read → end.chain.state ≡ chain_behind first_chain read →
    IsRewrittenIf anew (Some bytes) end kept then → IsFound read anew kept then
found_if read None bytes kept end then same chained is = record {
  bytes = is.0 ∙ ap Some same;
  chained = ap (λ (e : LogEnd). e.chain.state) is.1 ∙ chained;
}
found_if read (Some entries) bytes kept end then same chained is = record { bytes = is.0; chained = is.1.chained }

-- what the event of a start makes of the process: its log is whole, and has the bytes that the program's log has
pub record StartedSo (process : Process) (number : ℕ) (names : FileOfNames) (node : Node) (chain : ℕ)
    (keeps : Option (List ℕ)) : Type 0 where
  pub read : List Strings
  pub anew : Option (List Strings)
  pub new : Node
  pub copy : Node
  pub may : MayStart names number process read anew new copy node
  pub idle : NoneWaits new.desk.clients []
  pub sound : HasWholeLog (started_process process read anew copy node)
  pub bytes : keeps ≡ Some (log_bytes first_chain (started_process process read anew copy node).log)
  pub chained : chain ≡ chain_behind first_chain (started_process process read anew copy node).log

pub started_so : LeftLogIsRead → (processes : Processes) (reached : AreReached processes) (number : ℕ) (disk : List ℕ)
    (node : Node) (chain : ℕ) (keeps : Option (List ℕ)) → (processes.at number).running ≡ None →
    IsLeft (processes.at number).log (processes.at number).synced disk →
    IsStart reached.names number disk node chain keeps →
    StartedSo (processes.at number) number reached.names node chain keeps
started_so law processes reached number disk node chain keeps stopped left start =
    let names = reached.names in
    let process = processes.at number in
    let copy = start.copy in
    let read = start.recovered.0 in
    let carried = start.recovered.1 in
    let may : MayStart names number process read start.anew start.new copy node = record {
      stopped = stopped;
      disk = disk;
      left = left;
      whole = carried.0;
      begins = carried.3;
      is_new = start.is_new.new;
      recovered = carried_all start.new copy read carried.1;
      rewritten = start.renewed;
      named = start.named;
      started = start.started;
      desk = start.desk;
    } in
    let found = found_if read start.anew (take start.end.length disk) start.kept start.end start.then
    (cut_at first_chain read carried.3.0 disk start.end.length carried.3.1 carried.2) start.recovered.2 start.rewritten in
    let log = found_log read start.anew in record {
      read = read;
      anew = start.anew;
      new = start.new;
      copy = copy;
      may = may;
      idle = start.is_new.idle;
      sound = started_whole names number process read start.anew start.new copy node
          (read_first law names number process read start.anew start.new copy node (reached_whole law processes reached number) may) may;
      bytes = log_grows log (start_entries copy) start.then.chain.state start.kept keeps found.bytes found.chained
          (log_bytes start.then.chain.state (start_entries copy)) start.appended
          ∙ ap (λ (c : ℕ). Some (log_bytes first_chain log ++ log_bytes c (start_entries copy))) found.chained
          ∙ ap Some (sym (bytes_then first_chain log (start_entries copy)));
      chained = start.chained ∙ ap (λ (c : ℕ). chain_behind c (start_entries copy)) found.chained
          ∙ sym (chain_then first_chain log (start_entries copy));
    }

pub starts_are_events : LeftLogIsRead → StartsAreEvents
starts_are_events law processes reached number disk node chain keeps stopped left start =
    let names = reached.names in
    let process = processes.at number in
    let so = started_so law processes reached number disk node chain keeps stopped left start in
    let event = ProcessEvent.Starts number so.read so.anew so.new so.copy node in
    let next = processes_after processes event in
    let after = started_process process so.read so.anew so.copy node in
    let own : next.at number ≡ after = own_process processes.at number after in
    let count = length after.log in
    let syncs = ProcessEvent.Syncs number count in
    let to = processes_after next syncs in
    let within : ((next.at number).synced ≤ count) × (count ≤ length (next.at number).log) =
    subst (λ (p : Process). (p.synced ≤ count) × (count ≤ length p.log)) (sym own) (so.sound.fits, omega arith) in
    let same : to.at number ≡ record after { synced = count } =
    own_process next.at number (record (next.at number) { synced = count })
    ∙ ap (λ (p : Process). record p { synced = count }) own in
    have_events names number processes to [] (λ written at. (written ≡ []) × IsBetweenRounds at node chain keeps)
    (leads_on names number processes next to [] [] (leads_once names number processes event refl so.may so.idle)
    (leads_once names number next syncs refl within tt)) (
      refl,
      record {
        runs = ap (λ (p : Process). p.running) same;
        synced = ap (λ (p : Process). p.synced) same ∙ ap (λ (p : Process). length p.log) (sym same);
        told = ap (λ (p : Process). p.answers) same;
        chained = so.chained ∙ ap (λ (p : Process). chain_behind first_chain p.log) (sym same);
        bytes = so.bytes ∙ ap (λ (p : Process). Some (log_bytes first_chain p.log)) (sym same);
      },
    )

pub rewrites_are_events : RewritesAreEvents
rewrites_are_events names number processes node chain kept keeps entries end rests anew becomes is_end =
    let event = ProcessEvent.Rewrites number entries in
    let to = processes_after processes event in
    let same : to.at number ≡ rewritten_process (processes.at number) entries =
    own_process processes.at number (rewritten_process (processes.at number) entries) in
    have_events names number processes to [] (λ written at. (written ≡ []) × IsBetweenRounds at node end.chain.state keeps)
    (leads_once names number processes event refl ((node, rests.runs, anew), rests.synced) rests.told) (
      refl,
      record {
        runs = ap (λ (p : Process). p.running) same ∙ rests.runs;
        synced = ap (λ (p : Process). p.synced) same ∙ ap (λ (p : Process). length p.log) (sym same);
        told = ap (λ (p : Process). p.answers) same;
        chained = is_end.chained ∙ ap (λ (p : Process). chain_behind first_chain p.log) (sym same);
        bytes = subst (λ (k : Option (List ℕ)). Becomes k keeps (Some (log_bytes first_chain entries))) rests.bytes becomes
            ∙ ap (λ (p : Process). Some (log_bytes first_chain p.log)) (sym same);
      },
    )
