-- What a process makes of its log as it starts.
use Rattle.std.proofs.Common.{◌≡◌, ◌≤◌, ℕ, Bool, true, false, List, [], ◌∷◌}
use Rattle.std.proofs.Common.{length, take, ltb, Option, None, Some, refl, sym, subst, ap, ◌∙◌, arith}
use Rattle.std.proofs.lemmas.Bool.{ltb-true, ltb-false}
use Rattle.std.proofs.lemmas.List.{length-append, length-take-le, take_all}
use Rattle.std.specs.List.{AllByRecursion}
use Rattle.deeds.specs.Kept.{FileOfNames, KeptNode, new_node}
use Rattle.recoveries.specs.Records.{LogRecord, Recovers, RecoversOne}
use Rattle.recoveries.specs.RewritingNodes.{HasOwnObjects}
use Rattle.recoveries.proofs.LoggedLemmas.{started_number}
use Rattle.node_log.specs.Entry.{first_chain}
use Rattle.node_log.specs.Reading.{IsEnd}
use Rattle.node_strings.specs.Strings.{Strings}
use Rattle.node_keeper.specs.Keeping.{kept_of}
use Rattle.node.specs.declared.node.Node.{Node}
use Rattle.node.specs.Anew.{AreAnew, CarriesOutAll}
use Rattle.node_store.specs.Laws.{IsLeft, LeftLogIsRead}
use Rattle.node_store.specs.Recovery.{BeginsWith, IsWholeEntry}
use Rattle.open_calls.proofs.ListLemmas.{all_append}
use Rattle.node.specs.Starts.{start_entries}
use Rattle.node.proofs.AnewLemmas.{new_nodes, recovered_entries, started_nodes}
use Rattle.processes.specs.Events.{MayStart, rewritten_process, started_process}
use Rattle.processes.specs.Processes.{Process}
use Rattle.processes.proofs.LogLemmas.{all_records, anew_whole, log_carried}
use Rattle.processes.proofs.LogLemmas.{start_whole}
use Rattle.processes.proofs.StandingLemmas.{HasWholeLog, IsOwnNode}

-- a node that carries out records again keeps its number
one_number : (one : LogRecord) (old new : KeptNode) → RecoversOne one old new → new.ids.node ≡ old.ids.node
one_number LogRecord.Starts old new is = started_number old new is
one_number (LogRecord.Serves name letter) old new is = is.put.node
one_number (LogRecord.Takes name letter) old new is = is.put.node
one_number (LogRecord.Moves name id layout) old new is = is.put.node
one_number (LogRecord.Hears name position layout) old new is = is.put.node
one_number (LogRecord.Closes name position) old new is = is.put.node

pub number_kept : (records : List LogRecord) (old new : KeptNode) → Recovers records old new → new.ids.node ≡ old.ids.node
number_kept [] old new same = same.node
number_kept (one ∷ records) old new is =
    number_kept records is.0 new is.2 ∙ one_number one old is.0 is.1

-- the objects of a node stay its own as it carries out its log
own_carried : (old new : Node) (log : List Strings) → CarriesOutAll old log new → HasOwnObjects (kept_of old.keeper) →
    HasOwnObjects (kept_of new.keeper)
own_carried old new [] same own = subst (λ (n : Node). HasOwnObjects (kept_of n.keeper)) (sym same) own
own_carried old new (entry ∷ log) carried own =
    own_carried carried.0 new log carried.2 (recovered_entries old carried.0 entry carried.1 own)

-- what a process reads at its start are first entries of its log, and at least those that are synced
pub record AreFirst (process : Process) (read : List Strings) : Type 0 where
  pub those : take (length read) process.log ≡ read
  pub least : process.synced ≤ length read
  pub most : length read ≤ length process.log

-- what is read of what a stop left of the log of a process
pub first_read : LeftLogIsRead → (process : Process) (read : List Strings) (disk : List ℕ) → HasWholeLog process →
    AllByRecursion IsWholeEntry read → IsLeft process.log process.synced disk → BeginsWith first_chain read IsEnd disk →
    AreFirst process read
first_read law process read disk sound whole left begins =
    let found = law process.log read process.synced disk sound.whole whole left begins in
    go found.0 found.1 found.2 (ltb (length process.log) found.0) refl
  where
    go : (count : ℕ) → process.synced ≤ count → read ≡ take count process.log → (b : Bool) → ltb (length process.log) count ≡ b →
        AreFirst process read
    go count least are true e =
        let more = ltb-true (length process.log) count e in
        let all : read ≡ process.log = are ∙ take_all count process.log (omega arith) in
        let long : length read ≡ length process.log = ap (λ (es : List Strings). length es) all in
        let fits = sound.fits in record {
          those = ap (λ n. take n process.log) long ∙ take_all (length process.log) process.log (omega arith) ∙ sym all;
          least = omega arith;
          most = omega arith;
        }
    go count least are false e =
        let within = ltb-false (length process.log) count e in
        let long : length read ≡ count =
        ap (λ (es : List Strings). length es) are ∙ length-take-le count process.log within in record {
          those = ap (λ n. take n process.log) long ∙ sym are;
          least = omega arith;
          most = omega arith;
        }

pub read_first : LeftLogIsRead → (names : FileOfNames) (number : ℕ) (process : Process) (read : List Strings)
    (anew : Option (List Strings)) (new copy after : Node) → HasWholeLog process →
    MayStart names number process read anew new copy after → AreFirst process read
read_first law names number process read anew new copy after sound may =
    first_read law process read may.disk sound may.whole may.left may.begins

-- the log is whole after a start
pub started_whole : (names : FileOfNames) (number : ℕ) (process : Process) (read : List Strings) (anew : Option (List Strings))
    (new copy after : Node) → AreFirst process read → MayStart names number process read anew new copy after →
    HasWholeLog (started_process process read anew copy after)
started_whole names number process read None new copy after first may =
    let least = first.least in
    let long = length-append read (start_entries copy) in record {
      whole = all_append IsWholeEntry read (start_entries copy) may.whole (start_whole copy may.named);
      fits = omega arith;
    }
started_whole names number process read (Some entries) new copy after first may =
    let long = length-append entries (start_entries copy) in record {
      whole = all_append IsWholeEntry entries (start_entries copy) (anew_whole copy entries may.rewritten) (start_whole copy may.named);
      fits = omega arith;
    }

pub rewritten_whole : (process : Process) (node : Node) (entries : List Strings) → AreAnew node entries →
    HasWholeLog (rewritten_process process entries)
rewritten_whole process node entries anew = record { whole = anew_whole node entries anew; fits = omega arith }

-- What the new node is then

module _ (names : FileOfNames) (number : ℕ) (process : Process) (found : List Strings) (anew : Option (List Strings))
    (new copy after : Node) (may : MayStart names number process found anew new copy after) where
  is_new : kept_of new.keeper ≡ new_node names number
  is_new = may.is_new.kept ∙ ap (λ (f : FileOfNames). new_node f number) may.is_new.same

  pub new_carried : Recovers (all_records found) (new_node names number) (kept_of copy.keeper)
  new_carried = subst (λ (k : KeptNode). Recovers (all_records found) k (kept_of copy.keeper)) is_new
      (log_carried new copy found may.recovered)

  pub copy_own : HasOwnObjects (kept_of copy.keeper)
  copy_own =
      own_carried new copy found may.recovered (new_nodes new may.is_new.file number may.is_new.lawful may.is_new.kept)

  pub own_started : IsOwnNode number after
  own_started = record {
    number_is = started_number (kept_of copy.keeper) (kept_of after.keeper) may.started
        ∙ number_kept (all_records found) (new_node names number) (kept_of copy.keeper) new_carried;
    own = started_nodes copy after may.started copy_own;
  }
