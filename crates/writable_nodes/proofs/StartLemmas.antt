-- A node that starts from a log of bytes is fit.
use Rattle.std.proofs.Common.{◌≡◌, ◌<◌, ◌^◌, ◌++◌, ℕ, suc, Bool, true, false, cond, List, [], ◌∷◌, Option, None, Some, Result, Ok, Err}
use Rattle.std.proofs.Common.{length, nat_lt, lt-ltb, sym, subst, ap, ◌∙◌, arith}
use Rattle.std.specs.List.{AllByRecursion}
use Rattle.std.specs.Prelude.{⊤, IfSome, nat_eq}
use Rattle.std.proofs.lemmas.List.{length-take-le}
use Rattle.cluster_file.specs.Digest.{fixed_digest, hashed_fixed}
use Rattle.cluster_file.specs.File.{FileContents, Fixed, IsLawfulFile}
use Rattle.cluster_file.specs.declared.file.TheConstants.{DIGEST_LENGTH}
use Rattle.deeds.specs.CallId.{CallIds, HasRanges, with_next_epoch}
use Rattle.deeds.specs.Kept.{KeptNode}
use Rattle.fitting.specs.Objects.{IsFitObject}
use Rattle.indexmap.specs.IndexMap.{get}
use Rattle.letter.specs.declared.letter.Letter.{Letter}
use Rattle.node.specs.Anew.{CarriesOutAll}
use Rattle.node.specs.FitDesks.{IsFitDesk, IsFitNext, IsFitOpenCall}
use Rattle.node.specs.Recovering.{CarriesOutCalls, CarriesOutEntry, ClosesCall, ClosesTaken, IsUnrefusedMove}
use Rattle.node.specs.declared.node.Node.{Node}
use Rattle.node.proofs.FitDeskLemmas.{AreFitCalls, AreFitWaiting, calls_at}
use Rattle.node.proofs.StayingLemmas.{behind_all}
use Rattle.node_clients.specs.Calls.{call_under}
use Rattle.node_clients.specs.Connections.{waiting_on}
use Rattle.node_clients.specs.declared.connection.Connection.{Connection}
use Rattle.node_clients.specs.declared.open_call.OpenCall.{OpenCall}
use Rattle.node_keeper.specs.Keeping.{kept_of}
use Rattle.node_keeper.specs.Logging.{deeds_if, deeds_of, letter_records}
use Rattle.node_keeper.specs.declared.keeper.Keeper.{Keeper}
use Rattle.node_keeper.proofs.IdLemmas.{begun_node}
use Rattle.node_messages.specs.Reading.{message_from}
use Rattle.node_messages.specs.declared.error.Fault.{Fault}
use Rattle.node_messages.specs.declared.message.NodeMessage.{NodeMessage}
use Rattle.node_strings.specs.Record.{record_at}
use Rattle.node_strings.specs.Strings.{Strings}
use Rattle.node_strings.specs.declared.record.Record.{Record}
use Rattle.node_strings.specs.declared.record.Record.TheVariants as record_of
use Rattle.recoveries.specs.Records.{LogRecord, Recovers, RecoversOne}
use Rattle.sha2.specs.Sha256.{sha256}
use Rattle.sha2.proofs.Facts256.{length-sha256}
use Rattle.writable.specs.Keepers.{AreBytes}
use Rattle.writable.specs.Starting.{HasFitObjects, HasFitParts, IsUnrefused}
use Rattle.writable.proofs.StartingLemmas.{new_keeper_fit, records_fit, recovered_fit}
use Rattle.writable_nodes.specs.Starts.{IsByteEntry, IsNew, MovesShort, StartsAreFit}

digest_whole : (fixed : Fixed) → length (fixed_digest fixed) ≡ DIGEST_LENGTH
unfolding fixed_digest
digest_whole fixed =
    let whole = length-sha256 (hashed_fixed fixed) in
    length-take-le 16 (sha256 (hashed_fixed fixed)) (omega (arith, whole))

-- Objects

-- the record is no move
abbrev IsOther : LogRecord → Type 0
IsOther (LogRecord.Moves name id layout) = ⊥
IsOther it = ⊤

other_free : (node : KeptNode) (it : LogRecord) → IsOther it → IsUnrefused node it
other_free node LogRecord.Starts other = tt
other_free node (LogRecord.Serves name letter) other = tt
other_free node (LogRecord.Takes name letter) other = tt
other_free node (LogRecord.Moves name id layout) other = absurd other
other_free node (LogRecord.Hears name position layout) other = tt
other_free node (LogRecord.Closes name position) other = tt

-- the node's number stays the same
same_number : (old new : KeptNode) (it : LogRecord) → RecoversOne it old new → new.ids.node ≡ old.ids.node
same_number old new LogRecord.Starts done = ap (λ (i : CallIds). i.node) done.ids ∙ begun_node old.ids
same_number old new (LogRecord.Serves name letter) done = done.put.node
same_number old new (LogRecord.Takes name letter) done = done.put.node
same_number old new (LogRecord.Moves name id layout) done = done.put.node
same_number old new (LogRecord.Hears name position layout) done = done.put.node
same_number old new (LogRecord.Closes name position) done = done.put.node

-- what is carried out again leaves all objects fit, and the node's number as it was
record IsLeft (old new : KeptNode) : Type 0 where
  objects : HasFitObjects new
  number : new.ids.node ≡ old.ids.node

none_left : (old new : KeptNode) → HasFitObjects old → Recovers [] old new → IsLeft old new
none_left old new all done =
    record { objects = λ name. subst IsFitObject (sym (done.objects name)) (all name); number = done.node }

one_left : (old new : KeptNode) (it : LogRecord) → HasFitObjects old → HasFitParts it → IsUnrefused old it →
    Recovers (it ∷ []) old new → IsLeft old new
one_left old new it all parts free done =
    let rest = none_left done.0 new (recovered_fit old done.0 it all parts free done.1) done.2 in
    record { objects = rest.objects; number = rest.number ∙ same_number old done.0 it done.1 }

letter_left : (recorded : List ℕ → Letter → LogRecord) → ((name : List ℕ) (letter : Letter) → IsOther (recorded name letter)) →
    (old new : KeptNode) (r : Result NodeMessage Fault) → HasFitObjects old →
    AllByRecursion HasFitParts (letter_records recorded r) → Recovers (letter_records recorded r) old new → IsLeft old new
letter_left recorded other old new (Ok message) all parts done =
    let it = recorded message.named.name message.named.letter in
    one_left old new it all parts.0 (other_free old it (other message.named.name message.named.letter)) done
letter_left recorded other old new (Err fault) all parts done = none_left old new all done

record_left : (keeper : Keeper) (it : Record) (new : KeptNode) → HasFitObjects (kept_of keeper) →
    AllByRecursion HasFitParts (deeds_of it) → IsUnrefusedMove it keeper → Recovers (deeds_of it) (kept_of keeper) new →
    IsLeft (kept_of keeper) new
record_left keeper (record_of.Cluster digest node) new all parts free done = none_left (kept_of keeper) new all done
record_left keeper record_of.Start new all parts free done =
    one_left (kept_of keeper) new LogRecord.Starts all parts.0 tt done
record_left keeper (record_of.Serve frame) new all parts free done =
    letter_left LogRecord.Serves (λ name letter. tt) (kept_of keeper) new (message_from frame) all parts done
record_left keeper (record_of.Take frame) new all parts free done =
    letter_left LogRecord.Takes (λ name letter. tt) (kept_of keeper) new (message_from frame) all parts done
record_left keeper (record_of.Move id name layout) new all parts free done =
    one_left (kept_of keeper) new (LogRecord.Moves name id layout) all parts.0 free done
record_left keeper (record_of.Hear position name layout) new all parts free done =
    one_left (kept_of keeper) new (LogRecord.Hears name position layout) all parts.0 tt done
record_left keeper (record_of.Close position name) new all parts free done =
    one_left (kept_of keeper) new (LogRecord.Closes name position) all parts.0 tt done

-- Desks

same_calls : (old new : Node) → AreFitCalls old.desk → new.desk.calls ≡ old.desk.calls → AreFitCalls new.desk
same_calls old new fit same id call e = fit id call (sym (ap (λ cs. call_under cs id) same) ∙ e)

closed_calls : (old new : Node) (o : Option ℕ) → AreFitCalls old.desk → ClosesCall old o new → AreFitCalls new.desk
closed_calls old new None fit same = same_calls old new fit same
closed_calls old new (Some id) fit is =
    calls_at old.desk new.desk id fit is.others (subst (λ (o : Option OpenCall). IfSome o IsFitOpenCall) (sym is.here) tt)

taken_calls : (old new : Node) (r : Result NodeMessage Fault) → AreFitCalls old.desk → ClosesTaken r old new → AreFitCalls new.desk
taken_calls old new (Ok message) fit is = closed_calls old new _ fit is.1
taken_calls old new (Err fault) fit is = absurd is

record_calls : (old new : Node) (it : Record) → AreFitCalls old.desk → MovesShort it → CarriesOutCalls old it new → AreFitCalls new.desk
record_calls old new (record_of.Take frame) fit short is = taken_calls old new (message_from frame) fit is
record_calls old new (record_of.Move id name layout) fit short is =
    calls_at old.desk new.desk id fit is.others
    (subst (λ (o : Option OpenCall). IfSome o IsFitOpenCall) (sym is.here) (record { name = short; deletion = tt }))
record_calls old new (record_of.Cluster digest node) fit short is = same_calls old new fit is
record_calls old new record_of.Start fit short is = same_calls old new fit is
record_calls old new (record_of.Serve frame) fit short is = same_calls old new fit is
record_calls old new (record_of.Hear position name layout) fit short is = same_calls old new fit is
record_calls old new (record_of.Close position name) fit short is = same_calls old new fit is

-- Nodes that carry out their logs

record IsStarting (file : FileContents) (node : Node) : Type 0 where
  same : node.keeper.file ≡ file
  digest : node.keeper.digest ≡ fixed_digest file.fixed
  number : node.keeper.ids.node < 2 ^ 8
  objects : HasFitObjects (kept_of node.keeper)
  desk : IsFitDesk node.desk

new_starting : (file : FileContents) (number : ℕ) (node : Node) → IsLawfulFile file → AreBytes (file.fixed.nodes ++ file.later) →
    number < 2 ^ 8 → IsNew file number node → IsStarting file node
new_starting file number node lawful bytes small new =
    let whole : length node.keeper.digest ≡ DIGEST_LENGTH = ap length new.digest ∙ digest_whole file.fixed in
    let fit = new_keeper_fit node.keeper file number lawful
    (behind_all (λ n. n < 2 ^ 8) file.fixed.nodes file.later bytes).0
    (subst (λ (f : FileContents). AreBytes (f.fixed.nodes ++ f.later)) (sym new.same) bytes) small whole new.kept in record {
      same = new.same;
      digest = new.digest;
      number = fit.node;
      objects = fit.objects;
      desk = record { calls = no_calls; waiting = nobody };
    }
  where
    no_calls : AreFitCalls node.desk
    no_calls id call e =
        let none : call_under node.desk.calls id ≡ None = rw new.calls in
        absurd (let wrong : None ≡ Some call = sym none ∙ e in cc)

    nobody : AreFitWaiting node.desk.clients
    nobody client =
        let none : get nat_eq node.desk.clients.by_number client ≡ None = rw new.clients in
        subst (λ (o : Option Connection). AllByRecursion IsFitNext (waiting_on o)) (sym none) tt

entry_starting : (file : FileContents) (old new : Node) (entry : Strings) → IsStarting file old → IsByteEntry entry →
    CarriesOutEntry old entry new → IsStarting file new
entry_starting file old new entry was is carries =
    let done = carries.done in
    let it = carries.it in
    let read : record_at entry ≡ Some it = ap record_at carries.whole ∙ carries.read in
    let parts : AllByRecursion HasFitParts (deeds_of it) =
    subst (λ (o : Option Record). AllByRecursion HasFitParts (deeds_if o)) read (records_fit entry is.short is.bytes) in
    let short : MovesShort it = subst (λ (o : Option Record). IfSome o MovesShort) read is.moves in
    let left = record_left old.keeper it (kept_of new.keeper) was.objects parts done.unrefused done.recovers in record {
      same = done.cluster.file ∙ was.same;
      digest = done.cluster.digest ∙ was.digest;
      number = subst (λ n. n < 2 ^ 8) (sym left.number) was.number;
      objects = left.objects;
      desk = record {
        calls = record_calls old new it was.desk.calls short done.calls;
        waiting = subst AreFitWaiting (sym done.clients) was.desk.waiting;
      };
    }

all_starting : (file : FileContents) (old new : Node) (entries : List Strings) → IsStarting file old →
    AllByRecursion IsByteEntry entries → CarriesOutAll old entries new → IsStarting file new
all_starting file old new [] was all same = subst (IsStarting file) (sym same) was
all_starting file old new (entry ∷ entries) was all done =
    all_starting file done.0 new entries (entry_starting file old done.0 entry was all.0 done.1) all.1 done.2

epoch_ranges : (ids : CallIds) → suc ids.epoch < 2 ^ 24 → HasRanges (with_next_epoch ids)
epoch_ranges ids more = go (nat_lt (suc ids.epoch) (2 ^ 24)) (lt-ltb (suc ids.epoch) (2 ^ 24) more)
  where
    go : (b : Bool) → b ≡ true → HasRanges (cond b (record ids { epoch = suc ids.epoch; given = 0 }) ids)
    go true e = (more, omega arith)
    go false e = absurd (cc)

pub starts_fit : StartsAreFit
starts_fit file number first last node entries lawful bytes small new all carries is =
    let was = all_starting file first last entries (new_starting file number first lawful bytes small new) all carries in
    let started = is.started in
    let there : node.keeper.ids.node ≡ last.keeper.ids.node =
    ap (λ (i : CallIds). i.node) started.ids ∙ begun_node last.keeper.ids in record {
      keeper = record {
        node = subst (λ n. n < 2 ^ 8) (sym there) was.number;
        nodes = subst (λ (f : FileContents). AreBytes (f.fixed.nodes ++ f.later)) (sym (is.cluster.file ∙ was.same)) bytes;
        ids = subst HasRanges (sym started.ids) (epoch_ranges last.keeper.ids started.more);
        digest = ap length (is.cluster.digest ∙ was.digest) ∙ digest_whole file.fixed;
        objects = λ name. subst IsFitObject (sym (started.objects name)) (was.objects name);
      };
      desk = subst IsFitDesk (sym is.desk) was.desk;
    }
