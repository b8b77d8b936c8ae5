-- What a new node keeps is fit, and stays so as it carries out records again; and what is read from a log is fit.
use Rattle.std.proofs.Common.{refl, ◌≡◌, ◌<◌, ◌^◌, ℕ, zero, suc, Bool, true, false, cond, List, [], ◌∷◌, take, sym, subst, ap, arith}
use Rattle.std.proofs.Common.{Option, None, Some, Result, Ok, Err}
use Rattle.std.specs.List.{AllByRecursion}
use Rattle.cluster_file.specs.File.{placement_of}
use Rattle.cluster_file.specs.Placement.{ClusterNodes, AreLawfulNodes, comes_before, in_order, placed, with_node}
use Rattle.cluster_file.proofs.FirstNodesLemmas.{placed-IsLawful}
use Rattle.deeds.specs.CallId.{CallIds, HasRanges}
use Rattle.deeds.specs.Kept.{KeptNode}
use Rattle.deeds.specs.Named.{is_same_name}
use Rattle.fitting.specs.Letters.{IsFitLayout, IsFitLetter}
use Rattle.fitting.specs.Objects.{IsFitObject}
use Rattle.fitting.specs.Outcomes.{LeaveFit}
use Rattle.fitting.specs.Reading.{IsOfBytes}
use Rattle.fitting.proofs.ArrivalLemmas.{serving_fit}
use Rattle.fitting.proofs.OutcomeLemmas.{beginning_fit, closing_fit, hearing_fit}
use Rattle.fitting.proofs.PlaceLemmas.{new_fit}
use Rattle.fitting.proofs.ReadLemmas.{read_fit}
use Rattle.fitting.proofs.TakingLemmas.{taking_fit}
use Rattle.frames.specs.Frame.{IsShort}
use Rattle.layout.specs.Layout.{IsLawful, Layout}
use Rattle.letter.specs.declared.letter.Letter.{Letter}
use Rattle.local_object.specs.Events.{LocalEvent}
use Rattle.local_object.specs.Local.{LocalObject, with_heard}
use Rattle.node_keeper.specs.Keeping.{names_of}
use Rattle.node_keeper.specs.Logging.{deeds_if, deeds_of, letter_records}
use Rattle.node_messages.specs.Reading.{message_from}
use Rattle.node_messages.specs.declared.error.Fault.{Fault}
use Rattle.node_messages.specs.declared.message.NodeMessage.{NodeMessage}
use Rattle.node_strings.specs.Layouts.{layout_string}
use Rattle.node_strings.specs.Record.{HasPartsInRange, record_at, record_strings}
use Rattle.node_strings.specs.Strings.{Strings}
use Rattle.node_strings.specs.declared.record.Record.{Record}
use Rattle.node_strings.specs.declared.record.Record.TheVariants as record_of
use Rattle.node_strings.proofs.RecordLemmas.{record_ok}
use Rattle.recoveries.specs.Records.{IsKeptUnder, IsNamedOutcome, LogRecord}
use Rattle.writable.specs.Keepers.{AreBytes}
use Rattle.writable.specs.Starting.{HasFitObjects, HasFitParts, NewKeepersAreFit, ReadRecordsAreFit, RecoveredObjectsAreFit}

-- First layouts

with_all : (name : List ℕ) (node : ℕ) (nodes : List ℕ) → node < 2 ^ 8 → AreBytes nodes → AreBytes (with_node name node nodes)
with_all name node [] small all = (small, tt)
with_all name node (first ∷ nodes) small all = go (comes_before name node first) (with_all name node nodes small all.1)
  where
    go : (b : Bool) → AreBytes (with_node name node nodes) →
        AreBytes (cond b (node ∷ first ∷ nodes) (first ∷ with_node name node nodes))
    go true rest = (small, all)
    go false rest = (all.0, rest)

order_all : (name nodes : List ℕ) → AreBytes nodes → AreBytes (in_order name nodes)
order_all name [] all = tt
order_all name (first ∷ nodes) all = with_all name first (in_order name nodes) all.0 (order_all name nodes all.1)

take_all : (n : ℕ) (nodes : List ℕ) → AreBytes nodes → AreBytes (take n nodes)
take_all zero nodes all = tt
take_all (suc n) [] all = tt
take_all (suc n) (first ∷ nodes) all = (all.0, take_all n nodes all.1)

placed_fit : (cluster : ClusterNodes) (name : List ℕ) → AreLawfulNodes cluster → AreBytes cluster.nodes → IsFitLayout (placed cluster name)
placed_fit cluster name lawful nodes = record {
  lawful = placed-IsLawful cluster name lawful;
  members = take_all cluster.n (in_order name cluster.nodes) (order_all name cluster.nodes nodes);
}

pub new_keeper_fit : NewKeepersAreFit
new_keeper_fit keeper file number lawful placed all small whole new =
    let ids : keeper.ids ≡ record { node = number; epoch = 0; given = 0 } = ap (λ (k : KeptNode). k.ids) new in record {
      node = subst (λ (i : CallIds). i.node < 2 ^ 8) (sym ids) small;
      nodes = all;
      ids = subst HasRanges (sym ids) (omega arith, omega arith);
      digest = whole;
      objects = λ name. subst IsFitObject (sym (ap (λ (k : KeptNode). k.objects name) new))
          (new_fit number (names_of file).delta ((names_of file).first name)
          (placed_fit (placement_of file.fixed) name lawful.placed placed));
    }

-- Records

put_fit : (old new : KeptNode) (name : List ℕ) (local : LocalObject) → HasFitObjects old → IsFitObject local →
    IsKeptUnder old name local new → HasFitObjects new
put_fit old new name local all fit put other = subst IsFitObject (sym (put.objects other)) (go (is_same_name name other))
  where
    go : (b : Bool) → IsFitObject (cond b local (old.objects other))
    go true = fit
    go false = all other

done_fit : (old new : KeptNode) (name : List ℕ) (events : List LocalEvent) → HasFitObjects old → LeaveFit (old.objects name) events →
    IsNamedOutcome old name events new → HasFitObjects new
done_fit old new name events all leave done =
    put_fit old new name done.local all (leave done.local done.sent done.done).0 done.put

pub recovered_fit : RecoveredObjectsAreFit
recovered_fit old new LogRecord.Starts all is free done = λ name. subst IsFitObject (sym (done.objects name)) (all name)
recovered_fit old new (LogRecord.Serves name letter) all is free done =
    done_fit old new name _ all (serving_fit (old.objects name) letter (all name) is) done
recovered_fit old new (LogRecord.Takes name letter) all is free done =
    put_fit old new name done.local all
    (taking_fit (old.objects name) done.local letter done.sent done.ended (all name) is done.taken).0 done.put
recovered_fit old new (LogRecord.Moves name id layout) all is free done =
    done_fit old new name (LocalEvent.BeginMove id layout ∷ []) all
    ((beginning_fit (old.objects name) id (all name) is.0).2 layout is.1 free) done
recovered_fit old new (LogRecord.Hears name position layout) all is free done =
    put_fit old new name (with_heard (old.objects name) position layout) all
    (hearing_fit (old.objects name) position layout (all name) is.0 is.1) done.put
recovered_fit old new (LogRecord.Closes name position) all is free done =
    done_fit old new name _ all (closing_fit (old.objects name) position (all name)).1 done

-- Entries

-- the records of a letter whose frame was read
letter_parts : (recorded : List ℕ → Letter → LogRecord) →
    ((name : List ℕ) (letter : Letter) → IsFitLetter letter → HasFitParts (recorded name letter)) →
    (frame : Strings) → AllByRecursion IsShort frame → AllByRecursion IsOfBytes frame →
    AllByRecursion HasFitParts (letter_records recorded (message_from frame))
letter_parts recorded parts frame short bytes = go (message_from frame) refl
  where
    go : (r : Result NodeMessage Fault) → message_from frame ≡ r → AllByRecursion HasFitParts (letter_records recorded r)
    go (Ok message) e = (parts message.named.name message.named.letter (read_fit frame message e short bytes).1, tt)
    go (Err fault) e = tt

layout_fit : (layout : Layout) → IsLawful layout → IsOfBytes (layout_string layout) → IsFitLayout layout
layout_fit layout lawful bytes = record { lawful = lawful; members = bytes.1 }

record_parts : (it : Record) → HasPartsInRange it → AllByRecursion IsShort (record_strings it) →
    AllByRecursion IsOfBytes (record_strings it) → AllByRecursion HasFitParts (deeds_of it)
record_parts (record_of.Cluster digest node) is short bytes = tt
record_parts record_of.Start is short bytes = (tt, tt)
record_parts (record_of.Serve frame) is short bytes =
    letter_parts LogRecord.Serves (λ name letter fit. fit) frame short.1 bytes.1
record_parts (record_of.Take frame) is short bytes = letter_parts LogRecord.Takes (λ name letter fit. fit) frame short.1 bytes.1
record_parts (record_of.Move id name layout) is short bytes = ((is.0, layout_fit layout is.1 bytes.1.1.1.0), tt)
record_parts (record_of.Hear position name layout) is short bytes = ((is.0, layout_fit layout is.1 bytes.1.1.1.0), tt)
record_parts (record_of.Close position name) is short bytes = (tt, tt)

pub records_fit : ReadRecordsAreFit
records_fit strings short bytes = go (record_at strings) refl
  where
    go : (o : Option Record) → record_at strings ≡ o → AllByRecursion HasFitParts (deeds_if o)
    go None e = tt
    go (Some it) e =
        let of = record_ok strings it e in
        record_parts it of.0 (subst (λ (ss : Strings). AllByRecursion IsShort ss) of.1 short)
        (subst (λ (ss : Strings). AllByRecursion IsOfBytes ss) of.1 bytes)
