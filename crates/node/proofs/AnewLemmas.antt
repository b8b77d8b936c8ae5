-- A log that is written anew, and the objects of a node.
use Rattle.std.proofs.Common.{◌≡◌, ℕ, Bool, true, false, cond, List, [], ◌∷◌, IfSome, Option, None, Some, Result, Ok, Err, refl, sym}
use Rattle.std.proofs.Common.{subst}
use Rattle.std.specs.List.{AllByRecursion}
use Rattle.layout.specs.Layout.{IsLawful, Layout}
use Rattle.cluster_file.proofs.DigestLemmas.{placed_again}
use Rattle.letter.specs.declared.letter.Letter.{Letter}
use Rattle.letter.specs.declared.start.Start.{Start}
use Rattle.node_messages.specs.declared.error.Fault.{Fault}
use Rattle.node_messages.specs.declared.message.NodeMessage.{NodeMessage}
use Rattle.node_messages.specs.Message.{IsStart}
use Rattle.node_messages.specs.Reading.{message_from}
use Rattle.node_messages.proofs.MessageLemmas.{message_ok}
use Rattle.node_strings.specs.Arrival.{arrival_at}
use Rattle.node_strings.specs.declared.arrival.Arrival.{Arrival}
use Rattle.node_strings.specs.declared.arrival.Arrival.TheVariants as came
use Rattle.node_strings.specs.declared.record.Record.{Record}
use Rattle.node_strings.specs.declared.record.Record.TheVariants as record_of
use Rattle.object_letters.specs.Rebuildable.{HasLawfulLayouts, IsLawfulIfThere, IsLawfulStart}
use Rattle.recoveries.specs.Records.{LogRecord}
use Rattle.recoveries.specs.RewritingNodes.{HasOwnObjects}
use Rattle.recoveries.specs.RewrittenLaws.{HasLawfulLetter, IsLawfulLetter}
use Rattle.recoveries.proofs.OwnCallLemmas.{handled_own_calls}
use Rattle.recoveries.proofs.OwnHandledLemmas.{handled_own}
use Rattle.recoveries.proofs.OwnObjectLemmas.{new_own, starts_own}
use Rattle.recoveries.proofs.OwnRecoveredLemmas.{recovered_own}
use Rattle.node_strings.specs.Strings.{Strings}
use Rattle.node_effects.specs.Seen.{named_of}
use Rattle.node_keeper.specs.Keeping.{heeds, if_heeded, kept_of, names_of}
use Rattle.node_keeper.specs.Logging.{deeds_of, letter_records}
use Rattle.node_keeper.specs.declared.keeper.Keeper.{Keeper}
use Rattle.node.specs.Anew.{HandledFramesKeepOwn, HandledFramesKeepOwnCalls, StartingNodesHaveOwn, OwnCallsAreDistinct}
use Rattle.node.specs.Anew.{RecoveredEntriesKeepOwn, StartedNodesKeepOwn}
use Rattle.node.specs.Frames.{is_admitted, letter_from, letter_if_any, letter_if_read, letters_in}

-- Messages that are read have lawful layouts

next_lawful : (next : Option Layout) → IfSome next IsLawful → IsLawfulIfThere next
next_lawful None is = tt
next_lawful (Some layout) is = is

start_lawful : (start : Option Start) → IfSome start IsStart → IsLawfulStart start
start_lawful None is = tt
start_lawful (Some start) is = is.1

read_lawful : (frame : Strings) (message : NodeMessage) → message_from frame ≡ Ok message →
    HasLawfulLayouts message.named.letter
read_lawful frame message e =
    let is = (message_ok frame message e).0 in
    let letter = message.named.letter in (is.layout, next_lawful letter.next is.next, start_lawful letter.start is.start)

all_if : {A : Type 0} (P : A → Type 0) (b : Bool) (x : A) → P x → AllByRecursion P (cond b (x ∷ []) [])
all_if P true x here = (here, tt)
all_if P false x here = tt

from_lawful : (keeper : Keeper) (sender : ℕ) (message : NodeMessage) → HasLawfulLayouts message.named.letter →
    AllByRecursion IsLawfulLetter (letter_from keeper sender message)
from_lawful keeper sender message lawful = go (is_admitted keeper sender message)
  where
    go : (b : Bool) →
        AllByRecursion IsLawfulLetter (cond b (if_heeded (kept_of keeper) (named_of message.named)) [])
    go true = all_if IsLawfulLetter (heeds (kept_of keeper) (named_of message.named))
        (named_of message.named) lawful
    go false = tt

frame_lawful : (keeper : Keeper) (sender : ℕ) (frame : Strings) (r : Result NodeMessage Fault) → message_from frame ≡ r →
    AllByRecursion IsLawfulLetter (letter_if_read keeper sender r)
frame_lawful keeper sender frame (Ok message) e = from_lawful keeper sender message (read_lawful frame message e)
frame_lawful keeper sender frame (Err fault) e = tt

came_lawful : (keeper : Keeper) (o : Option Arrival) → AllByRecursion IsLawfulLetter (letter_if_any keeper o)
came_lawful keeper None = tt
came_lawful keeper (Some (came.Message sender frame)) = frame_lawful keeper sender frame (message_from frame) refl
came_lawful keeper (Some (came.Command client frame)) = tt
came_lawful keeper (Some (came.Left client)) = tt
came_lawful keeper (Some (came.Tick heard)) = tt

-- The laws

pub new_nodes : StartingNodesHaveOwn
new_nodes node file number lawful new =
    subst HasOwnObjects (sym new)
    (new_own (names_of file) number (λ name. placed_again file name lawful))

pub handled_frames : HandledFramesKeepOwn
handled_frames old new frame effects handles own =
    handled_own (kept_of old.keeper) (kept_of new.keeper) (letters_in old.keeper frame) _ _
    (came_lawful old.keeper (arrival_at frame)) handles.handled.handled own

pub handled_frames_calls : HandledFramesKeepOwnCalls
handled_frames_calls old new frame effects handles own =
    handled_own_calls (kept_of old.keeper) (kept_of new.keeper) (letters_in old.keeper frame) _ _ handles.handled.handled own

pub own_distinct : OwnCallsAreDistinct
own_distinct node own name = (own.own name).distinct

letter_lawful : (recorded : (name : List ℕ) → Letter → LogRecord)
    → ((name : List ℕ) (letter : Letter) → HasLawfulLayouts letter → HasLawfulLetter (recorded name letter))
    → (frame : Strings) (r : Result NodeMessage Fault) → message_from frame ≡ r
    → AllByRecursion HasLawfulLetter (letter_records recorded r)
letter_lawful recorded fits frame (Ok message) e =
    (fits message.named.name message.named.letter (read_lawful frame message e), tt)
letter_lawful recorded fits frame (Err fault) e = tt

deeds_lawful : (it : Record) → AllByRecursion HasLawfulLetter (deeds_of it)
deeds_lawful (record_of.Cluster digest node) = tt
deeds_lawful record_of.Start = (tt, tt)
deeds_lawful (record_of.Serve frame) =
    letter_lawful LogRecord.Serves (λ name letter lawful. lawful) frame (message_from frame) refl
deeds_lawful (record_of.Take frame) =
    letter_lawful LogRecord.Takes (λ name letter lawful. lawful) frame (message_from frame) refl
deeds_lawful (record_of.Move id name layout) = (tt, tt)
deeds_lawful (record_of.Hear position name layout) = (tt, tt)
deeds_lawful (record_of.Close position name) = (tt, tt)

pub recovered_entries : RecoveredEntriesKeepOwn
recovered_entries old new entry carried own =
    recovered_own (kept_of old.keeper) (kept_of new.keeper) (deeds_of carried.it) (deeds_lawful carried.it)
    carried.done.recovers own

pub started_nodes : StartedNodesKeepOwn
started_nodes old new started own = (starts_own (kept_of old.keeper) (kept_of new.keeper) own).1 started
