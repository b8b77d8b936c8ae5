-- What a node knows of the other nodes, beside what their messages say.
use Rattle.std.specs.Prelude.{◌≡◌, ◌==◌, ◌+◌, ◌-◌, ◌^◌, min, ◌&&◌, ⊤, ℕ, not, nat_lt, Bool, true, false}
use Rattle.std.specs.Prelude.{List, [], ◌∷◌, ◌++◌, length, replicate, slice_get}
use Rattle.std.specs.Prelude.{Option, None, Some, Result, Ok, Err, if◌then◌else◌}
use Rattle.std.specs.List.{list_any}
use Rattle.std.specs.Str.{bytes_eq}
use Rattle.letter.specs.declared.letter.NamedLetter.{NamedLetter}
use Rattle.node_clients.specs.Desk.{one_more_counted}
use Rattle.node_effects.specs.declared.report.Report.{Report}
use Rattle.node_effects.specs.Seen.{named_of}
use Rattle.node_keeper.specs.Declining.{declines}
use Rattle.node_keeper.specs.Keeping.{heeds, kept_of}
use Rattle.node_keeper.specs.Objects.{objects_of}
use Rattle.node_keeper.specs.declared.keeper.Keeper.{Keeper}
use Rattle.node_messages.specs.Reading.{message_from}
use Rattle.node_messages.specs.declared.error.Fault.{Fault}
use Rattle.node_messages.specs.declared.message.NodeMessage.{NodeMessage}
use Rattle.node_strings.specs.Heard.{has_heard, tells_nodes}
use Rattle.node_strings.specs.declared.heard.Heard.{Heard}
use Rattle.node_strings.specs.declared.arrival.Arrival.{Arrival}
use Rattle.node_strings.specs.declared.arrival.Arrival.TheVariants as came
use Rattle.node.specs.Frames.{is_admitted}
use Rattle.node.specs.declared.drops.Drops.{Drops}
use Rattle.node.specs.declared.peers.Peers.{Peers}
use Rattle.node.specs.declared.reception.Reception.{Reception}
use Rattle.node.specs.declared.peers.TheConstants.{MOST_OTHERS}
use Rattle.node.specs.declared.silences.TheConstants.{NUMBERS}

-- Silences

-- how many ticks have come since the last one that named a node, if any did, after one more, which names it or not
abbrev pub silence_after : (named : Bool) → Option ℕ → Option ℕ
silence_after true silence = Some 0
silence_after false None = None
silence_after false (Some ticks) = Some (min (ticks + 1) (2 ^ 32 - 1))

-- the same for the nodes with the number `node` and the numbers behind it, after a tick that names these nodes
abbrev pub silences_after : Heard → (node : ℕ) → List (Option ℕ) → List (Option ℕ)
silences_after heard node [] = []
silences_after heard node (silence ∷ more) =
    silence_after (has_heard heard node) silence ∷ silences_after heard (node + 1) more

-- What becomes of letters

-- what becomes of a letter at a node that keeps this: whether the node heeds it, and whether it is a request that the
-- node serves, and to which its closed bank sends no reply
abbrev pub reception_of : Keeper → NamedLetter → Reception
reception_of keeper it =
    let heeded = heeds (kept_of keeper) (named_of it) in record {
      is_heeded = heeded;
      is_declined = heeded && declines (objects_of keeper.objects it.name) it.letter;
    }

-- Dropped frames

-- none was dropped
abbrev pub none_dropped : Drops
none_dropped = record { malformed = 0; unreadable = 0; not_admitted = 0; not_heeded = 0 }

-- one more frame that no host sends
abbrev pub with_malformed : Drops → Drops
with_malformed drops = record drops { malformed = one_more_counted drops.malformed }

-- one more frame of a node that is no message
abbrev pub with_unreadable : Drops → Drops
with_unreadable drops = record drops { unreadable = one_more_counted drops.unreadable }

-- one more message that is not admitted
abbrev pub with_not_admitted : Drops → Drops
with_not_admitted drops = record drops { not_admitted = one_more_counted drops.not_admitted }

-- one more message that is admitted, if the node does not heed its letter
abbrev pub with_letter : (heeded : Bool) → Drops → Drops
with_letter heeded drops =
    if heeded then drops else record drops { not_heeded = one_more_counted drops.not_heeded }

-- how many frames were dropped, for all causes together, or 2^64 - 1 if these are more
abbrev pub frames_dropped : Peers → ℕ
frames_dropped peers =
    let drops = peers.drops in
    min (drops.malformed + drops.unreadable + drops.not_admitted + drops.not_heeded + peers.foreign) (2 ^ 64 - 1)

-- nothing is known before a frame has come
pub record KnowsNothing (peers : Peers) : Type 0 where
  pub heard : peers.heard ≡ None
  pub silences : peers.silences ≡ replicate NUMBERS None
  pub foreign : peers.foreign ≡ 0
  pub drops : peers.drops ≡ none_dropped
  pub declined : peers.declined ≡ 0
  pub others : peers.others.items ≡ []
  pub told : peers.told ≡ 0

-- Ticks

-- the nodes that the host hears, if it tells of any
abbrev pub heard_at : Heard → Option Heard
heard_at heard = if tells_nodes heard then Some heard else None

-- what is known after a tick that names these nodes
abbrev pub with_tick : Heard → Peers → Peers
with_tick heard peers =
    record peers { heard = heard_at heard; silences = silences_after heard 0 peers.silences }

-- Nodes with another cluster file

-- whether the node of a message has another cluster file
abbrev pub is_foreign : Keeper → NodeMessage → Bool
is_foreign keeper message = not (bytes_eq message.digest keeper.digest)

-- what is told of the node of this number, whose message has another digest
abbrev pub report_of : Keeper → (sender : ℕ) → NodeMessage → Report
report_of keeper sender message = record { node = sender; digest = message.digest; own = keeper.digest }

-- whether this is the same node, with the same digest of its file
abbrev pub is_same_report : (other known : Report) → Bool
is_same_report other known = known.node == other.node && bytes_eq known.digest other.digest

-- whether a node with this digest of its file is among those of which the node has told or will tell
abbrev pub is_known : List Report → Report → Bool
is_known others other = list_any (is_same_report other) others

-- these nodes, with one more if it is not among them and they are not too many
abbrev pub with_other : List Report → Report → List Report
with_other others other =
    if nat_lt (length others) MOST_OTHERS && not (is_known others other) then others ++ other ∷ [] else others

-- a message of a node with another cluster file was counted, and the node is told of once
pub record HasNoted (other : Report) (old new : Peers) : Type 0 where
  pub heard : new.heard ≡ old.heard
  pub silences : new.silences ≡ old.silences
  pub foreign : new.foreign ≡ one_more_counted old.foreign
  pub drops : new.drops ≡ old.drops
  pub declined : new.declined ≡ old.declined
  pub others : new.others.items ≡ with_other old.others.items other
  pub told : new.told ≡ old.told

-- what the letter of a message that is admitted changes, by what becomes of it: the message is counted among those that
-- were dropped unless the node heeds the letter, and among those that were declined if its closed bank declines it
abbrev pub after_letter : Reception → Peers → Peers
after_letter reception peers = record peers {
  drops = with_letter reception.is_heeded peers.drops;
  declined = if reception.is_declined then one_more_counted peers.declined else peers.declined;
}

-- what a message of a node with the same cluster file changes: it is counted as dropped if it is not admitted, and
-- otherwise by what becomes of its letter
abbrev pub after_message : (admitted : Bool) → Reception → Peers → Peers
after_message admitted reception peers =
    if admitted then after_letter reception peers else record peers { drops = with_not_admitted peers.drops }

-- what a message changes: one of a node with another cluster file was noted; with any other, these are the peers after
abbrev pub HasNotedIf : (foreign : Bool) → (other : Report) → (after old new : Peers) → Type 0
HasNotedIf true other after old new = HasNoted other old new
HasNotedIf false other after old new = new ≡ after

-- what a message changes
abbrev pub IsChangedByMessage : Keeper → (sender : ℕ) → NodeMessage → (old new : Peers) → Type 0
IsChangedByMessage keeper sender message old new =
    HasNotedIf (is_foreign keeper message) (report_of keeper sender message)
    (after_message (is_admitted keeper sender message) (reception_of keeper message.named) old) old new

-- what a frame of a node changes: if it was read, what the message changes; otherwise it is counted
abbrev pub IsChangedIfRead : Keeper → (sender : ℕ) → Result NodeMessage Fault → (old new : Peers) → Type 0
IsChangedIfRead keeper sender (Ok message) old new = IsChangedByMessage keeper sender message old new
IsChangedIfRead keeper sender (Err fault) old new = new ≡ record old { drops = with_unreadable old.drops }

-- What changes with what has come: at a tick, the nodes that the host hears, and the silences; with a message of a node
-- that has another cluster file, the count of these messages, and the nodes of which is told; with any other frame that
-- is dropped, the count for its cause; and with a request that a closed bank declines, the count of these. So each
-- frame that is dropped counts once. Nothing changes with anything else, nor with a letter of the node to itself.
abbrev pub IsChangedBy : Option Arrival → Keeper → (old new : Peers) → Type 0
IsChangedBy (Some (came.Tick heard)) keeper old new = new ≡ with_tick heard old
IsChangedBy (Some (came.Message sender frame)) keeper old new =
    IsChangedIfRead keeper sender (message_from frame) old new
IsChangedBy (Some (came.Command client frame)) keeper old new = new ≡ old
IsChangedBy (Some (came.Left client)) keeper old new = new ≡ old
IsChangedBy None keeper old new = new ≡ record old { drops = with_malformed old.drops }

-- whether a frame of the node of this number is dropped, by what was read of it
abbrev pub is_dropped_if_read : Keeper → (sender : ℕ) → Result NodeMessage Fault → Bool
is_dropped_if_read keeper sender (Ok message) =
    not (is_admitted keeper sender message && heeds (kept_of keeper) (named_of message.named))
is_dropped_if_read keeper sender (Err fault) = true

-- whether the node drops what has come
abbrev pub is_dropped : Keeper → Option Arrival → Bool
is_dropped keeper None = true
is_dropped keeper (Some (came.Message sender frame)) = is_dropped_if_read keeper sender (message_from frame)
is_dropped keeper (Some arrival) = false

-- whatever comes, the sum of the counts grows by one, as far as 2^64 - 1, if the node drops it, and else stays the same
abbrev pub DroppedFramesCountOnce : Type 0
DroppedFramesCountOnce = (arrival : Option Arrival) (keeper : Keeper) (old new : Peers) →
    IsChangedBy arrival keeper old new → frames_dropped new ≡
    (if is_dropped keeper arrival then one_more_counted (frames_dropped old) else frames_dropped old)

-- Reports

-- the next node of which is told
abbrev pub next_report : Peers → Option Report
next_report peers = slice_get peers.others.items peers.told

-- the state after the next report, if there is one, was told: it counts as told, and is not told again
abbrev pub with_next_told : Peers → Peers
with_next_told peers =
    if nat_lt peers.told (length peers.others.items) then record peers { told = peers.told + 1 } else peers

-- each report in `others` differs from all reports before it in the list, and from all in `front`
abbrev pub AreDistinctAfter : (front others : List Report) → Type 0
AreDistinctAfter front [] = ⊤
AreDistinctAfter front (other ∷ others) = (is_known front other ≡ false) × AreDistinctAfter (front ++ other ∷ []) others

-- whatever comes, each node with another cluster file is told of once for each digest
abbrev pub OthersAreToldOnce : Type 0
OthersAreToldOnce = (arrival : Option Arrival) (keeper : Keeper) (old new : Peers) → IsChangedBy arrival keeper old new
    → AreDistinctAfter [] old.others.items → AreDistinctAfter [] new.others.items
