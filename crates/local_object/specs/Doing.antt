-- What the contracts of an object's functions at a node say: which events happen, and why a function is refused.
use Rattle.std.specs.Prelude.{◌≡◌, ℕ, ◌+◌, ◌^◌, ◌&&◌, not, Bool, true, false, ◌==◌, is_some, if◌then◌else◌, nat_lt}
use Rattle.std.specs.Prelude.{List, [], ◌∷◌, ◌++◌, length, Option, Some, None, slice_get}
use Rattle.std.specs.List.{list_any}
use Rattle.tag.specs.declared.limits.TheConstants.{LONGEST_VALUE}
use Rattle.tag.specs.declared.refusal.Refusal.{Refusal}
use Rattle.tag.specs.declared.refusal.Refusal.TheVariants.{NotNow, TooLong, MovePending, Full}
use Rattle.encoder.specs.Fragment.{fragment}
use Rattle.layout.specs.Layout.{Layout}
use Rattle.mail.specs.Message.{is_request}
use Rattle.record.specs.Legal.{is_move}
use Rattle.open_calls.specs.OpenCalls.{NodeCall, open_call}
use Rattle.letter.specs.declared.letter.Letter.{Letter}
use Rattle.letter.specs.declared.start.Start.{Start}
use Rattle.local_object.specs.Events.{LocalEvent, all_done}
use Rattle.local_object.specs.Outcomes.{learnt_from}
use Rattle.local_object.specs.KeptBanks.{closing}
use Rattle.local_object.specs.Local.{LocalObject, bank_in, heard_place, last_position, layout_here}
use Rattle.local_object.specs.May.{MayAllHappen}

-- these events may happen, and after them the node keeps this and has sent these letters
pub record IsOutcome (old : LocalObject) (events : List LocalEvent) (new : LocalObject) (sent : List Letter)
    : Type 0 where
  pub may : MayAllHappen fragment old events
  pub local : new ≡ (all_done fragment old events).local
  pub letters : sent ≡ (all_done fragment old events).sent

-- Refusals

-- NotNow if a call with this id is open here, and otherwise the next cause
abbrev pub unless_open : LocalObject → (id : ℕ) → Option Refusal → Option Refusal
unless_open local id later = if is_some (open_call local.calls id) then Some NotNow else later

-- why a read is refused
abbrev pub read_refusal : LocalObject → (id : ℕ) → Option Refusal
read_refusal local id = unless_open local id None

-- why a write is refused: its value is too long
abbrev pub write_refusal : LocalObject → (id : ℕ) → List ℕ → Option Refusal
write_refusal local id value = unless_open local id (if nat_lt LONGEST_VALUE (length value) then Some TooLong else None)

-- whether the node carries out a move
abbrev pub is_moving : LocalObject → Bool
is_moving local = list_any (λ call. is_move call.kind) local.calls

-- whether this is a call, and a move
abbrev pub is_move_call : Option NodeCall → Bool
is_move_call None = false
is_move_call (Some call) = is_move call.kind

-- whether a move with this id is open here
abbrev pub has_move_open : LocalObject → (id : ℕ) → Bool
has_move_open local id = is_move_call (open_call local.calls id)

-- why a move is refused: a move is open here, or there are no numbers for the position after the last one and the one
-- after that
abbrev pub move_refusal : LocalObject → (id : ℕ) → Option Refusal
move_refusal local id = unless_open local id
    (if is_moving local then Some MovePending
    else (if nat_lt (last_position local + 2) (2 ^ 32) then None else Some Full))

-- Messages

-- whether there is a server, and it is this node
abbrev pub names_node : Option ℕ → (node : ℕ) → Bool
names_node None node = false
names_node (Some server) node = server == node

-- whether this node is the member of the layout with this number
abbrev pub has_member : Layout → (member node : ℕ) → Bool
has_member layout member node = names_node (slice_get layout.members member) node

-- whether there is a layout of which this node is the member with this number
abbrev pub is_member : Option Layout → (member node : ℕ) → Bool
is_member None member node = false
is_member (Some layout) member node = has_member layout member node

-- whether the node serves a letter: it is a request, its position has a next one, and the node is the member that it
-- names
abbrev pub is_served : LocalObject → Letter → Bool
is_served local letter =
    is_request letter.message.body && (nat_lt (letter.message.position + 1) (2 ^ 32)
    && is_member (layout_here (learnt_from local letter) letter.message.position) letter.message.member local.node)

-- whether a letter tells of no start, or of one that is earlier than the node's
abbrev pub is_earlier_start_if : LocalObject → Option Start → Bool
is_earlier_start_if local None = true
is_earlier_start_if local (Some start) = nat_lt start.position local.start

-- whether a request that the node does not serve is sent back: it is at a position before the node's start, and the
-- letter tells of no start or of an earlier one
abbrev pub is_sent_back : LocalObject → Letter → Bool
is_sent_back local letter =
    nat_lt letter.message.position local.start && is_earlier_start_if local letter.start

-- what a node does with a request that it does not serve: if the letter tells of a start, the node hears of the letter;
-- and it sends the letter back, if it has to
abbrev pub stray_events : LocalObject → Letter → List LocalEvent
stray_events local letter =
    (if is_some letter.start then LocalEvent.Hear letter ∷ [] else [])
    ++ (if is_sent_back local letter then LocalEvent.Redirect letter ∷ [] else [])

-- whether a letter is a request at a position that has a next one
abbrev pub is_askable : Letter → Bool
is_askable letter = is_request letter.message.body && nat_lt (letter.message.position + 1) (2 ^ 32)

-- what a node does with a letter that is to be served
abbrev pub serve_events : LocalObject → Letter → List LocalEvent
serve_events local letter =
    if is_served local letter then LocalEvent.Serve letter ∷ []
    else (if is_askable letter then stray_events local letter else [])

-- whether the node takes a letter: it is a reply to a call that is open here, and its position has a next one
abbrev pub is_taken : LocalObject → Letter → Bool
is_taken local letter =
    if is_request letter.message.body then false
    else nat_lt (letter.message.position + 1) (2 ^ 32) && is_some (open_call local.calls letter.message.call)

-- Calls that are given up

-- whether this is a call, and a read or a write
abbrev pub is_client_call : Option NodeCall → Bool
is_client_call None = false
is_client_call (Some call) = not (is_move call.kind)

-- whether a read or a write with this id is open here
abbrev pub gives_up : LocalObject → (id : ℕ) → Bool
gives_up local id = is_client_call (open_call local.calls id)

-- what a node does to give a call up: nothing if no read or write with this id is open here
abbrev pub give_up_events : LocalObject → (id : ℕ) → List LocalEvent
give_up_events local id = if gives_up local id then LocalEvent.GiveUp id ∷ [] else []

-- Banks that are closed

-- whether the node can close its bank of a position: whether that is open, and its pointer is final
abbrev pub can_close : LocalObject → (position : ℕ) → Bool
can_close local position = is_some (closing (bank_in (heard_place local.places position)))

-- what a node does to close its bank of a position: nothing if it cannot be closed
abbrev pub close_events : LocalObject → (position : ℕ) → List LocalEvent
close_events local position = if can_close local position then LocalEvent.Close position ∷ [] else []
