-- Why each step is refused: the first refusal that applies, in the order of refusals. `NoMemory` comes after these.
use Rattle.std.specs.Prelude.{ℕ, suc, ◌+◌, Bool, true, not, nat_le, nat_lt, is_some}
use Rattle.std.specs.Prelude.{List, length, Option, Some, None, option_map, slice_get}
use Rattle.std.specs.List.{list_all}
use Rattle.tag.specs.declared.limits.TheConstants.{LONGEST_NAME, MOST_BYTES, MOST_LAYOUTS, MOST_OBJECTS}
use Rattle.tag.specs.declared.refusal.Refusal.{Refusal}
use Rattle.tag.specs.declared.refusal.Refusal.TheVariants.{BadLayout, NoObject, ObjectExists}
use Rattle.tag.specs.declared.refusal.Refusal.TheVariants.{TooLong, NotNow, Down, MovePending, Full}
use Rattle.layout.specs.Layout.{Layout}
use Rattle.mail.specs.declared.message.Message.{Message}
use Rattle.mail.specs.declared.message.Body.{Body}
use Rattle.mail.specs.declared.message.Body.TheVariants as body
use Rattle.mail.specs.Message.{request_bytes}
use Rattle.record.specs.Records.{Object}
use Rattle.register.specs.State.{State}
use Rattle.register.specs.Kept.{has_open_move}
use Rattle.register.specs.Causes.{unless, if_step, if_message, move_cause}
use Rattle.cluster.specs.Cluster.{Cluster, named, is_reached}
use Rattle.cluster.specs.Accounts.{banks_all}

-- the number of the next step
abbrev pub next : Cluster → ℕ
next cluster = suc cluster.counter

-- NoObject if there is no object; otherwise the cause that is read from the object
abbrev pub if_object : Option State → (Object → Option Refusal) → Option Refusal
if_object None cause = Some NoObject
if_object (Some state) cause = cause state.object

-- NoObject if no object has this name; otherwise the cause that is read from that object
abbrev pub object_cause : Cluster → (name : List ℕ) → (Object → Option Refusal) → Option Refusal
object_cause cluster name cause = if_object (named cluster.objects name) cause

-- BadLayout if there is no layout; otherwise the cause that is read from the layout
abbrev pub if_layout : Option Layout → (Layout → Option Refusal) → Option Refusal
if_layout None cause = Some BadLayout
if_layout (Some layout) cause = cause layout

-- whether each member of a layout is a server of the cluster
abbrev pub has_servers : Cluster → Layout → Bool
has_servers cluster layout = list_all (λ member. nat_lt member (length cluster.servers)) layout.members

-- why a layout is not added: a member is no server, or the limit of steps or of layouts is met
abbrev pub layout_cause : Cluster → Layout → Option Refusal
layout_cause cluster layout =
    unless (has_servers cluster layout) BadLayout
    (if_step (next cluster) (unless (nat_lt (length cluster.layouts) MOST_LAYOUTS) Full None))

-- why an object is not created: its name is in use or is too long, there is no layout of this number, or the limit of
-- steps or of objects is met
abbrev pub create_cause : Cluster → (name : List ℕ) → (id : ℕ) → Option Refusal
create_cause cluster name id =
    unless (not (is_some (named cluster.objects name))) ObjectExists
    (if_layout (slice_get cluster.layouts id) (λ layout.
    unless (nat_le (length name) LONGEST_NAME) TooLong
    (if_step (next cluster) (unless (nat_lt (length cluster.objects) MOST_OBJECTS) Full None))))

-- why a server is not taken up or down: there is no such server, or the limit of steps is met
abbrev pub server_cause : Cluster → (server : ℕ) → Option Refusal
server_cause cluster server = unless (nat_lt server (length cluster.servers)) BadLayout (if_step (next cluster) None)

-- why a move does not begin: another move is open, there is no layout of this number, or the move has its own cause
abbrev pub moving_cause : Cluster → (id : ℕ) → Object → Option Refusal
moving_cause cluster id object =
    unless (not (has_open_move object.calls)) MovePending
    (if_layout (slice_get cluster.layouts id) (λ layout. move_cause layout (next cluster) object))

-- why a message is not served: it is a reply, its server is down, or the limit of steps or of stored bytes is met
abbrev pub message_cause : Cluster → Object → Message → Body → Option Refusal
message_cause cluster object message (body.Request asked) =
    unless (is_reached cluster object message) Down
    (if_step (next cluster) (unless (nat_le (banks_all cluster.objects + request_bytes asked) MOST_BYTES) Full None))
message_cause cluster object message (body.Reply kind made) = Some NotNow

-- why the message at this place is not served; NoMessage if there is none
abbrev pub serving_cause : Cluster → (place : ℕ) → Object → Option Refusal
serving_cause cluster place object =
    if_message (slice_get object.mail place) (λ message. message_cause cluster object message message.body)

-- whether a message is a reply, or a request to a server that is up
abbrev pub can_handle : Cluster → Object → Message → Body → Bool
can_handle cluster object message (body.Request asked) = is_reached cluster object message
can_handle cluster object message (body.Reply kind made) = true

-- whether the message at this place can be handled; none if there is no message
abbrev pub handled_at : Cluster → (place : ℕ) → Object → Option Bool
handled_at cluster place object =
    option_map (λ message. can_handle cluster object message message.body) (slice_get object.mail place)

-- NoMessage if there is no message at this place
abbrev pub place_cause : (place : ℕ) → Object → Option Refusal
place_cause place object = if_message (slice_get object.mail place) (λ message. None)
