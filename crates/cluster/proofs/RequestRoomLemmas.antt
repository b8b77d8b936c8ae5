-- The room that a request has which is served, and what else is read of a message.
use Rattle.std.proofs.Common.{◌≡◌, ℕ, suc, ◌+◌, ◌≤◌, ◌⊎◌, Bool, true, false, nat_le, List, length, slice_get}
use Rattle.std.proofs.Common.{option_map, Option, Some, None, Result, Ok, Err, IfErr, inl, inr, refl, sym, ap, ◌∙◌, arith}
use Rattle.std.proofs.lemmas.Option.{slice_get_past}
use Rattle.tag.specs.declared.limits.TheConstants.{MOST_BYTES, MOST_STEPS}
use Rattle.tag.specs.declared.refusal.Refusal.{Refusal}
use Rattle.tag.specs.declared.refusal.Refusal.TheVariants.{NoMemory, NoMessage, Down, Full}
use Rattle.tag.specs.Refusal.{IsByCause}
use Rattle.bank.specs.declared.request.Request.{Request}
use Rattle.mail.specs.declared.message.Message.{Message}
use Rattle.mail.specs.declared.message.Body.{Body}
use Rattle.mail.specs.declared.message.Body.TheVariants as body
use Rattle.mail.specs.Message.{request_bytes}
use Rattle.record.specs.Records.{Object}
use Rattle.register.specs.Causes.{unless, if_step, if_message}
use Rattle.register.specs.Causes as own
use Rattle.register.specs.Position.{all_bytes}
use Rattle.register.proofs.RoomLemmas.{is_le, le_of, step_within}
use Rattle.cluster.specs.Accounts.{banks_all}
use Rattle.cluster.specs.Causes.{next, message_cause, serving_cause, can_handle, place_cause, handled_at}
use Rattle.cluster.specs.Cluster.{Cluster, is_reached}
use Rattle.cluster.specs.Kept.{IsKeptCluster}
use Rattle.cluster.specs.Serving.{HasServersAndCounts}
use Rattle.cluster.proofs.StepLimitLemmas.{past_step}

-- the request that is served, within the limit of steps and with room beside all that is stored
pub record HasRoom (cluster : Cluster) (place : ℕ) (object : Object) : Type 0 where
  pub message : Message
  pub waits : slice_get object.mail place ≡ Some message
  pub asked : Request
  pub is : message.body ≡ body.Request asked
  pub few : suc cluster.counter ≤ MOST_STEPS
  pub fits : banks_all cluster.objects + request_bytes asked ≤ MOST_BYTES

past_unless : (holds : Bool) (refusal : Refusal) (later : Option Refusal) → unless holds refusal later ≡ None → later ≡ None
past_unless true refusal later none = none
past_unless false refusal later none = absurd (cc)

holds_true : (holds : Bool) (refusal : Refusal) (later : Option Refusal) → unless holds refusal later ≡ None → holds ≡ true
holds_true true refusal later none = refl
holds_true false refusal later none = absurd (cc)

pub has_room : (cluster : Cluster) (place : ℕ) (object : Object) → serving_cause cluster place object ≡ None →
    HasRoom cluster place object
has_room cluster place object none = go (slice_get object.mail place) refl none
  where
    in_body : (m : Message) → slice_get object.mail place ≡ Some m → (b : Body) → m.body ≡ b →
        message_cause cluster object m b ≡ None → HasRoom cluster place object
    in_body m waits (body.Request asked) is none =
        let room : Option Refusal = unless (nat_le (banks_all cluster.objects + request_bytes asked) MOST_BYTES) Full None in
        let later : if_step (next cluster) room ≡ None = past_unless (is_reached cluster object m) Down
        (if_step (next cluster) room) none in
        let few = past_step (next cluster) room later in
        let fits : room ≡ None = sym (step_within (next cluster) room few) ∙ later in
        record {
          message = m;
          waits = waits;
          asked = asked;
          is = is;
          few = few;
          fits = le_of (banks_all cluster.objects + request_bytes asked) MOST_BYTES
              (holds_true (nat_le (banks_all cluster.objects + request_bytes asked) MOST_BYTES) Full None fits);
        }
    in_body m waits (body.Reply kind made) is none = absurd (cc)

    go : (found : Option Message) → slice_get object.mail place ≡ found
        → if_message found (λ message. message_cause cluster object message message.body) ≡ None → HasRoom cluster place object
    go None is none = absurd (cc)
    go (Some m) is none = in_body m is m.body refl none

-- where the cluster has room the object has
pub own_none : {cluster : Cluster} {place : ℕ} {object : Object} → HasRoom cluster place object → (now : ℕ) → now ≤ MOST_STEPS
    → all_bytes object.banks ≤ banks_all cluster.objects → own.serve_cause now object place ≡ None
own_none {cluster} {place} {object} room now few part =
    let fits = room.fits in
    let within : all_bytes object.banks + request_bytes room.asked ≤ MOST_BYTES = omega (arith, fits, part) in
    ap (λ (found : Option Message). if_message found (λ message. own.served_cause now object message.body)) room.waits
    ∙ ap (own.served_cause now object) room.is
    ∙ step_within now _ few
    ∙ ap (λ b. unless b Full None) (is_le (all_bytes object.banks + request_bytes room.asked) MOST_BYTES within)

-- a cluster that keeps its invariant has its own servers and counter, and as many bytes in its banks as it counts
pub own_of : {cluster : Cluster} {bytes count : ℕ} → IsKeptCluster cluster bytes count →
    HasServersAndCounts cluster cluster.servers cluster.counter bytes
own_of kept = record { servers = refl; counter = refl; bytes = sym kept.stored }

pub is_of : {cluster now : Cluster} {bytes count : ℕ} → IsKeptCluster cluster bytes count → cluster ≡ now →
    HasServersAndCounts now cluster.servers cluster.counter bytes
is_of kept same = record {
  servers = ap (λ (k : Cluster). k.servers) (sym same);
  counter = ap (λ (k : Cluster). k.counter) (sym same);
  bytes = ap (λ (k : Cluster). banks_all k.objects) (sym same) ∙ sym kept.stored;
}

-- Messages that can be handled

pub handled_is : (cluster : Cluster) (object : Object) (place : ℕ) (m : Message) (b : Bool) → slice_get object.mail place ≡ Some m
    → b ≡ can_handle cluster object m m.body → handled_at cluster place object ≡ Some b
handled_is cluster object place m b waits is =
    ap (option_map (λ (message : Message). can_handle cluster object message message.body)) waits ∙ ap Some (sym is)

pub place_past : (object : Object) (place : ℕ) (mail : List Message) → mail ≡ object.mail → length mail ≤ place →
    place_cause place object ≡ Some NoMessage
place_past object place mail same past = cc (slice_get_past mail place past)

pub place_there : (object : Object) (place : ℕ) (m : Message) → slice_get object.mail place ≡ Some m →
    place_cause place object ≡ None
place_there object place m waits = ap (λ (found : Option Message). if_message found (λ message. None)) waits

-- an answer that memory alone may refuse
pub only_memory : {T : Type 0} {cause : Option Refusal} (answer : Result T Refusal) → cause ≡ None →
    IfErr answer (λ e. e ≡ NoMemory) → IsByCause cause answer
only_memory (Ok x) none refused = none
only_memory (Err e) none refused = inr (none, refused)

pub memory_left : {a b : Option Refusal} {r : Refusal} → a ≡ None → b ≡ None →
    (b ≡ Some r) ⊎ ((b ≡ None) × (r ≡ NoMemory)) → (a ≡ Some r) ⊎ ((a ≡ None) × (r ≡ NoMemory))
memory_left none own (inl some) = absurd (cc)
memory_left none own (inr left) = inr (none, left.1)
