-- The contracts that docs/trusted.md lists do not depend on this file; other contracts and proofs do.
-- Which messages of an object can be handled, which of them is chosen, and how one is handled.
use Rattle.std.specs.Prelude.{◌≡◌, ℕ, suc, ◌%◌, ◌==◌, ◌&&◌, Bool, if◌then◌else◌, List, [], ◌∷◌, length}
use Rattle.std.specs.Prelude.{drop, Option, Some, option_map, slice_get}
use Rattle.tag.specs.declared.refusal.Refusal.{Refusal}
use Rattle.mail.specs.declared.message.Message.{Message}
use Rattle.mail.specs.declared.message.Body.{Body}
use Rattle.mail.specs.declared.message.Body.TheVariants as body
use Rattle.mail.specs.Message.{is_request}
use Rattle.record.specs.Records.{Object}
use Rattle.record.specs.Steps.{Step}
use Rattle.register.specs.Causes.{if_message, taken_cause}
use Rattle.register.specs.View.{took_at}
use Rattle.cluster.specs.Cluster.{Cluster}
use Rattle.cluster.specs.Causes.{next, message_cause, can_handle}
use Rattle.driver.specs.declared.choices.Filter.{Filter}
use Rattle.driver.specs.declared.choices.Filter.TheVariants as filter
use Rattle.driver.specs.declared.messages.Handled.{Handled}
use Rattle.driver.specs.declared.messages.Handled.TheVariants as handled

-- the places of the messages that pass a test, where the first message is at `place`
abbrev pub places_passing : (Message → Bool) → (place : ℕ) → List Message → List ℕ
places_passing test place [] = []
places_passing test place (message ∷ messages) =
    if test message then place ∷ places_passing test (suc place) messages else places_passing test (suc place) messages

-- whether a message belongs to the call and can be handled: it is a reply, or a request to a server that is up
abbrev pub is_choice : Cluster → (call : ℕ) → Object → Message → Bool
is_choice cluster call object message = message.call == call && can_handle cluster object message message.body

-- the places of the call's messages that can be handled, in mail order
abbrev pub choices : Cluster → (call : ℕ) → Object → List ℕ
choices cluster call object = places_passing (is_choice cluster call object) 0 object.mail

-- whether a message passes the filter and can be handled
abbrev pub passes : Cluster → Object → Filter → Message → Bool
passes cluster object filter.All message = can_handle cluster object message message.body
passes cluster object (filter.Call call) message = is_choice cluster call object message

-- the places of those messages, from a place of the mail on, in mail order
abbrev pub choices_from : Cluster → Object → Filter → (place : ℕ) → List ℕ
choices_from cluster object filter place = places_passing (passes cluster object filter) place (drop place object.mail)

-- this place is the one at index `answer` modulo the count, where `answer` is the number that the chooser returns
abbrev pub Picks : {C : Type 0} → (C → ℕ → ℕ → C → Type 0) → (candidates : List ℕ) → (before after : C) → (place : ℕ)
    → Type 0
Picks chooses candidates before after place =
    (answer : ℕ) × chooses before (length candidates) answer after
    × (slice_get candidates (answer % length candidates) ≡ Some place)

-- the step that handles the message at a place: a request is served, and a reply is taken
abbrev pub handling : (place : ℕ) → Body → Step
handling place (body.Request asked) = Step.Serve place
handling place (body.Reply kind made) = Step.Take place

-- the step that was made for the message at a place
abbrev pub step_of_handled : (place : ℕ) → Handled → Step
step_of_handled place handled.Served = Step.Serve place
step_of_handled place (handled.Taken took) = Step.Take place

-- what is returned for the message at a place: a request was served, or a reply was taken
abbrev pub handled_as : Object → (place : ℕ) → Body → Handled
handled_as object place (body.Request asked) = handled.Served
handled_as object place (body.Reply kind made) = handled.Taken (took_at object place)

-- what is returned for the message at a place; none if there is no message
abbrev pub handled_result_at : (place : ℕ) → Object → Option Handled
handled_result_at place object =
    option_map (λ (message : Message). handled_as object place message.body) (slice_get object.mail place)

-- why a message is not handled: the cause of serving a request, or of taking a reply
abbrev pub handled_cause : Cluster → Object → Message → Body → Option Refusal
handled_cause cluster object message (body.Request asked) = message_cause cluster object message (body.Request asked)
handled_cause cluster object message (body.Reply kind made) = taken_cause (next cluster) (body.Reply kind made)

-- why the message at a place is not handled; NoMessage if there is none
abbrev pub handling_cause : Cluster → (place : ℕ) → Object → Option Refusal
handling_cause cluster place object =
    if_message (slice_get object.mail place) (λ message. handled_cause cluster object message message.body)

-- whether the message at a place is a request; none where there is no message
abbrev pub request_at : (place : ℕ) → Object → Option Bool
request_at place object = option_map (λ (message : Message). is_request message.body) (slice_get object.mail place)
