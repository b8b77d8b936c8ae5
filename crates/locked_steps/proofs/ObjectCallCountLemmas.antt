-- How many reads and writes of an object there are after each step.
use Rattle.std.proofs.Common.{◌≡◌, ℕ, zero, suc, ◌+◌, Bool, true, false, if◌then◌else◌, is_some, List, [], ◌∷◌, ◌++◌, length}
use Rattle.std.proofs.Common.{slice_get, slice_set, Option, Some, None, refl, sym, ap, ◌∙◌, arith}
use Rattle.encoder.specs.Fragment.{fragment}
use Rattle.bank.specs.declared.kind.Kind.{Kind}
use Rattle.mail.specs.declared.message.Message.{Message}
use Rattle.mail.specs.declared.message.Body.{Body}
use Rattle.mail.specs.declared.message.Body.TheVariants as body
use Rattle.mail.specs.Phase.{Phase}
use Rattle.record.specs.Legal.{due_of}
use Rattle.record.specs.Records.{Call, Object, index_by_id}
use Rattle.record.specs.Wants.{current_phase}
use Rattle.record.specs.Steps.{Step, stepped, on_call, on_message, begun_object, advanced_object, answered_object, asked_again}
use Rattle.record.specs.Steps.{repeated_object, settled_object, supplied_by, supplied_object, taken_calls, taken_by, served_by}
use Rattle.register.proofs.ListLemmas.{same_some}
use Rattle.locked_steps.specs.Calls.{is_client, client_count}

abbrev one_if : Bool → ℕ
one_if b = if b then 1 else 0

first_count : (b : Bool) (n : ℕ) → (if b then suc n else n) ≡ one_if b + n
first_count true n = omega arith
first_count false n = omega arith

-- a call put in the place of another of its kind
count_set : (calls : List Call) (index : ℕ) (old new : Call) → slice_get calls index ≡ Some old → new.kind ≡ old.kind
    → client_count (slice_set calls index new) ≡ client_count calls
count_set [] index old new at kind = refl
count_set (c ∷ cs) zero old new at kind =
    ap (λ k. if is_client k then suc (client_count cs) else client_count cs) (kind ∙ ap (λ (x : Call). x.kind) (sym (same_some c old at)))
count_set (c ∷ cs) (suc index) old new at kind =
    ap (λ n. if is_client c.kind then suc n else n) (count_set cs index old new at kind)

-- one more call
count_begun : (calls : List Call) (fresh begun : Call)
    → client_count (slice_set (calls ++ fresh ∷ []) (length calls) begun) ≡ client_count calls + one_if (is_client begun.kind)
count_begun [] fresh begun = pick (is_client begun.kind)
  where
    pick : (b : Bool) → (if b then 1 else 0) ≡ 0 + one_if b
    pick true = omega arith
    pick false = omega arith
count_begun (c ∷ cs) fresh begun =
    let rest = count_begun cs fresh begun in
    let one = first_count (is_client c.kind) (client_count (slice_set (cs ++ fresh ∷ []) (length cs) begun)) in
    omega (arith, rest, one, first_count (is_client c.kind) (client_count cs))

abbrev IsQuiet : Object → Object → Type 0
IsQuiet object later = client_count later.calls ≡ client_count object.calls

on_call_quiet : (object : Object) (index : ℕ) (found : Option Call) (change : Call → Object) → slice_get object.calls index ≡ found
    → ((call : Call) → slice_get object.calls index ≡ Some call → IsQuiet object (change call))
    → IsQuiet object (on_call object found change)
on_call_quiet object index None change at quiet = refl
on_call_quiet object index (Some call) change at quiet = quiet call at

on_message_quiet : (object : Object) (found : Option Message) (change : Message → Object)
    → ((message : Message) → IsQuiet object (change message)) → IsQuiet object (on_message object found change)
on_message_quiet object None change quiet = refl
on_message_quiet object (Some message) change quiet = quiet message

begun_quiet : (object : Object) (index : ℕ) (call : Call) (next : Option (Kind × ℕ)) (now : ℕ) → slice_get object.calls index ≡ Some call
    → IsQuiet object (begun_object fragment object index call next now)
begun_quiet object index call None now at = refl
begun_quiet object index call (Some next) now at = count_set object.calls index call _ at refl

asked_quiet : (object : Object) (call : Call) (phase : Option Phase) → IsQuiet object (asked_again fragment object call phase)
asked_quiet object call None = refl
asked_quiet object call (Some phase) = refl

supplied_quiet : (object : Object) (index : ℕ) (call : Call) (now : ℕ) (phase : Option Phase) → slice_get object.calls index ≡ Some call
    → IsQuiet object (supplied_by fragment object index call now phase)
supplied_quiet object index call now None at = refl
supplied_quiet object index call now (Some phase) at = pick (is_some phase.end)
  where
    pick : (b : Bool)
        → IsQuiet object (if b then advanced_object fragment object index call now else asked_again fragment object call (Some phase))
    pick true = begun_quiet object index call (due_of object index call) now at
    pick false = asked_quiet object call (Some phase)

taken_count : (calls : List Call) (message : Message) (now : ℕ) (found : Option Call)
    → slice_get calls (index_by_id calls message.call) ≡ found
    → client_count (taken_calls calls message now found) ≡ client_count calls
taken_count calls message now None at = refl
taken_count calls message now (Some call) at = count_set calls (index_by_id calls message.call) call _ at refl

taken_quiet : (object : Object) (place : ℕ) (message : Message) (it : Body) (now : ℕ)
    → IsQuiet object (taken_by object place message it now)
taken_quiet object place message (body.Request asked) now = refl
taken_quiet object place message (body.Reply kind made) now =
    taken_count object.calls message now
    (slice_get object.calls (index_by_id object.calls message.call)) refl

served_quiet : (object : Object) (place : ℕ) (message : Message) (it : Body) (now : ℕ)
    → IsQuiet object (served_by object place message it now)
served_quiet object place message (body.Request asked) now = refl
served_quiet object place message (body.Reply kind made) now = refl

-- how many reads and writes a step begins
abbrev pub begins : Step → ℕ
begins (Step.CallRead id) = 1
begins (Step.CallWrite id value) = 1
begins _ = 0

-- the reads and writes of one object
pub count_stepped : (step : Step) (now : ℕ) (object : Object)
    → client_count (stepped fragment step now object).calls ≡ client_count object.calls + begins step
count_stepped (Step.Advance index) now object =
    let same =
    on_call_quiet object index (slice_get object.calls index) (λ call. advanced_object fragment object index call now) refl
    (λ call at. begun_quiet object index call (due_of object index call) now at) in
    omega (arith, same)
count_stepped (Step.Again index) now object =
    let same =
    on_call_quiet object index (slice_get object.calls index) (λ call. advanced_object fragment object index call now) refl
    (λ call at. begun_quiet object index call (due_of object index call) now at) in
    omega (arith, same)
count_stepped (Step.Supply index) now object =
    let same =
    on_call_quiet object index (slice_get object.calls index) (λ call. supplied_object fragment object index call now) refl
    (λ call at. supplied_quiet object index call now (current_phase call.phases) at) in
    omega (arith, same)
count_stepped (Step.Post index) now object =
    let same =
    on_call_quiet object index (slice_get object.calls index) (λ call. asked_again fragment object call (current_phase call.phases))
    refl (λ call at. asked_quiet object call (current_phase call.phases)) in
    omega (arith, same)
count_stepped (Step.Settle index value) now object =
    let same = on_call_quiet object index (slice_get object.calls index) (λ call. settled_object object index call value) refl
    (λ call at. count_set object.calls index call (record call { settled = Some value }) at refl) in
    omega (arith, same)
count_stepped (Step.AnswerCall index) now object =
    let same = on_call_quiet object index (slice_get object.calls index) (λ call. answered_object object index call now) refl
    (λ call at. count_set object.calls index call (record call { answered = Some now }) at refl) in
    omega (arith, same)
count_stepped (Step.Serve place) now object =
    let same =
    on_message_quiet object (slice_get object.mail place) (λ message. served_by object place message message.body now)
    (λ message. served_quiet object place message message.body now) in
    omega (arith, same)
count_stepped (Step.Take place) now object =
    let same =
    on_message_quiet object (slice_get object.mail place) (λ message. taken_by object place message message.body now)
    (λ message. taken_quiet object place message message.body now) in
    omega (arith, same)
count_stepped Step.Retire now object = omega arith
count_stepped (Step.Lose place) now object = omega arith
count_stepped (Step.Repeat place) now object =
    let same = on_message_quiet object (slice_get object.mail place) (λ message. repeated_object object message) (λ message. refl) in
    omega (arith, same)
count_stepped _ now object = count_begun object.calls _ _
