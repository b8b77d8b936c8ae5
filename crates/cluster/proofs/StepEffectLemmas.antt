-- What each step leaves of an object's parts: of its layouts, of the bytes of its banks, and how many calls it has.
use Rattle.std.proofs.Common.{◌≡◌, ℕ, zero, suc, get_or, Bool, true, false, if◌then◌else◌, is_some, List, [], ◌∷◌}
use Rattle.std.proofs.Common.{◌++◌, length, slice_get, slice_set, Option, Some, None, refl, ap, ◌∙◌}
use Rattle.layout.specs.Layout.{Layout}
use Rattle.encoder.specs.Fragment.{fragment}
use Rattle.bank.specs.Bank.{Bank}
use Rattle.bank.specs.Collect.{retired_bank}
use Rattle.bank.specs.declared.kind.Kind.{Kind}
use Rattle.mail.specs.declared.message.Message.{Message}
use Rattle.mail.specs.declared.message.Body.{Body}
use Rattle.mail.specs.declared.message.Body.TheVariants as body
use Rattle.mail.specs.Phase.{Phase}
use Rattle.record.specs.Legal.{due_of}
use Rattle.record.specs.Records.{Call, Object, base_of, index_by_id}
use Rattle.record.specs.Wants.{current_phase}
use Rattle.record.specs.Steps.{Step, stepped, on_call, on_message, begun_object, advanced_object}
use Rattle.record.specs.Steps.{asked_again, supplied_by, taken_calls, taken_by, served_by, opened_banks}
use Rattle.register.specs.Position.{all_bytes}
use Rattle.std.proofs.lemmas.List.{length-set}
use Rattle.register.proofs.ListLemmas.{length_map, length_push}
use Rattle.register.proofs.OpenedObjectLemmas.{opened_banks_bytes, bytes_push}
use Rattle.cluster.specs.Kept.{AreBanked}

-- `later` has the layouts and the banks of `object`, and as many calls
pub record IsQuiet (object later : Object) : Type 0 where
  pub layouts : later.layouts ≡ object.layouts
  pub banks : later.banks ≡ object.banks
  pub calls : length later.calls ≡ length object.calls

-- `later` has the layouts and the banks of `object`, and one more call
pub record IsCalled (object later : Object) : Type 0 where
  pub layouts : later.layouts ≡ object.layouts
  pub banks : later.banks ≡ object.banks
  pub calls : length later.calls ≡ suc (length object.calls)

-- one more layout, banks of as many bytes, and one more call
pub record IsMoved (object : Object) (layout : Layout) (later : Object) : Type 0 where
  pub layouts : later.layouts ≡ object.layouts ++ layout ∷ []
  pub banks : all_bytes later.banks ≡ all_bytes object.banks
  pub banked : AreBanked object.layouts object.banks → AreBanked later.layouts later.banks
  pub calls : length later.calls ≡ suc (length object.calls)

-- `later` has the layouts of `object` and as many calls; if each layout had a bank for each member, it still does
pub record IsServed (object later : Object) : Type 0 where
  pub layouts : later.layouts ≡ object.layouts
  pub banked : AreBanked object.layouts object.banks → AreBanked later.layouts later.banks
  pub calls : length later.calls ≡ length object.calls

-- Quiet steps

pub unchanged : (object : Object) → IsQuiet object object
unchanged object = record { layouts = refl; banks = refl; calls = refl }

on_call_quiet : (object : Object) (found : Option Call) (change : Call → Object) → ((call : Call) → IsQuiet object (change call))
    → IsQuiet object (on_call object found change)
on_call_quiet object None change quiet = unchanged object
on_call_quiet object (Some call) change quiet = quiet call

on_message_quiet : (object : Object) (found : Option Message) (change : Message → Object) →
    ((message : Message) → IsQuiet object (change message)) → IsQuiet object (on_message object found change)
on_message_quiet object None change quiet = unchanged object
on_message_quiet object (Some message) change quiet = quiet message

begun_quiet : (object : Object) (index : ℕ) (call : Call) (next : Option (Kind × ℕ)) (now : ℕ) →
    IsQuiet object (begun_object fragment object index call next now)
begun_quiet object index call None now = unchanged object
begun_quiet object index call (Some next) now = record { layouts = refl; banks = refl; calls = length-set object.calls index _ }

asked_quiet : (object : Object) (call : Call) (phase : Option Phase) → IsQuiet object (asked_again fragment object call phase)
asked_quiet object call None = unchanged object
asked_quiet object call (Some phase) = record { layouts = refl; banks = refl; calls = refl }

supplied_quiet : (object : Object) (index : ℕ) (call : Call) (now : ℕ) (phase : Option Phase) →
    IsQuiet object (supplied_by fragment object index call now phase)
supplied_quiet object index call now None = unchanged object
supplied_quiet object index call now (Some phase) = pick (is_some phase.end)
  where
    pick : (b : Bool) →
        IsQuiet object (if b then advanced_object fragment object index call now else asked_again fragment object call (Some phase))
    pick true = begun_quiet object index call (due_of object index call) now
    pick false = asked_quiet object call (Some phase)

pub advance_quiet : (index : ℕ) (object : Object) (now : ℕ) → IsQuiet object (stepped fragment (Step.Advance index) now object)
advance_quiet index object now =
    on_call_quiet object (slice_get object.calls index) _ (λ call. begun_quiet object index call (due_of object index call) now)

pub again_quiet : (index : ℕ) (object : Object) (now : ℕ) → IsQuiet object (stepped fragment (Step.Again index) now object)
again_quiet index object now =
    on_call_quiet object (slice_get object.calls index) _ (λ call. begun_quiet object index call (due_of object index call) now)

pub supply_quiet : (index : ℕ) (object : Object) (now : ℕ) → IsQuiet object (stepped fragment (Step.Supply index) now object)
supply_quiet index object now =
    on_call_quiet object (slice_get object.calls index) _ (λ call. supplied_quiet object index call now (current_phase call.phases))

pub post_quiet : (index : ℕ) (object : Object) (now : ℕ) → IsQuiet object (stepped fragment (Step.Post index) now object)
post_quiet index object now =
    on_call_quiet object (slice_get object.calls index) _ (λ call. asked_quiet object call (current_phase call.phases))

pub settle_quiet : (index : ℕ) (value : List ℕ) (object : Object) (now : ℕ) →
    IsQuiet object (stepped fragment (Step.Settle index value) now object)
settle_quiet index value object now =
    on_call_quiet object (slice_get object.calls index) _
    (λ call. record { layouts = refl; banks = refl; calls = length-set object.calls index _ })

pub answer_quiet : (index : ℕ) (object : Object) (now : ℕ) → IsQuiet object (stepped fragment (Step.AnswerCall index) now object)
answer_quiet index object now =
    on_call_quiet object (slice_get object.calls index) _
    (λ call. record { layouts = refl; banks = refl; calls = length-set object.calls index _ })

taken_length : (calls : List Call) (message : Message) (now : ℕ) (found : Option Call) →
    length (taken_calls calls message now found) ≡ length calls
taken_length calls message now None = refl
taken_length calls message now (Some call) = length-set calls (index_by_id calls message.call) _

taken_quiet : (object : Object) (place : ℕ) (message : Message) (it : Body) (now : ℕ) →
    IsQuiet object (taken_by object place message it now)
taken_quiet object place message (body.Request asked) now = unchanged object
taken_quiet object place message (body.Reply kind made) now =
    record {
      layouts = refl;
      banks = refl;
      calls = taken_length object.calls message now
          (slice_get object.calls (index_by_id object.calls message.call));
    }

pub take_quiet : (place : ℕ) (object : Object) (now : ℕ) → IsQuiet object (stepped fragment (Step.Take place) now object)
take_quiet place object now =
    on_message_quiet object (slice_get object.mail place) _ (λ message. taken_quiet object place message message.body now)

pub lose_quiet : (place : ℕ) (object : Object) (now : ℕ) → IsQuiet object (stepped fragment (Step.Lose place) now object)
lose_quiet place object now = record { layouts = refl; banks = refl; calls = refl }

pub repeat_quiet : (place : ℕ) (object : Object) (now : ℕ) → IsQuiet object (stepped fragment (Step.Repeat place) now object)
repeat_quiet place object now =
    on_message_quiet object (slice_get object.mail place) _ (λ message. record { layouts = refl; banks = refl; calls = refl })

-- New calls

one_more : (calls : List Call) (index : ℕ) (fresh begun : Call) →
    length (slice_set (calls ++ fresh ∷ []) index begun) ≡ suc (length calls)
one_more calls index fresh begun = length-set (calls ++ fresh ∷ []) index begun ∙ length_push calls fresh

pub read_called : (id : ℕ) (object : Object) (now : ℕ) → IsCalled object (stepped fragment (Step.CallRead id) now object)
read_called id object now = record { layouts = refl; banks = refl; calls = one_more object.calls (length object.calls) _ _ }

pub write_called : (id : ℕ) (value : List ℕ) (object : Object) (now : ℕ)
    → IsCalled object (stepped fragment (Step.CallWrite id value) now object)
write_called id value object now = record { layouts = refl; banks = refl; calls = one_more object.calls (length object.calls) _ _ }

pub opened_length : (members : List ℕ) (member : ℕ) (delta : Option ℕ) (now : ℕ)
    → length (opened_banks members member delta now) ≡ length members
opened_length [] member delta now = refl
opened_length (m ∷ members) member delta now = ap suc (opened_length members (suc member) delta now)

banked_pushed : (layouts : List Layout) (banks : List (List Bank)) (layout : Layout) (more : List Bank) → AreBanked layouts banks
    → length more ≡ length layout.members → AreBanked (layouts ++ layout ∷ []) (banks ++ more ∷ [])
banked_pushed [] [] layout more banked same = (same, tt)
banked_pushed (l ∷ layouts) (b ∷ banks) layout more banked same = (banked.0, banked_pushed layouts banks layout more banked.1 same)
banked_pushed _ _ layout more banked same = absurd banked

pub move_moved : (id : ℕ) (layout : Layout) (object : Object) (now : ℕ) →
    IsMoved object layout (stepped fragment (Step.CallMove id layout) now object)
move_moved id layout object now = record {
  layouts = refl;
  banks = bytes_push object.banks (opened_banks layout.members 0 object.delta now) (opened_banks_bytes layout.members 0 object.delta now);
  banked = λ all. banked_pushed object.layouts object.banks layout (opened_banks layout.members 0 object.delta now) all
      (opened_length layout.members 0 object.delta now);
  calls = one_more object.calls (length object.calls) _ _;
}

-- A request that is served

banked_set : (layouts : List Layout) (banks : List (List Bank)) (position : ℕ) (more : List Bank) → AreBanked layouts banks
    → length more ≡ length (get_or banks position []) → AreBanked layouts (slice_set banks position more)
banked_set [] [] position more banked same = tt
banked_set (l ∷ layouts) (b ∷ banks) zero more banked same = (same ∙ banked.0, banked.1)
banked_set (l ∷ layouts) (b ∷ banks) (suc position) more banked same = (banked.0, banked_set layouts banks position more banked.1 same)
banked_set _ _ position more banked same = absurd banked

served_parts : (object : Object) (place : ℕ) (message : Message) (it : Body) (now : ℕ) →
    IsServed object (served_by object place message it now)
served_parts object place message (body.Request asked) now = record {
  layouts = refl;
  banked = λ all. banked_set object.layouts object.banks message.position _ all
      (length-set (get_or object.banks message.position []) message.member _);
  calls = refl;
}
served_parts object place message (body.Reply kind made) now = record { layouts = refl; banked = λ all. all; calls = refl }

pub serve_served : (place : ℕ) (object : Object) (now : ℕ) → IsServed object (stepped fragment (Step.Serve place) now object)
serve_served place object now = pick (slice_get object.mail place)
  where
    pick : (found : Option Message) →
        IsServed object (on_message object found (λ message. served_by object place message message.body now))
    pick None = record { layouts = refl; banked = λ all. all; calls = refl }
    pick (Some message) = served_parts object place message message.body now

-- The base that is retired

pub retire_served : (object : Object) (now : ℕ) → IsServed object (stepped fragment Step.Retire now object)
retire_served object now = record {
  layouts = refl;
  banked = λ all. banked_set object.layouts object.banks (base_of object) _ all
      (length_map (λ (bank : Bank). retired_bank bank now) (get_or object.banks (base_of object) []));
  calls = refl;
}
