-- The steps of the record that an event needs: none, or a copy of a message and a step with the copy.
use Rattle.std.proofs.Common.{◌≡◌, ℕ, suc, ◌<◌, ◌≤◌, List, [], ◌∷◌, ◌++◌, length, map, Some}
use Rattle.std.proofs.Common.{refl, sym, subst, ap, ◌∙◌, arith, slice_get}
use Rattle.std.proofs.lemmas.Option.{same_Some, slice_get-map}
use Rattle.mail.specs.declared.message.Message.{Message}
use Rattle.record.specs.Fragments.{Code, IsCode}
use Rattle.record.specs.Preconditions.{MayStep}
use Rattle.record.specs.Records.{Object}
use Rattle.record.specs.Steps.{Step, stepped, on_message, repeated_object}
use Rattle.soundness.specs.Sound.{IsSound}
use Rattle.soundness.proofs.Sound.MailSoundLemmas.{mailed_sound}
use Rattle.soundness.proofs.Sound.RunSoundLemmas.{step_sound}
use Rattle.soundness.proofs.Sound.ItemLemmas.{mail_of}
use Rattle.network.specs.Unstamped.{unstamped_message}
use Rattle.network.specs.Worlds.{World}
use Rattle.network.specs.Following.{Follows, LeadsOn, last_step_after}

-- a sound record is sound after any later step
pub sound_later : (fragment : Code) (object : Object) (step now : ℕ) → step < now → IsSound fragment object step →
    IsSound fragment object now
sound_later fragment object step now less sound =
    mailed_sound object.mail sound less (mail_of sound)

-- no step
pub no_step : (fragment : Code) (object : Object) (events : ℕ) (new : World) → new.now ≡ suc events →
    IsSound fragment object (last_step_after events) → Follows new object → LeadsOn fragment object (last_step_after events) new
no_step fragment object events new now sound follows =
    let end : last_step_after new.now ≡ suc (suc (last_step_after events)) = ap last_step_after now in
    let less : last_step_after events < last_step_after new.now = omega arith in record {
      steps = [];
      may = (let le : last_step_after events ≤ last_step_after new.now = omega arith in le);
      sound = sound_later fragment object (last_step_after events) (last_step_after new.now) less sound;
      follows = follows;
    }

-- one step
pub one_step : (fragment : Code) (object : Object) (events : ℕ) (step : Step) (result : Object) (new : World) → IsCode fragment →
    new.now ≡ suc events → IsSound fragment object (last_step_after events) → MayStep fragment object step →
    stepped fragment step (last_step_after (suc events)) object ≡ result → Follows new result
    → LeadsOn fragment object (last_step_after events) new
one_step fragment object events step result new code now sound may is follows =
    let last = last_step_after events in
    let end : last_step_after new.now ≡ suc (suc last) = ap last_step_after now in record {
      steps = (step, suc (suc last)) ∷ [];
      may = (omega arith, may, omega arith);
      sound = subst (IsSound fragment (stepped fragment step (suc (suc last)) object)) (sym end)
          (step_sound fragment object last (suc (suc last)) code (omega arith) sound step may);
      follows = subst (Follows new) (sym is) follows;
    }

-- the copy of a message and a step
pub copy_and_step : (fragment : Code) (object : Object) (events place : ℕ) (message : Message) (second : Step) (result : Object)
    (new : World) → IsCode fragment → new.now ≡ suc events → IsSound fragment object (last_step_after events) →
    slice_get object.mail place ≡ Some message → MayStep fragment (repeated_object object message) second →
    stepped fragment second (last_step_after (suc events)) (repeated_object object message) ≡ result → Follows new result →
    LeadsOn fragment object (last_step_after events) new
copy_and_step fragment object events place message second result new code now sound at may is follows =
    let last = last_step_after events in
    let copied : stepped fragment (Step.Repeat place) (suc last) object ≡ repeated_object object message =
    ap (λ o. on_message object o (λ m. repeated_object object m)) at in
    let may_second = subst (λ o. MayStep fragment o second) (sym copied) may in
    let both = ap (stepped fragment second (suc (suc last))) copied ∙ is in
    let end : last_step_after new.now ≡ suc (suc last) = ap last_step_after now in record {
      steps = (Step.Repeat place, suc last) ∷ (second, suc (suc last)) ∷ [];
      may = (omega arith, (message, at), (omega arith, may_second, omega arith));
      sound = subst (IsSound fragment (stepped fragment second (suc (suc last)) (stepped fragment (Step.Repeat place) (suc last) object)))
          (sym end)
          (step_sound fragment (stepped fragment (Step.Repeat place) (suc last) object) (suc last) (suc (suc last)) code (omega arith)
          (step_sound fragment object last (suc last) code (omega arith) sound (Step.Repeat place) (message, at)) second may_second);
      follows = subst (Follows new) (sym both) follows;
    }

-- the message of the record that a message of the world is
pub message_there : (xs : List Message) (place : ℕ) (message : Message) → slice_get (map unstamped_message xs) place ≡ Some message →
    (original : Message) × (slice_get xs place ≡ Some original) × (unstamped_message original ≡ message)
message_there xs place message at = grind (arith, same_Some, slice_get-map)

-- what stands at the end of a list
pub get_end : {A : Type 0} (xs : List A) (x : A) → slice_get (xs ++ x ∷ []) (length xs) ≡ Some x
get_end [] x = refl
get_end (y ∷ ys) x = get_end ys x

-- the world one event later, in which nothing else changed
pub ticked_follow : (world : World) (object : Object) → Follows world object → Follows (record world { now = suc world.now }) object
ticked_follow world object follows = record {
  one = follows.one;
  delta = follows.delta;
  layouts = follows.layouts;
  banks = follows.banks;
  sent = follows.sent;
  history = follows.history;
  calls = follows.calls;
  moves = λ index call at kind none. let move = follows.moves index call at kind none in
      record { carried = move.carried; found = move.found; kind = move.kind; node = move.node };
  kept = follows.kept;
}
