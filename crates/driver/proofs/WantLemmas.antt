-- What a call wants, by its number.
use Rattle.std.proofs.Common.{◌≡◌, ◌≢◌, ℕ, zero, suc, pred}
use Rattle.std.proofs.Common.{Option, Some, None, option_map, slice_get, refl, sym, ◌∙◌}
use Rattle.record.specs.Records.{Call, Object}
use Rattle.record.specs.Wants.{want_of}
use Rattle.record.specs.declared.stage.Want.{Want}
use Rattle.record.specs.declared.stage.Want.TheVariants as want
use Rattle.register.specs.Causes.{call_at}
use Rattle.register.specs.View.{want_at}

-- a call that wants to settle a value, by its number
pub place_of_call : (object : Object) (number : ℕ) (call : Call) → call_at object number ≡ Some call
    → slice_get object.calls (pred number) ≡ Some call
place_of_call object zero call e = absurd (cc)
place_of_call object (suc index) call e = e

-- what a call wants, by its number
pub record WantsAt (object : Object) (number : ℕ) (wanted : Want) : Type 0 where
  pub call : Call
  pub at : call_at object number ≡ Some call
  pub wants : want_of object (pred number) call ≡ wanted

pub wants_at : (object : Object) (number : ℕ) (wanted : Want) → want_at object number ≡ Some wanted → WantsAt object number wanted
wants_at object number wanted e = go (call_at object number) refl e
  where
    go : (o : Option Call) → call_at object number ≡ o → option_map (λ (call : Call). want_of object (pred number) call) o ≡ Some wanted
        → WantsAt object number wanted
    go None is e = absurd (cc)
    go (Some call) is e = record { call = call; at = is; wants = cc }

-- a call that wants something else than to be answered
pub other_want : (o : Option Want) (w : Want) → o ≡ Some w → w ≢ want.Answer → o ≢ Some want.Answer
other_want o w is other e = other (same w want.Answer (sym is ∙ e))
  where
    same : (a b : Want) → Some a ≡ Some b → a ≡ b
    same a b e = cc

pub replies_no_answer : (o : Option Want) → o ≡ Some want.Replies → o ≢ Some want.Answer
replies_no_answer o is = other_want o want.Replies is (λ e. cc)

pub advance_no_answer : (o : Option Want) → o ≡ Some want.Advance → o ≢ Some want.Answer
advance_no_answer o is = other_want o want.Advance is (λ e. cc)

pub again_no_answer : (o : Option Want) → o ≡ Some want.Again → o ≢ Some want.Answer
again_no_answer o is = other_want o want.Again is (λ e. cc)
