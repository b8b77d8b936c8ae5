-- From the refusal of a round of a seat or of the administrator to its cause in a state of the store.
use Rattle.std.proofs.Common.{◌≡◌, ◌≢◌, ℕ, pred, nat_lt, Bool, true, false, inl, inr, List, Option, Some, None}
use Rattle.std.proofs.Common.{refl, sym, ap, ◌∙◌, subst}
use Rattle.std.specs.Prelude.{option_map}
use Rattle.tag.specs.Cause.{IsRefusalBy}
use Rattle.tag.specs.declared.refusal.Refusal.{Refusal}
use Rattle.tag.specs.declared.refusal.Refusal.TheVariants as refusal
use Rattle.record.specs.Records.{Call, Object}
use Rattle.record.specs.Steps.{Step}
use Rattle.record.specs.Wants.{want_of}
use Rattle.record.specs.declared.stage.Want.{Want}
use Rattle.record.specs.declared.stage.Want.TheVariants as want
use Rattle.register.specs.Causes.{call_at, if_call, number_cause, unless}
use Rattle.register.specs.State.{State}
use Rattle.register.specs.View.{want_at}
use Rattle.cluster.specs.Causes.{if_object}
use Rattle.cluster.specs.Cluster.{Cluster, named}
use Rattle.driver.specs.Driver.{wanted, IsDue, IsNext, IsRefused}
use Rattle.driver.proofs.NamedObjectLemmas.{cause_there, read_there}
use Rattle.locked_steps.specs.Rounds.{GoesNot, going_cause, hand_cause, open_cause}
use Rattle.locked_steps.specs.declared.handed_in.HandedIn.{HandedIn}
use Rattle.locked_steps.specs.declared.handed_in.HandedIn.TheVariants as hand
use Rattle.client.specs.Refusals.{Anyhow, IsCodedFor, IsHeldUp, IsRefusedIn}

pub same_refusal : (a b : Refusal) → Some a ≡ Some b → a ≡ b
same_refusal a b e = cc

-- Without a round: there is no such call, it is answered, or no turns are left

number_none : (object : Object) (call : ℕ) → want_at object call ≡ None → number_cause object call ≡ Some refusal.NoCall
number_none object call is = pick (call_at object call) is
  where
    pick : (found : Option Call) → option_map (λ (c : Call). want_of object (pred call) c) found ≡ None
        → if_call found (λ c. None) ≡ Some refusal.NoCall
    pick None is = refl
    pick (Some c) is = absurd (cc)

module _ (cluster : Cluster) (name : List ℕ) (call turns : ℕ) (e : Refusal) where
  held_as : (r : Refusal) → Some r ≡ Some e → IsHeldUp name call cluster r → IsHeldUp name call cluster e
  held_as r is h = subst (IsHeldUp name call cluster) (same_refusal r e is) h

  gave_up : (w : Want) → wanted cluster name call ≡ Some w → w ≢ want.Done → unless (nat_lt 0 turns) refusal.GaveUp None ≡ Some e
      → IsHeldUp name call cluster e
  gave_up w is not c = pick (nat_lt 0 turns) c
    where
      pick : (b : Bool) → unless b refusal.GaveUp None ≡ Some e → IsHeldUp name call cluster e
      pick true c = absurd (cc)
      pick false c = held_as refusal.GaveUp c (w, is, not)

  held_want : (w : Want) → wanted cluster name call ≡ Some w → open_cause turns (Some w) ≡ Some e → IsHeldUp name call cluster e
  held_want want.Replies is c = gave_up want.Replies is (λ x. absurd (cc (x))) c
  held_want want.Advance is c = gave_up want.Advance is (λ x. absurd (cc (x))) c
  held_want (want.Supply k n) is c = gave_up (want.Supply k n) is (λ x. absurd (cc (x))) c
  held_want (want.Settle k len) is c = gave_up (want.Settle k len) is (λ x. absurd (cc (x))) c
  held_want want.Again is c = gave_up want.Again is (λ x. absurd (cc (x))) c
  held_want want.Answer is c = gave_up want.Answer is (λ x. absurd (cc (x))) c
  held_want want.Done is c = held_as refusal.NotNow c is

  held_found : (state : State) → named cluster.objects name ≡ Some state → (w : Option Want) → want_at state.object call ≡ w
      → open_cause turns w ≡ Some e → IsHeldUp name call cluster e
  held_found state there None is c =
      held_as refusal.NoCall c
      (cause_there cluster name state (λ object. number_cause object call) there ∙ number_none state.object call is)
  held_found state there (Some w) is c = held_want w (read_there cluster name state (λ object. want_at object call) there ∙ is) c

  pub held_going : going_cause cluster name call turns ≡ Some e → IsHeldUp name call cluster e
  held_going c = pick (named cluster.objects name) refl c
    where
      pick : (found : Option State) → named cluster.objects name ≡ found
          → if_object found (λ object. open_cause turns (want_at object call)) ≡ Some e → IsHeldUp name call cluster e
      pick None there c = held_as refusal.NoObject c (ap (λ o. if_object o (λ object. number_cause object call)) there)
      pick (Some state) there c = held_found state there (want_at state.object call) refl c

-- A round that is refused

module _ {C : Type 0} (chooses : C → ℕ → ℕ → C → Type 0) (name : List ℕ) (call : ℕ) (cluster : Cluster) (before after : C) where
  any_next : (object : Object) (again : Bool) (step : Step) (w : Want) → IsNext chooses name call cluster object again before after step w
      → IsNext Anyhow name call cluster object again tt tt step w
  any_next object true step want.Replies n = (refl, n.1)
  any_next object false step want.Replies n = (n.0, n.1, (n.2.0, tt, n.2.2), n.3, n.4)
  any_next object again step want.Advance n = (refl, n.1)
  any_next object again step (want.Supply k m) n = (refl, n.1)
  any_next object again step (want.Settle k len) n = (refl, n.1)
  any_next object again step want.Again n = (n.0, refl, n.2)
  any_next object again step want.Answer n = (refl, n.1)
  any_next object again step want.Done n = absurd n

  any_due : (again : Bool) (step : Step) → IsDue chooses name call cluster again before after step
      → IsDue Anyhow name call cluster again tt tt step
  any_due again step d = record {
    state = d.state;
    there = d.there;
    want = d.want;
    wants = d.wants;
    next = any_next d.state.object again step d.want d.next;
  }

  held_refused : (again : Bool) (e : Refusal) → IsRefused chooses name call cluster again before after e → IsHeldUp name call cluster e
  held_refused again refusal.NoMemory r = tt
  held_refused again refusal.BadLayout r = absurd r
  held_refused again refusal.NoObject r = r.1
  held_refused again refusal.ObjectExists r = absurd r
  held_refused again refusal.TooLong r = absurd r
  held_refused again refusal.NoCall r = r.1
  held_refused again refusal.NotNow r = r.1
  held_refused again refusal.NoMessage r = absurd r
  held_refused again refusal.Down r = absurd r
  held_refused again refusal.WrongCode r = absurd r
  held_refused again refusal.MovePending r = absurd r
  held_refused again refusal.Full r = (again, (r.0, (any_due again r.0 r.1, r.2)))
  held_refused again refusal.Stuck r = (r.1.wants, r.1.none)
  held_refused again refusal.GaveUp r = absurd r
  held_refused again refusal.BadPieces r = absurd r
  held_refused again refusal.Collected r = r.2
  held_refused again refusal.Stranger r = absurd r

  module _ (first : Cluster) (e : Refusal) where
    by_hand : (h : HandedIn) → IsCodedFor first name call h → IsRefusalBy (hand_cause cluster name call h) e
        → IsRefusedIn first name call cluster e
    by_hand h coded (inl is) = inr (h, (coded, is))
    by_hand h coded (inr none) = inl (subst (IsHeldUp name call cluster) (sym none.1) tt)

    pub refused_goes : (again : Bool) (h : HandedIn) → IsCodedFor first name call h
        → GoesNot chooses name call h again cluster before after e → IsRefusedIn first name call cluster e
    refused_goes again hand.Empty coded r = inl (held_refused again e r)
    refused_goes again (hand.Coded c) coded r = by_hand (hand.Coded c) coded r.2
    refused_goes again (hand.Decoded d) coded r = by_hand (hand.Decoded d) coded r.1
