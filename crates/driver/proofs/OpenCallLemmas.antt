-- A call stays open after each step but its answer.
use Rattle.std.proofs.Common.{◌≡◌, ◌≢◌, ℕ, zero, suc, pred, Bool, true, false, cond, is_some, List, [], ◌∷◌, Option, Some, None, option_map}
use Rattle.std.proofs.Common.{slice_get, slice_set, refl, sym, ap, subst, ◌∙◌}
use Rattle.std.proofs.lemmas.Bool.{cond_both}
use Rattle.bank.specs.declared.kind.Kind.{Kind}
use Rattle.bank.specs.declared.kind.Kind.TheVariants.{Next}
use Rattle.encoder.specs.Fragment.{fragment}
use Rattle.layout.specs.Layout.{Layout}
use Rattle.mail.specs.declared.message.Message.{Message}
use Rattle.mail.specs.declared.message.Body.{Body}
use Rattle.mail.specs.declared.message.Body.TheVariants as body
use Rattle.mail.specs.Phase.{Phase, lacks_pieces}
use Rattle.record.specs.Records.{Call, Object, index_by_id, layout_at}
use Rattle.record.specs.Legal.{due_of}
use Rattle.record.specs.Steps.{Step, stepped, on_call, on_message, begun_object, supplied_by, asked_again, advanced_object, served_by}
use Rattle.record.specs.Steps.{taken_by, taken_calls}
use Rattle.record.specs.Wants.{current_phase, is_fetch, value_len, want_to_begin, want_for, want_of_fetch, want_after, want_of}
use Rattle.record.specs.declared.stage.Want.{Want}
use Rattle.record.specs.declared.stage.Want.TheVariants as want
use Rattle.register.specs.Causes.{call_at, is_plain}
use Rattle.register.specs.State.{State, made}
use Rattle.register.specs.View.{want_at}
use Rattle.cluster.specs.Cluster.{Cluster, named}
use Rattle.driver.specs.Choices.{handling}
use Rattle.driver.specs.Driver.{wanted, IsNotAnswered, IsNext, IsTurn}
use Rattle.driver.proofs.NamedObjectLemmas.{named_changed, read_there}
use Rattle.driver.proofs.WantLemmas.{wants_at, place_of_call}

-- the call is there, and answered no more than before
record IsKeptCall (object : Object) (index : ℕ) (call : Call) : Type 0 where
  new : Call
  at : slice_get object.calls index ≡ Some new
  same : new.answered ≡ call.answered

record IsKeptIn (calls : List Call) (index : ℕ) (call : Call) : Type 0 where
  new : Call
  at : slice_get calls index ≡ Some new
  same : new.answered ≡ call.answered

same_call : (a b : Call) → Some a ≡ Some b → a ≡ b
same_call a b e = cc

set_keeps : (calls : List Call) (i j : ℕ) (a b call : Call) → slice_get calls i ≡ Some a → b.answered ≡ a.answered
    → slice_get calls j ≡ Some call
    → IsKeptIn (slice_set calls i b) j call
set_keeps [] i j a b call at same there = absurd (cc)
set_keeps (c ∷ calls) zero zero a b call at same there =
    record { new = b; at = refl; same = same ∙ ap (λ (c : Call). c.answered) (same_call a call (sym at ∙ there)) }
set_keeps (c ∷ calls) (suc i) (suc j) a b call at same there =
    let rest = set_keeps calls i j a b call at same there in record { new = rest.new; at = rest.at; same = rest.same }
set_keeps (c ∷ calls) _ _ a b call at same there = record { new = call; at = there; same = refl }

-- the steps by which a call goes on, but for its answer
abbrev pub IsCarry : Step → Type 0
IsCarry (Step.Advance index) = Unit {0}
IsCarry (Step.Again index) = Unit {0}
IsCarry (Step.Supply index) = Unit {0}
IsCarry (Step.Post index) = Unit {0}
IsCarry (Step.Settle index value) = Unit {0}
IsCarry (Step.Serve place) = Unit {0}
IsCarry (Step.Take place) = Unit {0}
IsCarry _ = ⊥

module _ (object : Object) (index now : ℕ) (call : Call) (there : slice_get object.calls index ≡ Some call) where
  unmoved : IsKeptCall object index call
  unmoved = record { new = call; at = there; same = refl }

  from_calls : (new : Object) → IsKeptIn new.calls index call → IsKeptCall new index call
  from_calls new kept = record { new = kept.new; at = kept.at; same = kept.same }

  begun_kept : (i : ℕ) (a : Call) → slice_get object.calls i ≡ Some a → (next : Option (Kind × ℕ))
      → IsKeptCall (begun_object fragment object i a next now) index call
  begun_kept i a at None = unmoved
  begun_kept i a at (Some next) = from_calls _ (set_keeps object.calls i index a _ call at refl there)

  asked_kept : (a : Call) (o : Option Phase) → IsKeptCall (asked_again fragment object a o) index call
  asked_kept a None = unmoved
  asked_kept a (Some phase) = record { new = call; at = there; same = refl }

  supplied_kept : (i : ℕ) (a : Call) → slice_get object.calls i ≡ Some a → (o : Option Phase)
      → IsKeptCall (supplied_by fragment object i a now o) index call
  supplied_kept i a at None = unmoved
  supplied_kept i a at (Some phase) =
      cond_both (is_some phase.end) (advanced_object fragment object i a now) (asked_again fragment object a (Some phase))
      (λ o. IsKeptCall o index call)
      (λ e. begun_kept i a at (due_of object i a)) (λ e. asked_kept a (Some phase))

  served_kept : (place : ℕ) (message : Message) (b : Body) → IsKeptCall (served_by object place message b now) index call
  served_kept place message (body.Request asked) = record { new = call; at = there; same = refl }
  served_kept place message (body.Reply kind made) = unmoved

  calls_kept : (message : Message) (o : Option Call) → slice_get object.calls (index_by_id object.calls message.call) ≡ o
      → IsKeptIn (taken_calls object.calls message now o) index call
  calls_kept message None e = record { new = call; at = there; same = refl }
  calls_kept message (Some a) e = set_keeps object.calls (index_by_id object.calls message.call) index a _ call e refl there

  taken_kept : (place : ℕ) (message : Message) (b : Body) → IsKeptCall (taken_by object place message b now) index call
  taken_kept place message (body.Request asked) = unmoved
  taken_kept place message (body.Reply kind made) = from_calls _
      (calls_kept message (slice_get object.calls (index_by_id object.calls message.call)) refl)

  on_call_kept : (i : ℕ) (change : Call → Object) → ((a : Call) → slice_get object.calls i ≡ Some a → IsKeptCall (change a) index call)
      → (o : Option Call) → slice_get object.calls i ≡ o → IsKeptCall (on_call object o change) index call
  on_call_kept i change each None e = unmoved
  on_call_kept i change each (Some a) e = each a e

  on_message_kept : (change : Message → Object) → ((m : Message) → IsKeptCall (change m) index call) → (o : Option Message)
      → IsKeptCall (on_message object o change) index call
  on_message_kept change each None = unmoved
  on_message_kept change each (Some m) = each m

  kept : (step : Step) → IsCarry step → IsKeptCall (stepped fragment step now object) index call
  kept (Step.Advance i) carry =
      on_call_kept i (λ a. advanced_object fragment object i a now) (λ a at. begun_kept i a at (due_of object i a))
      (slice_get object.calls i) refl
  kept (Step.Again i) carry =
      on_call_kept i (λ a. advanced_object fragment object i a now) (λ a at. begun_kept i a at (due_of object i a))
      (slice_get object.calls i) refl
  kept (Step.Supply i) carry = on_call_kept i _ (λ a at. supplied_kept i a at (current_phase a.phases)) (slice_get object.calls i) refl
  kept (Step.Post i) carry = on_call_kept i _ (λ a at. asked_kept a (current_phase a.phases)) (slice_get object.calls i) refl
  kept (Step.Settle i value) carry =
      on_call_kept i _ (λ a at. from_calls _ (set_keeps object.calls i index a _ call at refl there)) (slice_get object.calls i) refl
  kept (Step.Serve place) carry = on_message_kept _ (λ m. served_kept place m m.body) (slice_get object.mail place)
  kept (Step.Take place) carry = on_message_kept _ (λ m. taken_kept place m m.body) (slice_get object.mail place)
  kept _ carry = absurd carry

-- a call that is not answered wants something
begins : (kind : Kind) (layout : Layout) → want_to_begin kind layout ≢ want.Done
begins Next layout e = cc
begins _ layout e = cc

for_some : (object : Object) (next : Option (Kind × ℕ)) → want_for object next ≢ want.Done
for_some object None e = cc
for_some object (Some next) e = begins next.0 (layout_at object next.1) e

module _ (object : Object) (next : Option (Kind × ℕ)) (settled : Option (List ℕ)) (phase : Phase) where
  abbrev settle : Want
  settle = want.Settle (layout_at object phase.position).k (value_len phase.replies)

  unsettled : want_of_fetch object phase ≢ want.Done
  unsettled = cond_both (lacks_pieces phase) want.Again settle (λ w. w ≢ want.Done) (λ _ e. cc) (λ _ e. cc)

  fetched : cond (is_some settled) (want_for object next) (want_of_fetch object phase) ≢ want.Done
  fetched = cond_both (is_some settled) (want_for object next) (want_of_fetch object phase) (λ w. w ≢ want.Done)
      (λ _. for_some object next) (λ _. unsettled)

  ended : cond (is_fetch phase.kind) (cond (is_some settled) (want_for object next) (want_of_fetch object phase)) (want_for object next)
      ≢ want.Done
  ended = cond_both (is_fetch phase.kind) (cond (is_some settled) (want_for object next) (want_of_fetch object phase))
      (want_for object next) (λ w. w ≢ want.Done) (λ _. fetched) (λ _. for_some object next)

  current_some : want_after object next settled (Some phase) ≢ want.Done
  current_some =
      cond_both (is_some phase.end)
      (cond (is_fetch phase.kind) (cond (is_some settled) (want_for object next) (want_of_fetch object phase)) (want_for object next))
      want.Replies
      (λ w. w ≢ want.Done) (λ _. ended) (λ _ e. cc)

after_some : (object : Object) (next : Option (Kind × ℕ)) (settled : Option (List ℕ)) (o : Option Phase)
    → want_after object next settled o ≢ want.Done
after_some object next settled None e = cc
after_some object next settled (Some phase) e = current_some object next settled phase e

open_want : (object : Object) (index : ℕ) (call : Call) → call.answered ≡ None → want_of object index call ≢ want.Done
open_want object index call open_call e =
    after_some object (due_of object index call) call.settled (current_phase call.phases)
    (sym (ap (λ a. cond (is_some a) want.Done
    (want_after object (due_of object index call) call.settled (current_phase call.phases))) open_call) ∙ e)

not_answered : (object : Object) (index : ℕ) (call : Call) → want_of object index call ≢ want.Done → call.answered ≡ None
not_answered object index call no_done = go call.answered refl
  where
    go : (o : Option ℕ) → call.answered ≡ o → o ≡ None
    go None e = refl
    go (Some step) e =
        absurd (no_done
        (ap (λ a. cond (is_some a) want.Done
        (want_after object (due_of object index call) call.settled (current_phase call.phases))) e))

there_at : (object : Object) (number : ℕ) (old new : Call) (before : Object) → call_at before number ≡ Some old
    → slice_get object.calls (pred number) ≡ Some new
    → call_at object number ≡ Some new
there_at object zero old new before was at = absurd (cc)
there_at object (suc index) old new before was at = at

module _ {C : Type 0} (chooses : C → ℕ → ℕ → C → Type 0) (name : List ℕ) (call : ℕ) where
  carry_handling : (place : ℕ) (b : Body) → IsCarry (handling place b)
  carry_handling place (body.Request asked) = tt
  carry_handling place (body.Reply kind made) = tt

  carry_of : (cluster : Cluster) (object : Object) (again : Bool) (before after : C) (step : Step) (w : Want) → w ≢ want.Answer
      → IsNext chooses name call cluster object again before after step w → IsCarry step
  carry_of cluster object true before after step want.Replies other next =
      subst IsCarry (sym next.1.2)
      (cond_both (is_plain (current_phase next.1.0.phases)) (Step.Post (pred call)) (Step.Supply (pred call)) IsCarry (λ _. tt) (λ _. tt))
  carry_of cluster object false before after step want.Replies other next = subst IsCarry (sym next.4) (carry_handling next.0 next.1.body)
  carry_of cluster object again before after step (want.Settle k len) other next = subst IsCarry (sym next.1.1) tt
  carry_of cluster object again before after step want.Again other next = subst IsCarry (sym next.2) tt
  carry_of cluster object again before after step want.Answer other next = absurd (other refl)
  carry_of cluster object again before after step want.Done other next = absurd next
  carry_of cluster object again before after step _ other next = subst IsCarry (sym next.1) tt

  not_done : (cluster : Cluster) (object : Object) (again : Bool) (before after : C) (step : Step) (w : Want)
      → IsNext chooses name call cluster object again before after step w → w ≢ want.Done
  not_done cluster object again before after step want.Done next e = next
  not_done cluster object again before after step _ next e = cc

  -- a turn that is not the answer leaves the call open
  pub turn_open : (again : Bool) (old : Cluster) (before : C) (new : Cluster) (after : C)
      → IsTurn chooses name call again old before new after
      → wanted old name call ≢ Some want.Answer → IsNotAnswered new name call
  turn_open again old before new after turn other =
      let due = turn.due in
      let w = wants_at due.state.object call due.want due.wants in
      let no_answer : due.want ≢ want.Answer =
      λ e. other (read_there old name due.state (λ object. want_at object call) due.there ∙ due.wants ∙ ap Some e) in
      let some = not_done old due.state.object again before after turn.step due.want due.next in
      let open_call = not_answered due.state.object (pred call) w.call (λ e. some (sym w.wants ∙ e)) in
      let k = kept due.state.object (pred call) (suc old.counter) w.call (place_of_call due.state.object call w.call w.at) turn.step
      (carry_of old due.state.object again before after turn.step due.want no_answer due.next) in
      let later : State = made turn.step (suc old.counter) due.state in
      let at = there_at later.object call w.call k.new due.state.object w.at k.at in
      let named_new : named new.objects name ≡ Some later =
      ap (λ (c : Cluster). named c.objects name) turn.made
      ∙ named_changed old.objects name (made turn.step (suc old.counter)) due.state due.there in (
        want_of later.object (pred call) k.new,
        read_there new name later (λ object. want_at object call) named_new
            ∙ ap (option_map (λ (c : Call). want_of later.object (pred call) c)) at,
        open_want later.object (pred call) k.new (k.same ∙ open_call),
      )
