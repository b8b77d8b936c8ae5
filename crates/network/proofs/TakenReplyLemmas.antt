-- A world in which a call takes a reply still follows the record, where the call takes a copy of the reply.
use Rattle.std.proofs.Common.{◌≡◌, ℕ, suc, List, [], ◌∷◌, ◌++◌, length, set, Option, Some, None}
use Rattle.std.proofs.Common.{refl, sym, subst, ap, ◌∙◌, slice_get}
use Rattle.std.specs.List.{remove}
use Rattle.bank.specs.declared.kind.Kind.{Kind}
use Rattle.bank.specs.declared.reply.Reply.{Reply}
use Rattle.mail.specs.declared.message.Body.{Body}
use Rattle.mail.specs.declared.message.Body.TheVariants as body
use Rattle.mail.specs.declared.message.Message.{Message}
use Rattle.mail.specs.Phase.{after_take}
use Rattle.record.specs.Legal.{first_stage, source_of}
use Rattle.record.specs.PhaseOrder.{begun_at, stage_after}
use Rattle.record.specs.Records.{Object, index_by_id}
use Rattle.record.specs.Steps.{Step, stepped, on_message, repeated_object, taken_by, taken_calls, taking_call, taking_phases}
use Rattle.soundness.proofs.ListLemmas.{set_here}
use Rattle.soundness.proofs.Sound.CallIdLemmas.{found_by_id}
use Rattle.soundness.proofs.Sound.ChangedCallLemmas.{moves_set}
use Rattle.network.specs.Unstamped.{unstamped_body, unstamped_message}
use Rattle.open_calls.specs.OpenCalls.{NodeCall, open_call, taking_open}
use Rattle.network.specs.Events.{Event, on_open}
use Rattle.network.specs.Following.{LeadsOn, IsOpenIn, last_step_after}
use Rattle.network.specs.Followed.{IsFollowed}
use Rattle.network.proofs.ChangedCallLemmas.{changed_follow, with_new, with_one}
use Rattle.open_calls.proofs.OpenCallLemmas.{found}
use Rattle.network.proofs.StepLemmas.{copy_and_step, get_end, message_there, no_step, ticked_follow}
use Rattle.network.proofs.UnstampedPhaseLemmas.{position_kept, take-bare, taking_last}

remove_end : {A : Type 0} (xs : List A) (x : A) → remove (xs ++ x ∷ []) (length xs) ≡ xs
remove_end [] x = refl
remove_end (y ∷ ys) x = ap (λ l. y ∷ l) (remove_end ys x)

-- the body of a message that is a reply without its stamp
body_reply : (b : Body) (kind : Kind) (made : Reply) → unstamped_body b ≡ body.Reply kind made →
    (k : Kind) × (r : Reply) × (b ≡ body.Reply k r)
body_reply (body.Request asked) kind made e = absurd (cc)
body_reply (body.Reply k r) kind made e = (k, r, refl)

-- the call that took the message is the record's, which took it
taken_open : (object : Object) (original : Message) (now : ℕ) (old : NodeCall) (is : IsOpenIn object old) →
    IsOpenIn (with_new object object.mail is.index (taking_call original now is.call)) (taking_open (unstamped_message original) old)
taken_open object original now old is = record {
  index = is.index;
  call = taking_call original now is.call;
  at = set_here object.calls is.index is.call (taking_call original now is.call) is.at;
  id = is.id;
  kind = is.kind;
  settled = is.settled;
  unanswered = is.unanswered;
  earlier = is.earlier;
  last = after_take is.last original now;
  phases = ap (λ phases. taking_phases phases original now) is.phases ∙ taking_last is.earlier is.last original now;
  phase = ap (λ p. after_take p (unstamped_message original) 0) is.phase ∙ take-bare is.last original now;
  stage = is.stage
      ∙ ap (λ position. begun_at (stage_after is.call.kind is.call.id (first_stage is.call.kind (source_of object is.index)) is.earlier)
      position) (sym (position_kept is.last original now))
      ∙ ap (λ moves. begun_at (stage_after is.call.kind is.call.id (first_stage is.call.kind moves) is.earlier)
      (after_take is.last original now).position)
      (sym (moves_set object.calls is.index is.index is.call (taking_call original now is.call) is.at refl));
}

pub take_followed : (message : Message) → IsFollowed (Event.Take message)
take_followed message fragment world object code sound follows may premised =
    go (open_call world.calls message.call) refl
  where
    go : (o : Option NodeCall) → open_call world.calls message.call ≡ o → LeadsOn fragment object (last_step_after world.now)
        (on_open (record world { now = suc world.now }) o (λ call. with_one world (taking_open message call) world.sent))
    go None e = no_step fragment object world.now (record world { now = suc world.now }) refl sound (ticked_follow world object follows)
    go (Some old) e =
        let now = last_step_after (suc world.now) in
        let there = message_there object.mail premised.network.0 message
        (ap (λ sent. slice_get sent premised.network.0) follows.sent ∙ premised.network.1) in
        let original = there.0 in
        let held = found (IsOpenIn object) world.calls message.call old follows.calls e in
        let is = held.0 in
        let reply = body_reply original.body may.0 may.1 (ap (λ (m : Message). m.body) there.2 ∙ may.2) in
        let copied = repeated_object object original in
        let place = length object.mail in
        let at_end = get_end object.mail original in
        let call = taking_call original now is.call in
        let id : original.call ≡ is.call.id = ap (λ (m : Message). m.call) there.2 ∙ sym held.1 ∙ is.id in
        let place_is = found_by_id object sound.legal is.index is.call original.call id is.at in
        let calls : taken_calls object.calls original now (slice_get object.calls (index_by_id object.calls original.call))
        ≡ set object.calls is.index call =
        ap (λ o. taken_calls object.calls original now o) (ap (slice_get object.calls) place_is ∙ is.at)
        ∙ ap (λ k. set object.calls k call) place_is in
        let made : stepped fragment (Step.Take place) now copied ≡ with_new object object.mail is.index call =
        ap (λ o. on_message copied o (λ m. taken_by copied place m m.body now)) at_end
        ∙ ap (λ b. taken_by copied place original b now) reply.2
        ∙ ap (λ calls. let o : Object = record object { calls = calls; mail = remove copied.mail place } in o) calls
        ∙ ap (λ mail. with_new object mail is.index call) (remove_end object.mail original) in
        let new = taking_open (unstamped_message original) old in
        let led : LeadsOn fragment object (last_step_after world.now) (with_one world new world.sent) =
        copy_and_step fragment object world.now premised.network.0 original (Step.Take place)
        (with_new object object.mail is.index call) (with_one world new world.sent) code refl sound there.1
        (original, (at_end, (reply.0, reply.1, reply.2))) made
        (changed_follow world object old new is call object.mail world.sent follows
        (ap (open_call world.calls) held.1 ∙ e) refl refl refl refl refl follows.sent
        (taken_open object original now old is)) in
        subst (λ m. LeadsOn fragment object (last_step_after world.now) (with_one world (taking_open m old) world.sent)) there.2 led
