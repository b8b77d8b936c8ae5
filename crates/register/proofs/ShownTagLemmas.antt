-- The tags that replies show are past, and so is the greatest that a call has found.
use Rattle.std.proofs.Common.{◌≡◌, ℕ, suc, ◌+◌, ◌<◌, ◌≤◌, ◌^◌, Bool, true, false, cond, List, [], ◌∷◌, slice_get, Some}
use Rattle.std.proofs.Common.{sym, subst, inl, inr, refl, arith}
use Rattle.std.specs.List.{AllByRecursion}
use Rattle.tag.specs.declared.tag.Tag.{Tag}
use Rattle.tag.specs.Tag.{later_tag}
use Rattle.bank.specs.declared.kind.Kind.{Kind}
use Rattle.bank.specs.declared.reply.Answer.{Answer}
use Rattle.bank.specs.declared.reply.Answer.TheVariants as answer
use Rattle.bank.specs.declared.reply.Reply.{Reply}
use Rattle.mail.specs.declared.message.Message.{Message}
use Rattle.mail.specs.declared.message.Body.{Body}
use Rattle.mail.specs.declared.message.Body.TheVariants as body
use Rattle.mail.specs.declared.phase.Taken.{Taken}
use Rattle.mail.specs.Phase.{Phase, is_current, has_taken, with_reply, after_body, after_take}
use Rattle.record.specs.declared.call.CallKind.{CallKind}
use Rattle.record.specs.declared.call.CallKind.TheVariants.{Write}
use Rattle.record.specs.declared.stage.Stage.{Stage}
use Rattle.record.specs.declared.stage.Stage.TheVariants.{QueryFrom}
use Rattle.record.specs.Records.{Call, Object}
use Rattle.record.specs.PhaseOrder.{shown_tag, greatest_tag}
use Rattle.record.specs.Fragments.{Code, IfCoded, answer_tag, answer_piece}
use Rattle.record.specs.Journals.{IsJournaled}
use Rattle.record.specs.Legal.{first_stage, source_of, stage_of}
use Rattle.soundness.specs.Sound.{IsSound}
use Rattle.call.specs.StageLimits.{IsTaggable, HasNextTag}
use Rattle.register.proofs.GreatestTagLemmas.{FoundUpTo, ShownUpTo, later_up_to, greatest_up_to, stage_up_to, first_up_to}
use Rattle.soundness.proofs.ListLemmas.{all_get, all_push}
use Rattle.register.proofs.ListLemmas.{all_weaker}

-- a journaled tag is past
journaled_past : (fragment : Code) (object : Object) (step : ℕ) → IsSound fragment object step → (tag : Tag) (value : List ℕ)
    → IsJournaled object tag value → tag.number ≤ step
journaled_past fragment object step sound tag value (inl opening) = subst (λ (t : Tag). t.number ≤ step) (sym opening.0) (omega arith)
journaled_past fragment object step sound tag value (inr written) = sound.past.tags written.index written.call tag written.at written.tagged

-- what an answer shows is past
shown_past : (fragment : Code) (object : Object) (step : ℕ) → IsSound fragment object step
    → (position member : ℕ) (kind : Kind) (a : Answer)
    → IfCoded fragment object position member (answer_tag kind a) (answer_piece a) → (shown_tag a).number ≤ step
shown_past fragment object step sound position member kind (answer.Greatest tag) coded =
    journaled_past fragment object step sound tag coded.value coded.journaled
shown_past fragment object step sound position member kind _ coded = omega arith

-- what the replies of a call's phases show is past
pub phases_shown : (fragment : Code) (object : Object) (step : ℕ) → IsSound fragment object step → (index : ℕ) (call : Call)
    → slice_get object.calls index ≡ Some call
    → AllByRecursion (λ (phase : Phase). AllByRecursion (ShownUpTo step) phase.replies) call.phases
phases_shown fragment object step sound index call at = from_places call.phases (λ place phase within.
    all_weaker (λ (taken : Taken). IfCoded fragment object phase.position taken.member (answer_tag phase.kind taken.reply.answer)
    (answer_piece taken.reply.answer)) (ShownUpTo step) phase.replies
    (λ taken coded. shown_past fragment object step sound phase.position taken.member phase.kind taken.reply.answer coded)
    (sound.coded.phases index place call phase at within))
  where
    from_places : (phases : List Phase) → ((place : ℕ) (phase : Phase) → slice_get phases place ≡ Some phase
        → AllByRecursion (ShownUpTo step) phase.replies)
        → AllByRecursion (λ (phase : Phase). AllByRecursion (ShownUpTo step) phase.replies) phases
    from_places [] each = tt
    from_places (p ∷ ps) each = (each 0 p refl, from_places ps (λ place phase within. each (suc place) phase within))

-- the greatest tag that a call has found is past
pub stage_shown : (fragment : Code) (object : Object) (step : ℕ) → IsSound fragment object step → (index : ℕ) (call : Call)
    → slice_get object.calls index ≡ Some call
    → FoundUpTo step (stage_of object index call)
stage_shown fragment object step sound index call at =
    stage_up_to step call.kind call.id (first_stage call.kind (source_of object index)) call.phases
    (phases_shown fragment object step sound index call at)
    (first_up_to step call.kind (source_of object index))

-- what a waiting message shows is past
message_shown : (fragment : Code) (object : Object) (step : ℕ) → IsSound fragment object step → (place : ℕ) (message : Message)
    → slice_get object.mail place ≡ Some message
    → (kind : Kind) (made : Reply) → message.body ≡ body.Reply kind made → (shown_tag made.answer).number ≤ step
message_shown fragment object step sound place message at kind made is =
    let coded = all_get (λ (message : Message). IfCoded fragment object message.position message.member
    (Rattle.record.specs.Fragments.body_tag message.body) (Rattle.record.specs.Fragments.body_piece message.body)) object.mail place
    message sound.coded.mail at in
    shown_past fragment object step sound message.position message.member kind made.answer
    (subst (λ (b : Body). IfCoded fragment object message.position message.member (Rattle.record.specs.Fragments.body_tag b)
    (Rattle.record.specs.Fragments.body_piece b)) is coded)

-- a phase that takes a message shows no more
pub taken_shown : (n : ℕ) (phase : Phase) (message : Message) (now : ℕ) → AllByRecursion (ShownUpTo n) phase.replies
    → ((kind : Kind) (made : Reply) → message.body ≡ body.Reply kind made → (shown_tag made.answer).number ≤ n)
    → AllByRecursion (ShownUpTo n) (after_take phase message now).replies
taken_shown n phase message now shown one = go message.body refl
  where
    go : (b : Body) → message.body ≡ b → AllByRecursion (ShownUpTo n)
        (after_body phase message.call message.phase message.member b now).replies
    go (body.Request asked) is = shown
    go (body.Reply kind made) is = choose (is_current phase message.call message.phase) (has_taken phase.replies message.member)
      where
        more : AllByRecursion (ShownUpTo n) (with_reply phase message.member made now).replies
        more = all_push (ShownUpTo n) phase.replies (record { member = message.member; reply = made; step = now }) shown
            (one kind made is)

        choose : (b d : Bool) → AllByRecursion (ShownUpTo n)
            (cond b (cond d phase (with_reply phase message.member made now)) phase).replies
        choose true true = shown
        choose true false = more
        choose false d = shown

taggable : (n : ℕ) (kind : CallKind) (greatest : Tag) → greatest.number ≤ n → n + 1 < 2 ^ 64 → IsTaggable kind greatest
taggable n (Write value) greatest up_to few = omega (arith, up_to, few)
taggable n _ greatest up_to few = tt

-- so a write has a next tag, whatever it has found
pub next_tag_there : (n : ℕ) (kind : CallKind) (stage : Stage) (replies : List Taken) → n + 1 < 2 ^ 64 → FoundUpTo n stage
    → AllByRecursion (ShownUpTo n) replies → HasNextTag kind stage replies
next_tag_there n kind (QueryFrom position last greatest shown_at) replies few so_far shown =
    taggable n kind (later_tag greatest (greatest_tag replies))
    (later_up_to n greatest (greatest_tag replies) so_far (greatest_up_to n replies shown)) few
next_tag_there n kind _ replies few so_far shown = tt

-- the replies of the current phase of a call, once it takes a waiting message
pub current_shown : (fragment : Code) (object : Object) (step : ℕ) → IsSound fragment object step → (index : ℕ) (call : Call)
    → slice_get object.calls index ≡ Some call
    → (place : ℕ) (message : Message) → slice_get object.mail place ≡ Some message → (spot : ℕ) (phase : Phase)
    → slice_get call.phases spot ≡ Some phase → (now : ℕ)
    → AllByRecursion (ShownUpTo step) (after_take phase message now).replies
current_shown fragment object step sound index call at place message waits spot phase within now =
    taken_shown step phase message now (all_get (λ (phase : Phase). AllByRecursion (ShownUpTo step) phase.replies) call.phases spot phase
    (phases_shown fragment object step sound index call at) within)
    (message_shown fragment object step sound place message waits)
