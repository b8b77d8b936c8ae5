-- A node takes a reply.
use Rattle.std.proofs.Common.{◌≡◌, ℕ, suc, ◌+◌, Bool, true, false, cond, [], ◌∷◌, Option, Some, None}
use Rattle.std.proofs.Common.{refl, sym, subst, ap, ◌∙◌, slice_get, arith}
use Rattle.bank.specs.declared.reply.Reply.{Reply}
use Rattle.mail.specs.declared.message.Body.{Body}
use Rattle.mail.specs.declared.message.Body.TheVariants as body
use Rattle.mail.specs.declared.message.Message.{Message}
use Rattle.mail.specs.Phase.{Phase, after_body, after_take, has_taken, is_current, with_reply}
use Rattle.record.specs.Fragments.{Code}
use Rattle.network.specs.Worlds.{World, known_layouts}
use Rattle.open_calls.specs.OpenCalls.{NodeCall, open_call, with_open, taking_open}
use Rattle.network.specs.Events.{Event, on_open, world_after}
use Rattle.letter.specs.declared.letter.Letter.{Letter}
use Rattle.local_object.specs.Local.{LocalObject}
use Rattle.local_object.specs.Events.{LocalEvent, taking_here}
use Rattle.local_object.specs.Outcomes.{Outcome, learnt_from, on_open_call, silent}
use Rattle.refinement.specs.Laws.{IsPlainEventOfWorld}
use Rattle.refinement.specs.Parts.{IsPartOf}
use Rattle.refinement.specs.Refined.{IsRefined, if_carried}
use Rattle.refinement.specs.WellFormed.{HasAsked, IsWellFormed}
use Rattle.refinement.proofs.BegunCallLemmas.{ticked}
use Rattle.refinement.proofs.ChangedCallLemmas.{carried, changed_kept, changed_to}
use Rattle.refinement.proofs.PartLemmas.{IsKept, kept_told, refined, unchanged}
use Rattle.local_object.proofs.HeardLayoutLemmas.{calls_heard}
use Rattle.refinement.proofs.LearntPartLemmas.{part_learnt_from}

-- the world without an event
pub still_kept : (fragment : Code) (world : World) (local : LocalObject) → IsWellFormed fragment world → IsPartOf world local →
    IsKept fragment world world (silent local) 0 world.history
still_kept fragment world local formed part =
    let none : world.now + 0 ≡ world.now = omega arith in
    subst (λ now. IsKept fragment world (record world { now = now }) (silent local) 0 world.history) none
    (unchanged fragment world local 0 formed part)

-- what is so of a phase, whatever replies it takes, is so after it takes a message
pub after_taking : (P : Phase → Type 0) → ((p : Phase) (member : ℕ) (reply : Reply) → P p → P (with_reply p member reply 0)) →
    (p : Phase) (message : Message) → P p → P (after_take p message 0)
after_taking P more p message is = go message.body
  where
    taking : (reply : Reply) (current taken : Bool) → P (cond current (cond taken p (with_reply p message.member reply 0)) p)
    taking reply true true = is
    taking reply true false = more p message.member reply is
    taking reply false taken = is

    go : (b : Body) → P (after_body p message.call message.phase message.member b 0)
    go (body.Request asked) = is
    go (body.Reply kind reply) =
        taking reply (is_current p message.call message.phase) (has_taken p.replies message.member)

-- a call that takes a message has asked what it asked before
asked_taken : (fragment : Code) (world later : World) (call : NodeCall) (message : Message) → later.sent ≡ world.sent →
    known_layouts later 0 ≡ known_layouts world 0 → HasAsked fragment world call → HasAsked fragment later (taking_open message call)
asked_taken fragment world later call message sent layouts has =
    after_taking (λ p. HasAsked fragment later (record call { phase = p }))
    (λ p member reply there. record { layout = there.layout; at = there.at; asked = there.asked }) call.phase message
    (record {
      layout = has.layout;
      at = ap (λ l. slice_get l call.phase.position) layouts ∙ has.at;
      asked = λ place asked at.
          let was = has.asked place asked at in (was.0, ap (λ l. slice_get l was.0) sent ∙ was.1);
    })

-- the node after its call takes the message of the letter
abbrev taken_here : Letter → LocalObject → NodeCall → Outcome
taken_here letter next call = silent (taking_here next call letter.message letter.told)

pub take_refined : (letter : Letter) → IsPlainEventOfWorld (LocalEvent.Take letter)
take_refined letter fragment world local formed part may premised =
    go (learnt_from local letter) (part_learnt_from world local letter formed.one part premised)
    (open_call local.calls letter.message.call) (ap (λ calls. open_call calls letter.message.call) (calls_heard local letter))
  where
    go : (next : LocalObject) → IsPartOf world next → (o : Option NodeCall) → open_call next.calls letter.message.call ≡ o →
        IsRefined fragment world (if_carried o (Event.Take letter.message))
        (on_open_call next (open_call next.calls letter.message.call) (taken_here letter next))
        × ((world_after fragment (if_carried o (Event.Take letter.message)) world).history ≡ world.history)
    go next known None e =
        refined fragment world [] world (silent next)
        (on_open_call next (open_call next.calls letter.message.call) (taken_here letter next)) world.history refl
        (ap (λ o. on_open_call next o (taken_here letter next)) (sym e)) tt (still_kept fragment world next formed known)
    go next known (Some call) e =
        let is = carried fragment world next letter.message.call call formed known e in
        let new = taking_open letter.message call in
        refined fragment world (Event.Take letter.message ∷ [])
        (changed_to fragment world next letter.message.call call new formed known is refl refl refl world.sent)
        (taken_here letter next call)
        (on_open_call next (open_call next.calls letter.message.call) (taken_here letter next)) world.history
        (ap (λ o. on_open (ticked world) o
        (λ c. record world { calls = with_open (taking_open letter.message c) world.calls; now = suc world.now })) (sym is.open_there))
        (ap (λ o. on_open_call next o (taken_here letter next)) (sym e))
        (may, record { network = premised.sent; log = tt; ids = tt }, tt)
        (kept_told fragment world
        (changed_to fragment world next letter.message.call call new formed known is refl refl refl world.sent)
        (record next { calls = with_open new next.calls }) (taking_here next call letter.message letter.told).reports 1 world.history
        (changed_kept fragment world next letter.message.call call new formed known is refl refl refl world.sent [] (λ message was. was) tt
        (asked_taken fragment world
        (changed_to fragment world next letter.message.call call new formed known is refl refl refl world.sent) call
        letter.message refl refl)))
