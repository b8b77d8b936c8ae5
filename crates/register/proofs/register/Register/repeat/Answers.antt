use Rattle.std.proofs.lemmas.Grind.{elements}
use Rattle.std.proofs.Common.{ℕ, ◌<◌, ◌≤◌, length, slice_get, Option, sym, ap, subst, ◌∙◌, arith}
use Rattle.tag.specs.Cause.{IsRefusalBy}
use Rattle.tag.specs.declared.limits.TheConstants.{MOST_STEPS}
use Rattle.tag.specs.declared.refusal.Refusal.{Refusal}
use Rattle.mail.specs.Mail.{repeated, mail_cause}
use Rattle.record.specs.Records.{Object}
use Rattle.register.specs.State.{State, made, object_of}
use Rattle.register.specs.Kept.{IsKept}
use Rattle.record.specs.Steps.{Step}
use Rattle.register.specs.Causes.{if_message, repeat_cause}
use Rattle.register.proofs.FoundCallLemmas.{later}
use Rattle.register.proofs.LoseAndRepeatLemmas.{repeating_is, repeating_keeps, repeat_cause_is}
use Rattle.register.proofs.RoomLemmas.{same_cause, step_within}
use Rattle.register.proofs.StepInvariantLemmas.{contents_of}
use Rattle.register.proofs.register.Register.repeat.Goals as goal

abbrev at_step : Object → ℕ → State
at_step object now = record { object = object; last = now }

pub invariant_of-self-2 : goal.invariant_of-self-2
invariant_of-self-2 c =
    let o = contents_of c.self.inside in
    let after = later o c.self.view_is c.requires.after in
    let within : c.args.place < length o.mail = omega (arith, c.len.ensures.value, c.if-len-place.false) in
    subst (λ ms. IsKept (record o { mail = ms; last = c.args.now })) (sym c.in_ok-repeat.ensures.posted)
    (repeating_keeps o c.args.place c.args.now after c.self.invariant within)

pub returns-clause-step : goal.returns-clause-step
returns-clause-step c =
    let o = contents_of c.self.inside in
    let within : c.args.place < length o.mail = omega (arith, c.len.ensures.value, c.if-len-place.false) in
    ap (λ ms. at_step (object_of o.delta o.positions ms o.calls) c.args.now) c.in_ok-repeat.ensures.posted
    ∙ ap (λ x. at_step x c.args.now) (repeating_is o c.args.place within)
    ∙ ap (made (Step.Repeat c.args.place) c.args.now) c.self.view_is

pub returns-in_err-repeat-clause-cause : goal.returns-in_err-repeat-clause-cause
returns-in_err-repeat-clause-cause c =
    let mail = c.self.inside.mail in
    let place = c.args.place in
    let most : c.args.now ≤ MOST_STEPS = omega (arith, c.if-now-gt-MOST_STEPS.false) in
    let same = ap (λ (s : State). repeat_cause c.args.now s.object place) (sym c.self.view_is)
    ∙ ap (λ later. if_message (slice_get mail place) (λ message. later)) (step_within c.args.now (mail_cause (repeated mail place)) most)
    ∙ repeat_cause_is mail place (omega (arith, c.len.ensures.value, c.if-len-place.false)) in
    same_cause _ c.from_residual.result _ c.from_residual.ensures.1
    (subst (λ (cause : Option Refusal). IsRefusalBy cause c.in_err-repeat.field-0.0) (sym same) c.in_err-repeat.ensures.cause)

pub returns-then-len-place-clause-cause : goal.returns-then-len-place-clause-cause
returns-then-len-place-clause-cause c = grind (arith, elements)

pub returns-then-now-gt-MOST_STEPS-clause-cause : goal.returns-then-now-gt-MOST_STEPS-clause-cause
returns-then-now-gt-MOST_STEPS-clause-cause c = grind (arith, elements)

pub returns-clause-cause : goal.returns-clause-cause
returns-clause-cause c = grind (arith, elements)
