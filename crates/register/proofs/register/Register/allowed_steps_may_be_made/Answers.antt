use Rattle.std.proofs.Common.{◌≡◌, ℕ, None, subst}
use Rattle.encoder.specs.Fragment.{fragment}
use Rattle.record.specs.Preconditions.{MayStep}
use Rattle.record.specs.Records.{IsNewId}
use Rattle.record.specs.Steps.{Step}
use Rattle.register.specs.Act.{HasLawfulValues, act_cause, step_of}
use Rattle.register.specs.Retiring.{retire_cause}
use Rattle.register.specs.State.{State, next_id}
use Rattle.register.specs.declared.act.Act.{Act}
use Rattle.register.proofs.PreconditionLemmas.{may_act}
use Rattle.register.proofs.RetireLemmas.{may_retire}
use Rattle.register.proofs.StepInvariantLemmas.{next_is_new}
use Rattle.register.proofs.register.Register.allowed_steps_may_be_made.Goals as goal

pub returns-clause-acts : goal.returns-clause-acts
returns-clause-acts c =
    subst (λ (s : State). (a : Act) (now : ℕ) → HasLawfulValues a → act_cause a now s.object ≡ None
    → MayStep fragment s.object (step_of (next_id s.object) a))
    c.self.view_is (λ a now lawful none. may_act _ c.self.invariant now a lawful none)

pub returns-clause-retire : goal.returns-clause-retire
returns-clause-retire c =
    subst (λ (s : State). (position now : ℕ) → retire_cause now s.object position ≡ None → MayStep fragment s.object Step.Retire)
    c.self.view_is (λ position now none. may_retire _ c.self.invariant position now none)

pub returns-clause-next : goal.returns-clause-next
returns-clause-next c =
    subst (λ (s : State). IsNewId s.object (next_id s.object)) c.self.view_is (next_is_new _ c.self.invariant)
