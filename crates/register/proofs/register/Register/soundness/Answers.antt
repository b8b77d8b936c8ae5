use Rattle.std.proofs.Common.{subst}
use Rattle.encoder.specs.Fragment.{fragment}
use Rattle.soundness.specs.Sound.{IsSound}
use Rattle.register.specs.State.{HasNumbersAsIds, State}
use Rattle.register.specs.Kept.{IsWithinLimits}
use Rattle.register.proofs.register.Register.soundness.Goals as goal

pub returns-clause-sound : goal.returns-clause-sound
returns-clause-sound c = subst (λ (s : State). IsSound fragment s.object s.last) c.self.view_is c.self.invariant.sound

pub returns-clause-limits : goal.returns-clause-limits
returns-clause-limits c = subst (λ (s : State). IsWithinLimits s.object) c.self.view_is c.self.invariant.limits

pub returns-clause-numbered : goal.returns-clause-numbered
returns-clause-numbered c = subst (λ (s : State). HasNumbersAsIds s.object) c.self.view_is c.self.invariant.numbered
