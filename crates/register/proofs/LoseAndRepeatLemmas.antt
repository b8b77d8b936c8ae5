-- Messages that are lost or repeated.
use Rattle.std.proofs.Common.{◌≡◌, ℕ, ◌<◌, List, [], ◌∷◌, ◌++◌, length, slice_get, Some, sym, ap, subst}
use Rattle.std.specs.List.{remove}
use Rattle.encoder.specs.Fragment.{fragment}
use Rattle.mail.specs.declared.message.Message.{Message}
use Rattle.mail.specs.Mail.{repeated, repeated_message, mail_cause}
use Rattle.soundness.specs.Sound.{IsSound}
use Rattle.record.specs.Steps.{Step, on_message, repeated_object}
use Rattle.register.specs.State.{Contents, state_of, object_of}
use Rattle.register.specs.Kept.{IsKept}
use Rattle.register.specs.Causes.{if_message}
use Rattle.register.proofs.ListLemmas.{found}
use Rattle.register.proofs.StepInvariantLemmas.{steps_on, mail_kept}

pub losing_keeps : (c : Contents) (place now : ℕ) → c.last < now → IsKept c → place < length c.mail
    → IsKept (record c { mail = remove c.mail place; last = now })
losing_keeps c place now after kept within =
    mail_kept c (remove c.mail place) now kept (steps_on c now (Step.Lose place) after kept (found c.mail place within))

-- what is repeated, by the message that is there
repeated_is : (mail : List Message) (place : ℕ) (m : Message) → slice_get mail place ≡ Some m → repeated mail place ≡ mail ++ m ∷ []
repeated_is mail place m there = ap (repeated_message mail) there

pub repeating_is : (c : Contents) (place : ℕ) → place < length c.mail
    → object_of c.delta c.positions (repeated c.mail place) c.calls
    ≡ on_message (state_of c).object (slice_get c.mail place) (λ message. repeated_object (state_of c).object message)
repeating_is c place within =
    let there = found c.mail place within in
    cc (repeated_is c.mail place there.0 there.1, there.1)

pub repeating_keeps : (c : Contents) (place now : ℕ) → c.last < now → IsKept c → place < length c.mail
    → IsKept (record c { mail = repeated c.mail place; last = now })
repeating_keeps c place now after kept within =
    mail_kept c (repeated c.mail place) now kept
    (subst (λ o. IsSound fragment o now) (sym (repeating_is c place within))
    (steps_on c now (Step.Repeat place) after kept (found c.mail place within)))

pub repeat_cause_is : (mail : List Message) (place : ℕ) → place < length mail
    → if_message (slice_get mail place) (λ message. mail_cause (repeated mail place)) ≡ mail_cause (repeated mail place)
repeat_cause_is mail place within = let there = found mail place within in ap
    (λ m. if_message m (λ message. mail_cause (repeated mail place))) there.1
