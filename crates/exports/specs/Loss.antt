-- The contracts that docs/trusted.md lists do not depend on this file; other contracts and proofs do.
-- A message that a script loses.
use Rattle.std.specs.Prelude.{ℕ, Option, Some, None}
use Rattle.mail.specs.declared.message.Body.{Body}
use Rattle.mail.specs.declared.message.Body.TheVariants as body
use Rattle.mail.specs.declared.message.Message.{Message}
use Rattle.exports.specs.declared.loss.Loss.{Loss}

-- the step at which the request was served, if the message is its reply; none if it is the request
abbrev pub served_at : Body → Option ℕ
served_at (body.Request asked) = None
served_at (body.Reply kind reply) = Some reply.step

-- the loss of this message at this step
abbrev pub loss_of : Message → (step : ℕ) → Loss
loss_of message step = record {
  call = message.call;
  phase = message.phase;
  position = message.position;
  member = message.member;
  served = served_at message.body;
  step = step;
}
