use Rattle.std.proofs.Common.{rules}
use Rattle.locked_steps.proofs.messages.disturb_in.Goals as goal

pub returns-clause-step : goal.returns-clause-step
returns-clause-step g c = search rules
