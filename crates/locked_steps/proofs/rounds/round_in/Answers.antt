use Rattle.std.proofs.Common.{rules, tests}
use Rattle.locked_steps.proofs.rounds.round_in.Goals as goal

pub returns-in_err-round-clause-cause : goal.returns-in_err-round-clause-cause
returns-in_err-round-clause-cause g c = search (rules, tests)

pub returns-clause-cause : goal.returns-clause-cause
returns-clause-cause g c = search (rules, tests)

pub settle-requires-clause-value : goal.settle-requires-clause-value
settle-requires-clause-value g c = search rules
