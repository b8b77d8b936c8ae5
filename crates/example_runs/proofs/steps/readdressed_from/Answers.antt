use Rattle.example_runs.proofs.HandledStepLemmas.{readdressed_is}
use Rattle.example_runs.proofs.steps.readdressed_from.Goals as goal

pub returns-then-eq : goal.returns-then-eq
returns-then-eq c =
    readdressed_is c.args.number c.args.sender c.args.frame.now c.strings.result.now c.in_ok-addressed-in-len1-up.field-0
    c.to-item.result c.in_ok-address.address c.in_ok-from-in-len1-up.from c.eq.result c.strings.ensures.strings
    c.in-len1-up.len_at_least c.to-item.is c.eq.ensures c.if-eq.true c.in_ok-address.ensures c.in_ok-from-in-len1-up.ensures
    c.in_ok-addressed-in-len1-up.ensures c.ranges.sender.fits
