use Rattle.std.proofs.Common.{sym, ◌∙◌}
use Rattle.locked_steps.proofs.ClusterCallCountLemmas.{none_called}
use Rattle.locked_steps.proofs.booked.Booked.new.Goals as goal

pub invariant_of-result : goal.invariant_of-result
invariant_of-result g c = (
  c.requires.book ∙ sym (none_called c.args.cluster c.requires.calls),
  c.requires.own.0,
  c.requires.own.1,
  c.requires.seats.0,
  c.requires.seats.1,
  (0, c.requires.first),
  c.requires.sound,
)
