use Rattle.std.proofs.Common.{sym}
use Rattle.cluster_file.proofs.ValueLemmas.{number_in_range}
use Rattle.cluster_file.proofs.reading.number_at.Goals as goal

pub returns-clause-least : goal.returns-clause-least
returns-clause-least c = (number_in_range c.args.range _ _ (sym c.in_ok-number.ensures)).0

pub returns-clause-most : goal.returns-clause-most
returns-clause-most c = (number_in_range c.args.range _ _ (sym c.in_ok-number.ensures)).1
