use Rattle.std.proofs.Common.{◌∙◌}
use Rattle.gf256.proofs.LogarithmTableLemmas.{power_at}
use Rattle.gf256.proofs.logarithms.power.Goals as goal

pub returns : goal.returns
returns c = c.at.ensures ∙ power_at c.args.exponent c.requires
