use Rattle.std.proofs.Common.{ap, subst, sym, ◌∙◌, ◌<◌}
use Rattle.gf256.specs.Field.{field_power}
use Rattle.gf256.proofs.LogarithmTableLemmas.{logarithm_lt, power_of_logarithm}
use Rattle.gf256.proofs.logarithms.logarithm.Goals as goal

pub returns-clause-small : goal.returns-clause-small
returns-clause-small c = subst (λ l. l < 255) (sym c.at.ensures) (logarithm_lt c.args.a c.ranges.a.fits)

pub returns-clause-power : goal.returns-clause-power
returns-clause-power c some = ap (field_power 2) c.at.ensures ∙ power_of_logarithm c.args.a some c.ranges.a.fits
