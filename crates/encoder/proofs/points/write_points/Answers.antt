use Rattle.std.proofs.Common.{arith}
use Rattle.encoder.proofs.points.write_points.Goals as goal

pub loop-from-init : goal.loop-from-init
loop-from-init c = record { within = omega arith; rows = λ r b hr hb. absurd (omega arith) }

pub loop-from-preserved : goal.loop-from-preserved
loop-from-preserved c = record { within = omega arith; rows = c.write_stripe.ensures c.loop-from.invariant.rows }

pub returns : goal.returns
returns c r b hr hb = c.loop-from.invariant.rows r b hr (omega arith)
