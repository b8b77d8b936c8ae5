use Rattle.std.proofs.Common.{arith}
use Rattle.locked_steps.proofs.RecordOrderLemmas.{rising_higher}
use Rattle.locked_steps.proofs.seat.Seat.learn.Goals as goal

pub invariant_of-self : goal.invariant_of-self
invariant_of-self g c =
    let h = c.self.invariant in
    (h.0, h.1, rising_higher _ _ _ _ h.2 (omega arith), h.3, h.4)
