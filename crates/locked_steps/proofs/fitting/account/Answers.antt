use Rattle.std.proofs.Common.{◌≡◌, ◌++◌, ◌∷◌, [], length, rules, arith, ap, refl}
use Rattle.locked_steps.specs.Closing.{all_records}
use Rattle.locked_steps.proofs.SeatRecordLemmas.{length_all_records-push}
use Rattle.locked_steps.proofs.fitting.account.Goals as goal

pub loop-seat-preserved : goal.loop-seat-preserved
loop-seat-preserved g c =
    let s = c.in-Some.seat in
    let popped : c.loop-seat.seats.items ≡ c.pop.new.self.items ++ s ∷ [] = search rules in
    let n = length_all_records-push c.pop.new.self.items s in
    let m = ap (λ l. length (all_records l)) popped in
    record {
      parts = search rules;
      amount = omega (arith, n, m, c.loop-seat.invariant.amount, c.merge.ensures.amount, c.into_share.ensures.amount);
      total = refl;
    }
