use Rattle.std.proofs.Common.{◌≡◌, ◌==◌, ◌<◌, rules, arith, below_more, refl}
use Rattle.std.specs.Prelude.{count_by}
use Rattle.locked_steps.specs.Seats.{SeatState}
use Rattle.locked_steps.proofs.fitting.are_numbered.Goals as goal

pub returns-then-seats_with-ne1 : goal.returns-then-seats_with-ne1
returns-then-seats_with-ne1 g c =
    let less : c.loop-number.number < c.args.count = search rules in
    ((λ x. absurd (cc (x))), λ n. absurd (omega (arith, n.once c.loop-number.number less, c.seats_with.ensures)))

pub loop-number-preserved : goal.loop-number-preserved
loop-number-preserved g c =
    let here : count_by (λ (s : SeatState). s.number == c.loop-number.number) c.args.seats.now ≡ 1 = omega (arith, c.seats_with.ensures) in
    below_more (λ k. count_by (λ (s : SeatState). s.number == k) c.args.seats.now ≡ 1) c.loop-number.number c.loop-number.invariant here

pub returns : goal.returns
returns g c =
    ((λ _. record { length = c.if-seats-count.false; once = λ k less. c.loop-number.invariant k (omega arith) }), λ _. refl)
