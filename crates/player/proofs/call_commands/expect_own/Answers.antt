use Rattle.std.proofs.Common.{Some, sym, ap, ◌∙◌, arith}
use Rattle.record.specs.Sending.{value_or_empty}
use Rattle.player.proofs.SupplyAsLemmas.{too_long, other_value, own_value}
use Rattle.player.proofs.call_commands.expect_own.Goals as goal

pub returns-then-len-gt-LONGEST_VALUE-clause-other : goal.returns-then-len-gt-LONGEST_VALUE-clause-other
returns-then-len-gt-LONGEST_VALUE-clause-other c =
    let long = c.if-len-gt-LONGEST_VALUE.true in
    let len = c.len.ensures.value in
    too_long c.args.cluster.now c.args.name.now c.args.call c.args.value.now c.in_ok-register.register.now
    c.in_ok-register.ensures.object c.in-Supply.k c.in-Supply.n c.soundness.ensures.sound
    (c.in_ok-want.ensures.want ∙ ap Some c.in-Supply.is) (omega (arith, long, len))

pub returns-then-not-is_value-clause-other : goal.returns-then-not-is_value-clause-other
returns-then-not-is_value-clause-other c =
    let short = c.if-len-gt-LONGEST_VALUE.false in
    let len = c.len.ensures.value in
    other_value c.args.cluster.now c.args.name.now c.args.call c.args.value.now c.in_ok-register.register.now
    c.in_ok-register.ensures.object c.in-Supply.k c.in-Supply.n c.soundness.ensures.sound
    (c.in_ok-want.ensures.want ∙ ap Some c.in-Supply.is) (omega (arith, short, len))
    (λ same. let is = c.is_value.ensures.1 (same ∙ sym (ap value_or_empty c.value_view.ensures)) in
    let is_not = c.if-not-is_value.true in
    absurd (cc))

pub returns-clause-own : goal.returns-clause-own
returns-clause-own c =
    let short = c.if-len-gt-LONGEST_VALUE.false in
    let len = c.len.ensures.value in
    own_value c.args.cluster.now c.args.name.now c.args.call c.args.value.now c.in_ok-register.register.now
    c.in_ok-register.ensures.object c.in-Supply.k c.in-Supply.n c.soundness.ensures.sound
    (c.in_ok-want.ensures.want ∙ ap Some c.in-Supply.is) (omega (arith, short, len))
    (c.is_value.ensures.0 c.if-not-is_value.false ∙ ap value_or_empty c.value_view.ensures)
