use Rattle.std.proofs.Common.{◌≡◌, ◌+◌, ◌-◌, length, drop, get_or, bit_xor, ap, sym, ◌∙◌, arith}
use Rattle.gf256.specs.Field.{field_product}
use Rattle.gf256.specs.Polynomial.{evaluate}
use Rattle.poly.proofs.PolynomialQuotientLemmas.{evaluate-drop, evaluate-past}
use Rattle.poly.proofs.quotient.value_at.Goals as goal

pub loop-m-init : goal.loop-m-init
loop-m-init c = sym (evaluate-past c.args.polynomial.now (length c.args.polynomial.now) c.args.x (omega arith))

pub loop-m-preserved : goal.loop-m-preserved
loop-m-preserved c =
    let cs = c.args.polynomial.now in
    let m = c.loop-m.m - 1 in
    let e : c.loop-m.m ≡ m + 1 = omega arith in
    ap (bit_xor (get_or cs m 0)) (c.mul.ensures
    ∙ ap (field_product c.args.x) (c.loop-m.invariant ∙ ap (λ n. evaluate (drop n cs) c.args.x) e))
    ∙ sym (evaluate-drop cs m c.args.x (omega arith))
