use Rattle.std.proofs.Common.{◌≡◌, ◌+◌, length, ap, sym, subst, ◌∙◌, arith, pos_of_ne-zero}
use Rattle.gf256.specs.Field.{field_product}
use Rattle.gf256.specs.Polynomial.{AreBytes, IsBasisRow, scaled}
use Rattle.poly.proofs.PolynomialProductLemmas.{scaled_made}
use Rattle.poly.proofs.PolynomialQuotientLemmas.{not_zero, AreBytes-quotient, IsBasisRow-scaled}
use Rattle.poly.proofs.rows.write_row.Goals as goal

pub inv-requires : goal.inv-requires
inv-requires c =
    let row = c.quotient-value.new.row in
    let rows = c.requires.rows in
    let len : length row + 1 ≡ length c.args.product.now =
    omega (arith, c.quotient-value.auto.row, c.requires.room, rows.whole.len) in
    let did = c.quotient-value.ensures in
    pos_of_ne-zero
    (λ e. not_zero c.args.points.now c.args.product.now row c.args.i rows c.requires.place len did.coefficients (sym did.value ∙ e))

pub returns : goal.returns
returns c =
    let points = c.args.points.now in
    let product = c.args.product.now in
    let i = c.args.i in
    let rows = c.requires.rows in
    let row = c.quotient-value.new.row in
    let len : length row + 1 ≡ length product = omega (arith, c.quotient-value.auto.row, c.requires.room, rows.whole.len) in
    let did = c.quotient-value.ensures in
    let new = c.scale.new.row in
    let factor = c.inv.result in
    let bytes : AreBytes row = AreBytes-quotient points product row i rows c.requires.place len did.coefficients in
    let made : new ≡ scaled factor row = scaled_made factor row new c.inv.type_inv bytes c.scale.auto.row c.scale.ensures in
    subst (IsBasisRow points i) (sym made)
    (IsBasisRow-scaled points product row i rows c.requires.place len did.coefficients factor c.inv.type_inv
    (ap (field_product factor) (sym did.value) ∙ c.inv.ensures))
