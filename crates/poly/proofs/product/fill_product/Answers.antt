use Rattle.std.proofs.Common.{◌≡◌, ◌<◌, ◌++◌, [], ◌∷◌, ap, sym, subst, ◌∙◌}
use Rattle.std.proofs.lemmas.List.Elements.{All-from_get_or}
use Rattle.gf256.specs.Polynomial.{AreBytes}
use Rattle.poly.specs.Basis.{IsProduct}
use Rattle.poly.proofs.PolynomialProductLemmas.{IsProduct-none, IsProduct-more}
use Rattle.poly.proofs.product.fill_product.Goals as goal

pub loop-point-init : goal.loop-point-init
loop-point-init c =
    let made : c.push.new.self.items ≡ 1 ∷ [] = c.push.ensures.items ∙ ap (λ xs. xs ++ 1 ∷ []) c.requires.empty in
    subst (IsProduct c.args.points.now 0) (sym made) (IsProduct-none c.args.points.now)

pub loop-point-preserved : goal.loop-point-preserved
loop-point-preserved c =
    let points = c.args.points.now in
    let did = c.multiply_by_root.ensures in
    let bytes : AreBytes points = All-from_get_or (λ x. x < 256) points 0 (λ k hk. (c.type_inv.points k).fits) in
    IsProduct-more points c.loop-point.point-index c.loop-point.product.items c.multiply_by_root.new.row.items bytes c.loop-point-test.true
    did.len did.bytes did.highest did.value c.loop-point.invariant
