use Rattle.std.proofs.Common.{ap, sym, subst, ◌∙◌, ◌+◌, get_or}
use Rattle.gf256.specs.Polynomial.{AreBytes, evaluate}
use Rattle.gf256.proofs.BasisRowLemmas.{AreBytes-times_root, evaluate-times_root}
use Rattle.poly.proofs.PolynomialProductLemmas.{refill-times_root, highest-times_root, AreBytes-from_padded}
use Rattle.poly.proofs.product.multiply_by_root.Goals as goal

pub returns-clause-bytes : goal.returns-clause-bytes
returns-clause-bytes c =
    let row = c.args.row.now.items in
    let root = c.args.root in
    let did = c.multiply_in_place.ensures in
    let old = AreBytes-from_padded row c.as_mut_slice.result.now (c.as_mut_slice.ensures.value ∙ c.push.ensures.items) did.bytes in
    let made =
    refill-times_root root row c.push.new.self.items c.as_mut_slice.result.now c.multiply_in_place.new.row c.ranges.root.fits did.bytes
    c.push.ensures.items c.as_mut_slice.ensures.value c.multiply_in_place.auto.row did.constant did.others in
    subst AreBytes (sym made) (AreBytes-times_root root row c.ranges.root.fits old)

pub returns-clause-value : goal.returns-clause-value
returns-clause-value c x hx =
    let row = c.args.row.now.items in
    let root = c.args.root in
    let did = c.multiply_in_place.ensures in
    let old = AreBytes-from_padded row c.as_mut_slice.result.now (c.as_mut_slice.ensures.value ∙ c.push.ensures.items) did.bytes in
    let made =
    refill-times_root root row c.push.new.self.items c.as_mut_slice.result.now c.multiply_in_place.new.row c.ranges.root.fits did.bytes
    c.push.ensures.items c.as_mut_slice.ensures.value c.multiply_in_place.auto.row did.constant did.others in
    ap (λ cs. evaluate cs x) made ∙ evaluate-times_root root row x c.ranges.root.fits old hx

pub returns-clause-highest : goal.returns-clause-highest
returns-clause-highest c m len =
    let row = c.args.row.now.items in
    let root = c.args.root in
    let did = c.multiply_in_place.ensures in
    let made =
    refill-times_root root row c.push.new.self.items c.as_mut_slice.result.now c.multiply_in_place.new.row c.ranges.root.fits did.bytes
    c.push.ensures.items c.as_mut_slice.ensures.value c.multiply_in_place.auto.row did.constant did.others in
    ap (λ cs. get_or cs (m + 1) 0) made ∙ highest-times_root root row m len
