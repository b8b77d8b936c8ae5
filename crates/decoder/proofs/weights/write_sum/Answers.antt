use Rattle.std.proofs.Common.{◌≡◌, ℕ, ◌+◌, ◌*◌, ◌<◌, length, get_or, true, sym, ap, subst, ◌∙◌, arith, lit<}
use Rattle.std.proofs.lemmas.List.Elements.{All-from_get_or}
use Rattle.gf256.specs.Polynomial.{AreBytes}
use Rattle.kernels.specs.Dot.{bytes_of, row}
use Rattle.kernels.specs.Level.{HaveLevels}
use Rattle.kernels.proofs.LaneSumLemmas.{dot_same, length-bytes_of}
use Rattle.decoder.specs.Rows.{line_value}
use Rattle.decoder.proofs.WeightedSumLemmas.{HaveLevels-values}
use Rattle.decoder.proofs.weights.write_sum.Goals as goal

pub differences_of-requires-clause-levels : goal.differences_of-requires-clause-levels
differences_of-requires-clause-levels c =
    let points = c.args.points.now in
    let table = c.args.table.now in
    let bytes : AreBytes points = All-from_get_or (λ x. x < 256) points 0 (λ i hi. (c.type_inv.points i).fits) in
    let size : length table ≡ length points * length points =
    c.requires.coefficients ∙ ap (λ (n : ℕ). n * n) (sym c.requires.points) in
    let levels =
    HaveLevels-values table points bytes c.requires.distinct c.requires.rows size c.fill_values.new.tables c.args.point
    (omega arith) c.ranges.point.fits
    (λ i hi.
    c.fill_values.ensures i (omega arith)
    ∙ ap (λ n. line_value table n c.args.point i) (c.requires.tables ∙ sym c.requires.points)) in
    subst (λ n. HaveLevels c.fill_values.new.tables 1 n true) c.requires.points levels

pub returns : goal.returns
returns c b hb =
    let fragments = c.args.fragments.now in
    let count = length-bytes_of fragments in
    let only : b ≡ 0 * length c.args.out.now + b = omega arith in
    ap (λ n. get_or c.differences_of.new.out n 0) only
    ∙ c.differences_of.ensures 0 b (lit< tt) (omega arith)
    ∙ dot_same (row c.fill_values.new.tables 1 0) (line_value c.args.table.now (length c.args.points.now) c.args.point)
    (bytes_of fragments) b
    (λ i hi.
    let place : i * 1 + 0 ≡ i = omega arith in
    ap (λ n. get_or c.fill_values.new.tables n 0) place ∙ c.fill_values.ensures i (omega arith)
    ∙ ap (λ n. line_value c.args.table.now n c.args.point i) (c.requires.tables ∙ sym c.requires.points))
