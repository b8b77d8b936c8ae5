use Rattle.std.proofs.Common.{◌≡◌, ℕ, ◌*◌, length, length-take, sym, ap, ◌∙◌, arith, rules}
use Rattle.std.proofs.lemmas.List.{length-replicate}
use Rattle.kernels.specs.Dot.{bytes_of}
use Rattle.kernels.proofs.LaneSumLemmas.{length-bytes_of}
use Rattle.decoder.proofs.PointAndFragmentLemmas.{distinct_points, other_count}
use Rattle.decoder.proofs.WeightedSumLemmas.{fragment-sums}
use Rattle.decoder.proofs.repair.write_in.Goals as goal

pub write_sum-requires-clause-some : goal.write_sum-requires-clause-some
write_sum-requires-clause-some g c =
    let fragments = c.args.fragments.now in
    let is_k = sym (length-bytes_of fragments)
    ∙ other_count c.args.k c.args.len c.args.points.now (bytes_of fragments) c.requires.lawful in
    let lawful = c.requires.lawful.lawful in
    omega (arith, is_k, lawful.some)

pub write_sum-requires-clause-distinct : goal.write_sum-requires-clause-distinct
write_sum-requires-clause-distinct g c =
    distinct_points c.args.k c.args.len c.args.points.now (bytes_of c.args.fragments.now) c.requires.lawful

pub write_sum-requires-clause-coefficients : goal.write_sum-requires-clause-coefficients
write_sum-requires-clause-coefficients g c =
    let fragments = c.args.fragments.now in
    let is_k = sym (length-bytes_of fragments)
    ∙ other_count c.args.k c.args.len c.args.points.now (bytes_of fragments) c.requires.lawful in
    let size : length c.have_value.new.table ≡ c.args.k * c.args.k = omega arith in
    size ∙ ap (λ (n : ℕ). n * n) (sym is_k)

pub write_sum-requires-clause-tables : goal.write_sum-requires-clause-tables
write_sum-requires-clause-tables g c =
    let fragments = c.args.fragments.now in
    let is_k = sym (length-bytes_of fragments)
    ∙ other_count c.args.k c.args.len c.args.points.now (bytes_of fragments) c.requires.lawful in
    simp (length-take, length-replicate) (omega (arith, is_k, c.requires.tables))

pub returns-clause-repaired : goal.returns-clause-repaired
returns-clause-repaired g c =
    let size : length c.have_value.new.table ≡ c.args.k * c.args.k = omega arith in
    let out_len : length c.write_sum.new.out ≡ length c.args.out.now = omega arith in
    fragment-sums c.args.k c.args.len c.args.points.now (bytes_of c.args.fragments.now) c.requires.lawful c.requires.bytes
    c.have_value.new.table c.write_sum.new.out c.args.point c.ranges.point.fits c.have_value.ensures.rows size
    (out_len ∙ c.requires.room) c.write_sum.ensures

pub returns-clause-value : goal.returns-clause-value
returns-clause-value g c = search rules
