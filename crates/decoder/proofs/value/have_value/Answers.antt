use Rattle.std.proofs.Common.{◌≡◌, ℕ, ◌*◌, ◌<◌, List, length, All, sym, ap, subst, ◌∙◌, arith, true≢false}
use Rattle.kernels.specs.Dot.{bytes_of}
use Rattle.kernels.proofs.LaneSumLemmas.{length-bytes_of}
use Rattle.decoder.specs.Rows.{HaveColumnSums}
use Rattle.decoder.proofs.ColumnSumLemmas.{HaveColumnSums-rows}
use Rattle.decoder.proofs.PointAndFragmentLemmas.{count, other_count, distinct_points, fragment_at-len, points-pieces_at}
use Rattle.decoder.proofs.SummedValueLemmas.{whole_fits, zeros_read, zeros_told, zeros_of_value, made_value, some_value}
use Rattle.decoder.proofs.SummedValueLemmas.{IsInterpolated-sums}
use Rattle.decoder.proofs.value.have_value.Goals as goal

pub fill_rows-requires-clause-distinct : goal.fill_rows-requires-clause-distinct
fill_rows-requires-clause-distinct c =
    distinct_points c.args.k c.args.len c.args.points.now (bytes_of c.args.fragments.now) c.requires.lawful

pub fill_rows-requires-clause-fits : goal.fill_rows-requires-clause-fits
fill_rows-requires-clause-fits c =
    let lawful = c.requires.lawful.lawful in
    omega (arith, count c.args.k c.args.len c.args.points.now (bytes_of c.args.fragments.now) c.requires.lawful, lawful.most)

pub fill_rows-requires-clause-room : goal.fill_rows-requires-clause-room
fill_rows-requires-clause-room c =
    c.requires.coefficients
    ∙ ap (λ (n : ℕ). n * n) (sym (count c.args.k c.args.len c.args.points.now (bytes_of c.args.fragments.now) c.requires.lawful))

pub is_padding_zero-requires-clause-table : goal.is_padding_zero-requires-clause-table
is_padding_zero-requires-clause-table c =
    let fragments = c.args.fragments.now in
    let is_k = sym (length-bytes_of fragments) ∙ other_count c.args.k c.args.len c.args.points.now (bytes_of fragments) c.requires.lawful in
    let same : length c.fill_rows.new.table ≡ length c.args.table.now = omega arith in
    same ∙ c.requires.coefficients ∙ ap (λ (n : ℕ). n * n) (sym is_k)

pub is_padding_zero-requires-clause-fits : goal.is_padding_zero-requires-clause-fits
is_padding_zero-requires-clause-fits c =
    let fragments = c.args.fragments.now in
    let is_k = sym (length-bytes_of fragments) ∙ other_count c.args.k c.args.len c.args.points.now (bytes_of fragments) c.requires.lawful in
    whole_fits c.args.k c.args.len c.args.points.now (bytes_of fragments) c.requires.lawful c.requires.bytes
    (length fragments) c.div_ceil.result is_k c.div_ceil.ensures

pub is_padding_zero-requires-clause-lens : goal.is_padding_zero-requires-clause-lens
is_padding_zero-requires-clause-lens c i hi =
    let fragments = c.args.fragments.now in
    let same = length-bytes_of fragments in
    fragment_at-len c.args.k c.args.len c.args.points.now (bytes_of fragments) c.requires.lawful i (omega arith) ∙ sym c.div_ceil.ensures

pub returns-clause-sums : goal.returns-clause-sums
returns-clause-sums c =
    let k = c.args.k in
    let len = c.args.len in
    let points = c.args.points.now in
    let bytes = bytes_of c.args.fragments.now in
    let lawful = c.requires.lawful in
    let is_k = count k len points bytes lawful in
    let some = lawful.lawful.some in
    subst (HaveColumnSums c.fill_rows.new.table) is_k
    (HaveColumnSums-rows c.fill_rows.new.table points
    (subst (λ (xs : List ℕ). All (λ x. x < 256) xs) (points-pieces_at len points bytes) c.requires.bytes.points)
    (distinct_points k len points bytes lawful) (omega (arith, is_k, some)) c.fill_rows.ensures)

pub returns-clause-value : goal.returns-clause-value
returns-clause-value c all_zero value long sums =
    let k = c.args.k in
    let len = c.args.len in
    let points = c.args.points.now in
    let fragments = c.args.fragments.now in
    let bytes = bytes_of fragments in
    let is_k = sym (length-bytes_of fragments) ∙ other_count k len points bytes c.requires.lawful in
    IsInterpolated-sums k len points bytes c.requires.lawful c.requires.bytes c.fill_rows.new.table value c.fill_rows.ensures
    (zeros_read k len points bytes c.requires.lawful c.requires.bytes c.fill_rows.new.table (length fragments) c.div_ceil.result is_k
    c.div_ceil.ensures (c.is_padding_zero.ensures.0 all_zero))
    long sums

pub returns-clause-made : goal.returns-clause-made
returns-clause-made c all_zero =
    let k = c.args.k in
    let len = c.args.len in
    let points = c.args.points.now in
    let fragments = c.args.fragments.now in
    let bytes = bytes_of fragments in
    let is_k = sym (length-bytes_of fragments) ∙ other_count k len points bytes c.requires.lawful in
    made_value k len points bytes c.requires.lawful c.requires.bytes c.fill_rows.new.table c.fill_rows.ensures
    (zeros_read k len points bytes c.requires.lawful c.requires.bytes c.fill_rows.new.table (length fragments) c.div_ceil.result is_k
    c.div_ceil.ensures (c.is_padding_zero.ensures.0 all_zero))

pub returns-clause-some : goal.returns-clause-some
returns-clause-some c all_zero =
    let k = c.args.k in
    let len = c.args.len in
    let points = c.args.points.now in
    let fragments = c.args.fragments.now in
    let bytes = bytes_of fragments in
    let is_k = sym (length-bytes_of fragments) ∙ other_count k len points bytes c.requires.lawful in
    some_value k len points bytes c.requires.lawful c.requires.bytes c.fill_rows.new.table c.fill_rows.ensures
    (zeros_read k len points bytes c.requires.lawful c.requires.bytes c.fill_rows.new.table (length fragments) c.div_ceil.result is_k
    c.div_ceil.ensures (c.is_padding_zero.ensures.0 all_zero))

pub returns-clause-none : goal.returns-clause-none
returns-clause-none c not_zero value known =
    let k = c.args.k in
    let len = c.args.len in
    let points = c.args.points.now in
    let fragments = c.args.fragments.now in
    let bytes = bytes_of fragments in
    let is_k = sym (length-bytes_of fragments) ∙ other_count k len points bytes c.requires.lawful in
    true≢false
    (sym (c.is_padding_zero.ensures.1
    (zeros_told k len points bytes c.requires.lawful c.requires.bytes c.fill_rows.new.table (length fragments) c.div_ceil.result is_k
    c.div_ceil.ensures
    (zeros_of_value k len points bytes c.requires.lawful c.requires.bytes c.fill_rows.new.table value c.fill_rows.ensures known)))
    ∙ not_zero)
