use Rattle.std.proofs.Common.{◌≡◌, ℕ, ◌*◌, length, sym, ap, subst, ◌∙◌, arith}
use Rattle.kernels.specs.Dot.{bytes_of}
use Rattle.kernels.proofs.LaneSumLemmas.{length-bytes_of}
use Rattle.decoder.specs.Rows.{AreBlockBytes, HaveColumnSums}
use Rattle.decoder.proofs.PointAndFragmentLemmas.{other_count}
use Rattle.decoder.proofs.SummedValueLemmas.{whole_fits, whole_holds}
use Rattle.decoder.proofs.value.write_with.Goals as goal

pub write_blocks-requires-clause-some : goal.write_blocks-requires-clause-some
write_blocks-requires-clause-some c =
    let fragments = c.args.fragments.now in
    let is_k = sym (length-bytes_of fragments)
    ∙ other_count c.args.k (length c.args.out.now) c.args.points.now (bytes_of fragments) c.requires.lawful in
    let lawful = c.requires.lawful.lawful in
    omega (arith, is_k, lawful.some)

pub write_blocks-requires-clause-table : goal.write_blocks-requires-clause-table
write_blocks-requires-clause-table c =
    let fragments = c.args.fragments.now in
    let is_k = sym (length-bytes_of fragments)
    ∙ other_count c.args.k (length c.args.out.now) c.args.points.now (bytes_of fragments) c.requires.lawful in
    let same : length c.have_value.new.table ≡ length c.args.table.now = omega arith in
    same ∙ c.requires.coefficients ∙ ap (λ (n : ℕ). n * n) (sym is_k)

pub write_blocks-requires-clause-sums : goal.write_blocks-requires-clause-sums
write_blocks-requires-clause-sums c =
    let fragments = c.args.fragments.now in
    let is_k = sym (length-bytes_of fragments)
    ∙ other_count c.args.k (length c.args.out.now) c.args.points.now (bytes_of fragments) c.requires.lawful in
    subst (HaveColumnSums c.have_value.new.table) (sym is_k) c.have_value.ensures.sums

pub write_blocks-requires-clause-room : goal.write_blocks-requires-clause-room
write_blocks-requires-clause-room c =
    let fragments = c.args.fragments.now in
    let is_k = sym (length-bytes_of fragments)
    ∙ other_count c.args.k (length c.args.out.now) c.args.points.now (bytes_of fragments) c.requires.lawful in
    omega (arith, is_k, c.requires.tables)

pub write_blocks-requires-clause-fits : goal.write_blocks-requires-clause-fits
write_blocks-requires-clause-fits c =
    let fragments = c.args.fragments.now in
    let is_k = sym (length-bytes_of fragments)
    ∙ other_count c.args.k (length c.args.out.now) c.args.points.now (bytes_of fragments) c.requires.lawful in
    whole_fits c.args.k (length c.args.out.now) c.args.points.now (bytes_of fragments) c.requires.lawful c.requires.bytes
    (length fragments) c.div_ceil-block_len.result is_k c.div_ceil-block_len.ensures

pub write_blocks-requires-clause-within : goal.write_blocks-requires-clause-within
write_blocks-requires-clause-within c =
    let fragments = c.args.fragments.now in
    let is_k = sym (length-bytes_of fragments)
    ∙ other_count c.args.k (length c.args.out.now) c.args.points.now (bytes_of fragments) c.requires.lawful in
    whole_holds c.args.k (length c.args.out.now) c.args.points.now (bytes_of fragments) c.requires.lawful c.requires.bytes
    (length fragments) c.div_ceil-block_len.result is_k c.div_ceil-block_len.ensures

pub returns-clause-interpolated : goal.returns-clause-interpolated
returns-clause-interpolated c =
    let out = c.write_blocks.new.out in
    let long : length out ≡ length c.args.out.now = omega arith in
    c.have_value.ensures.value c.if-not-have_value.false out long
    (subst (λ f. AreBlockBytes out f c.have_value.new.table (bytes_of c.args.fragments.now)) c.div_ceil-block_len.ensures
    c.write_blocks.ensures)
