use Rattle.std.proofs.Common.{◌≡◌, ℕ, ◌*◌, length, sym, ap, subst, ◌∙◌, arith}
use Rattle.kernels.specs.Dot.{bytes_of}
use Rattle.kernels.proofs.LaneSumLemmas.{length-bytes_of}
use Rattle.decoder.specs.Rows.{AreBlockBytes, HaveColumnSums}
use Rattle.decoder.proofs.PointAndFragmentLemmas.{other_count}
use Rattle.decoder.proofs.SummedValueLemmas.{whole_fits, whole_holds}
use Rattle.decoder.proofs.value.make_with.Goals as goal

pub made_blocks-requires-clause-some : goal.made_blocks-requires-clause-some
made_blocks-requires-clause-some c =
    let fragments = c.args.fragments.now in
    let is_k = sym (length-bytes_of fragments)
    ∙ other_count c.args.k c.args.len c.args.points.now (bytes_of fragments) c.requires.lawful in
    let lawful = c.requires.lawful.lawful in
    omega (arith, is_k, lawful.some)

pub made_blocks-requires-clause-table : goal.made_blocks-requires-clause-table
made_blocks-requires-clause-table c =
    let fragments = c.args.fragments.now in
    let is_k = sym (length-bytes_of fragments)
    ∙ other_count c.args.k c.args.len c.args.points.now (bytes_of fragments) c.requires.lawful in
    let same : length c.have_value.new.table ≡ length c.args.table.now = omega arith in
    same ∙ c.requires.coefficients ∙ ap (λ (n : ℕ). n * n) (sym is_k)

pub made_blocks-requires-clause-sums : goal.made_blocks-requires-clause-sums
made_blocks-requires-clause-sums c =
    let fragments = c.args.fragments.now in
    let is_k = sym (length-bytes_of fragments)
    ∙ other_count c.args.k c.args.len c.args.points.now (bytes_of fragments) c.requires.lawful in
    subst (HaveColumnSums c.have_value.new.table) (sym is_k) c.have_value.ensures.sums

pub made_blocks-requires-clause-room : goal.made_blocks-requires-clause-room
made_blocks-requires-clause-room c =
    let fragments = c.args.fragments.now in
    let is_k = sym (length-bytes_of fragments)
    ∙ other_count c.args.k c.args.len c.args.points.now (bytes_of fragments) c.requires.lawful in
    omega (arith, is_k, c.requires.tables)

pub made_blocks-requires-clause-within : goal.made_blocks-requires-clause-within
made_blocks-requires-clause-within c =
    let fragments = c.args.fragments.now in
    let is_k = sym (length-bytes_of fragments)
    ∙ other_count c.args.k c.args.len c.args.points.now (bytes_of fragments) c.requires.lawful in
    whole_holds c.args.k c.args.len c.args.points.now (bytes_of fragments) c.requires.lawful c.requires.bytes
    (length fragments) c.div_ceil-block_len.result is_k c.div_ceil-block_len.ensures

pub made_blocks-requires-clause-fits : goal.made_blocks-requires-clause-fits
made_blocks-requires-clause-fits c =
    let fragments = c.args.fragments.now in
    let is_k = sym (length-bytes_of fragments)
    ∙ other_count c.args.k c.args.len c.args.points.now (bytes_of fragments) c.requires.lawful in
    whole_fits c.args.k c.args.len c.args.points.now (bytes_of fragments) c.requires.lawful c.requires.bytes
    (length fragments) c.div_ceil-block_len.result is_k c.div_ceil-block_len.ensures

pub returns-clause-interpolated : goal.returns-clause-interpolated
returns-clause-interpolated c =
    let made = c.in_ok-made_blocks in
    c.have_value.ensures.value c.if-not-have_value.false made.field-0.items made.ensures.len
    (subst (λ f. AreBlockBytes made.field-0.items f c.have_value.new.table (bytes_of c.args.fragments.now)) c.div_ceil-block_len.ensures
    made.ensures.bytes)
