use Rattle.std.proofs.Common.{◌≡◌, ◌≤◌, ◌<◌, ℕ, ◌+◌, ◌*◌, length, get_or, sym, ap, ◌∙◌, arith, mul-le-mul_right}
use Rattle.kernels.specs.Dot.{bytes_of, dot_byte, row}
use Rattle.kernels.proofs.LaneSumLemmas.{dot_same, length-bytes_of}
use Rattle.decoder.specs.Rows.{block_byte}
use Rattle.decoder.proofs.ColumnSumLemmas.{HaveLevels-columns}
use Rattle.decoder.proofs.sums.write_pass.Goals as goal

pub differences_between-requires-clause-levels : goal.differences_between-requires-clause-levels
differences_between-requires-clause-levels g c =
    HaveLevels-columns c.fill_columns.new.tables c.args.table.now (length c.args.fragments.now) g.row.R c.args.first
    c.requires.sums c.requires.few c.fill_columns.ensures

pub differences_between-requires-clause-fits : goal.differences_between-requires-clause-fits
differences_between-requires-clause-fits g c =
    let few : g.row.R ≤ length c.args.fragments.now = omega (arith, c.requires.few) in
    omega (arith, mul-le-mul_right c.args.size few, c.requires.fits)

pub returns : goal.returns
returns g c known r b hr hb there =
    let sources = c.args.fragments.now in
    let count = length-bytes_of sources in
    let tables = c.fill_columns.new.tables in
    let same : (r b : ℕ) → r < g.row.R
    → dot_byte (row tables g.row.R r) (bytes_of sources) b ≡ block_byte c.args.table.now (bytes_of sources) (c.args.first + r) b =
    λ r b hr.
    dot_same (row tables g.row.R r) (row c.args.table.now (length (bytes_of sources)) (c.args.first + r))
    (bytes_of sources) b
    (λ i hi. c.fill_columns.ensures i r (omega (arith, hi, count)) hr
    ∙ ap (λ w. get_or c.args.table.now (i * w + (c.args.first + r)) 0) (sym count)) in
    c.differences_between.ensures (λ r b hr hb there. known r b hr hb there ∙ sym (same r b hr)) r b hr hb there
    ∙ same r b hr
