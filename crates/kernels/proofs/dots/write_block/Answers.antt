use Rattle.std.proofs.Common.{arith}
use Rattle.kernels.specs.Dot.{bytes_of, dot_byte, row}
use Rattle.kernels.proofs.LaneSumLemmas.{rows_stored_within}
use Rattle.kernels.proofs.dots.write_block.Goals as goal

pub returns : goal.returns
returns g c known =
    rows_stored_within (λ r. dot_byte (row c.args.tables.now g.row.R r)
    (bytes_of c.args.sources.now)) c.args.out.now c.store_rows.new.out c.row_lanes-sums.result
    g.row.R c.args.size c.args.start c.args.width c.requires.block (omega arith) c.row_lanes-sums.ensures c.store_rows.ensures.inside
    c.store_rows.ensures.before known
