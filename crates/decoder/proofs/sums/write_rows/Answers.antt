use Rattle.std.proofs.Common.{◌+◌, ◌*◌, ◌-◌, arith}
use Rattle.kernels.specs.Dot.{bytes_of}
use Rattle.decoder.specs.Rows.{block_byte}
use Rattle.decoder.proofs.RowTableLemmas.{part_made}
use Rattle.decoder.proofs.sums.write_rows.Goals as goal

pub returns-clause-inside : goal.returns-clause-inside
returns-clause-inside c =
    let start = c.args.first * c.args.size in
    part_made start (start + c.min.result - start) c.args.size c.args.out.now c.write_some.new.out c.args.rows c.args.from
    c.args.until (λ r. block_byte c.args.table.now (bytes_of c.args.fragments.now) (c.args.first + r)) c.requires.part
    (omega arith) (omega arith) (λ i low there. omega arith) c.write_some.ensures
