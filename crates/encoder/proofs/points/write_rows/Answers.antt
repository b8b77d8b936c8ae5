use Rattle.std.proofs.Common.{◌+◌, ◌*◌, ◌-◌, arith}
use Rattle.gf256.specs.Field.{field_power}
use Rattle.kernels.specs.Dot.{bytes_of, dot_byte}
use Rattle.encoder.proofs.RowPlaceLemmas.{part_made}
use Rattle.encoder.proofs.points.write_rows.Goals as goal

pub returns-clause-inside : goal.returns-clause-inside
returns-clause-inside c =
    let start = c.args.done * c.args.size in
    part_made start (start + c.args.rows * c.args.size - start) c.args.size c.args.out.now c.write_some.new.out c.args.rows
    c.args.from c.args.until (λ r. dot_byte (field_power (c.args.first + c.args.done + r)) (bytes_of c.args.sources.now))
    c.requires.part.0 c.requires.part.1 (omega arith) (omega arith) (omega arith) c.write_some.ensures
