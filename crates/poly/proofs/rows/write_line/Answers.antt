use Rattle.std.proofs.Common.{◌+◌, ◌*◌, ◌<◌, ◌≤◌, ◌-◌, length, arith}
use Rattle.poly.proofs.RowTableLemmas.{get_or-middle, lines_apart}
use Rattle.poly.proofs.rows.write_line.Goals as goal

pub returns-clause-row : goal.returns-clause-row
returns-clause-row c =
    let i = c.args.i in
    let k = length c.args.points.now in
    record {
      basis = c.write_row.new.row;
      is_row = c.write_row.ensures;
      same = λ j hj.
          let within : i * k ≤ length c.args.table.now = omega (arith, lines_apart i k k c.requires.line, c.requires.room) in
          let inside : j < length c.write_row.new.row = omega (arith, hj, c.write_row.ensures.len) in
          get_or-middle (i * k) (i * k + k - i * k) c.args.table.now c.write_row.new.row j within inside;
    }
