use Rattle.poly.proofs.RowTableLemmas.{HasRow-more}
use Rattle.poly.proofs.rows.fill_rows.Goals as goal

pub loop-i-preserved : goal.loop-i-preserved
loop-i-preserved c =
    HasRow-more c.loop-i.table c.write_line.new.table c.args.points.now c.loop-i.i c.write_line.ensures.row
    c.write_line.ensures.before c.loop-i.invariant
