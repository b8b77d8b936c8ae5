use Rattle.std.proofs.Common.{◌≤◌, ◌+◌, mul-le-mul_right, arith}
use Rattle.kernels.specs.Dot.{bytes_of}
use Rattle.encoder.proofs.PointSumLemmas.{ArePowers-more, ArePowersLeft-less, rows_left}
use Rattle.encoder.proofs.points.write_stripe.Goals as goal

pub loop-done-preserved : goal.loop-done-preserved
loop-done-preserved c =
    let known = c.loop-done.invariant in
    let made = c.write_rows.ensures in
    let old = c.loop-done.out in
    let new = c.write_rows.new.out in
    let done = c.loop-done.done in
    let rows = c.min-rows.result in
    let sources = bytes_of c.args.sources.now in
    let size = c.args.size in
    let first = c.args.first in
    let within : done + rows ≤ c.args.n = omega arith in
    record {
      within = within;
      rows = λ all.
          ArePowers-more old new done rows sources size c.args.until first c.requires.part.1
          (made.inside (rows_left old done rows c.args.n sources size c.args.from first within (known.left all)))
          made.before (known.rows all);
      left = λ all. ArePowersLeft-less old new done rows c.args.n sources size c.args.from first made.after (known.left all);
    }

pub write_rows-requires-clause-room : goal.write_rows-requires-clause-room
write_rows-requires-clause-room c =
    let within : c.loop-done.done + c.min-rows.result ≤ c.args.n = omega arith in
    omega (arith, mul-le-mul_right c.args.size within, c.requires.room)
