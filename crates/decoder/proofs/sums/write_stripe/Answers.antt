use Rattle.std.proofs.Common.{◌+◌, ◌≤◌, length, arith, rules}
use Rattle.kernels.specs.Dot.{bytes_of}
use Rattle.decoder.proofs.RowTableLemmas.{AreBlocksUntil-more, AreBlocksLeft-less, rows_left}
use Rattle.decoder.proofs.sums.write_stripe.Goals as goal

pub loop-done-preserved : goal.loop-done-preserved
loop-done-preserved c =
    let known = c.loop-done.invariant in
    let made = c.write_rows.ensures in
    let done = c.loop-done.done in
    let rows = c.min-rows.result in
    let k = length c.args.fragments.now in
    let size = c.args.size in
    let table = c.args.table.now in
    let fragments = bytes_of c.args.fragments.now in
    let within : done + rows ≤ k = omega arith in
    record {
      within = within;
      blocks = λ all.
          AreBlocksUntil-more c.loop-done.out c.write_rows.new.out done rows size c.args.until table fragments c.requires.part
          (omega arith)
          (made.inside (rows_left c.loop-done.out done rows k size c.args.from table fragments within (known.left all)))
          made.before (known.blocks all);
      left = λ all.
          AreBlocksLeft-less c.loop-done.out c.write_rows.new.out done rows k size c.args.from table fragments (omega arith)
          made.after (known.left all);
    }

pub overflow_add-done : goal.overflow_add-done
overflow_add-done c = search rules
