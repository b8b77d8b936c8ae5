use Rattle.std.proofs.Common.{◌≡◌, length, ap, arith, ⊎_elim}
use Rattle.std.proofs.lemmas.Bool.{cases_lt}
use Rattle.kernels.proofs.LaneSumLemmas.{no_slice, bytes_at}
use Rattle.kernels.proofs.dots.shortest.Goals as goal

pub loop-j-preserved : goal.loop-j-preserved
loop-j-preserved c =
    let known = c.loop-j.invariant in
    let at = bytes_at c.args.sources.now c.loop-j.j no_slice c.loop-j-test.true in
    record {
      most = omega (arith, known.most, c.min-shortest.ensures);
      each = λ i hi.
          ⊎_elim (λ low. omega (arith, known.each i low, c.min-shortest.ensures))
          (λ high.
          let e : i ≡ c.loop-j.j = omega arith in
          rw e (omega (arith, ap length at, c.min-shortest.ensures)))
          (cases_lt i c.loop-j.j);
    }
