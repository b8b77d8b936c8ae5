use Rattle.std.proofs.Common.{◌≡◌, ◌+◌, ◌*◌, [], get_or, ap, sym, ◌∙◌, arith, ⊎_elim}
use Rattle.std.proofs.lemmas.Bool.{cases_lt}
use Rattle.kernels.proofs.RowSumLemmas.{rows_apart}
use Rattle.kernels.proofs.dots.store_rows.Goals as goal

pub loop-r-preserved : goal.loop-r-preserved
loop-r-preserved g c =
    let known = c.loop-r.invariant in
    let r = c.loop-r.r in
    let size = c.args.size in
    let start = c.args.start in
    let stored = c.store_within.ensures in
    let new = c.store_within.new.out in
    record {
      inside = λ q i hq hi there.
          ⊎_elim
          (λ low. stored.before (q * size + (start + i)) (omega (arith, rows_apart q r size low, c.requires.within))
          ∙ known.inside q i low hi there)
          (λ high.
          let e : q ≡ r = omega arith in
          ap (λ n. get_or new (n * size + (start + i)) 0) e
          ∙ ap (λ n. get_or new n 0) (omega arith)
          ∙ stored.inside i hi (omega (arith, ap (λ n. n * size) e))
          ∙ ap (λ n. get_or (get_or c.args.sums n []) i 0) (sym e))
          (cases_lt q r);
      before = λ q b hb.
          ⊎_elim
          (λ low. stored.before (q * size + b) (omega (arith, rows_apart q r size low, c.requires.within)))
          (λ high.
          ⊎_elim
          (λ less. stored.after (q * size + b) (omega (arith, rows_apart r q size less, c.requires.within)))
          (λ same. let e : q ≡ r = omega arith in stored.before (q * size + b) (omega (arith, ap (λ n. n * size) e)))
          (cases_lt r q))
          (cases_lt q r)
          ∙ known.before q b hb;
    }

pub returns-clause-inside : goal.returns-clause-inside
returns-clause-inside g c r i hr hi there = c.loop-r.invariant.inside r i (omega arith) hi there

pub returns-clause-before : goal.returns-clause-before
returns-clause-before g c r b hr hb = c.loop-r.invariant.before r b hb
