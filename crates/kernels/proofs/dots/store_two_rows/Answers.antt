use Rattle.std.proofs.Common.{◌≡◌, ◌+◌, ◌*◌, [], get_or, ap, sym, ◌∙◌, arith, ⊎_elim}
use Rattle.std.proofs.lemmas.Bool.{cases_lt}
use Rattle.kernels.proofs.RowSumLemmas.{rows_apart}
use Rattle.kernels.proofs.dots.store_two_rows.Goals as goal

pub loop-r-preserved : goal.loop-r-preserved
loop-r-preserved g c =
    let known = c.loop-r.invariant in
    let r = c.loop-r.r in
    let size = c.args.size in
    let start = c.args.start in
    let stored = c.store_two.ensures in
    let new = c.store_two.new.out in
    record {
      left = λ q i hq hi.
          ⊎_elim
          (λ low. stored.before (q * size + (start + i)) (omega (arith, rows_apart q r size low, c.requires.within))
          ∙ known.left q i low hi)
          (λ high.
          let e : q ≡ r = omega arith in
          ap (λ n. get_or new (n * size + (start + i)) 0) e
          ∙ ap (λ n. get_or new n 0) (omega arith)
          ∙ stored.left i hi
          ∙ ap (λ n. get_or (get_or c.args.left n []) i 0) (sym e))
          (cases_lt q r);
      right = λ q i hq hi.
          ⊎_elim
          (λ low. stored.before (q * size + (start + 32 + i)) (omega (arith, rows_apart q r size low, c.requires.within))
          ∙ known.right q i low hi)
          (λ high.
          let e : q ≡ r = omega arith in
          ap (λ n. get_or new (n * size + (start + 32 + i)) 0) e
          ∙ ap (λ n. get_or new n 0) (omega arith)
          ∙ stored.right i hi
          ∙ ap (λ n. get_or (get_or c.args.right n []) i 0) (sym e))
          (cases_lt q r);
      before = λ q b hb.
          ⊎_elim
          (λ low. stored.before (q * size + b) (omega (arith, rows_apart q r size low, c.requires.within)))
          (λ high.
          ⊎_elim
          (λ less. stored.after (q * size + b) (omega (arith, rows_apart r q size less, c.requires.within)))
          (λ same. let e : q ≡ r = omega arith in stored.before (q * size + b) (omega (arith, ap (λ n. n * size) e)))
          (cases_lt r q))
          (cases_lt q r)
          ∙ known.before q b hb;
    }

pub returns-clause-left : goal.returns-clause-left
returns-clause-left g c r i hr hi = c.loop-r.invariant.left r i (omega arith) hi

pub returns-clause-right : goal.returns-clause-right
returns-clause-right g c r i hr hi = c.loop-r.invariant.right r i (omega arith) hi

pub returns-clause-before : goal.returns-clause-before
returns-clause-before g c r b hr hb = c.loop-r.invariant.before r b hb
