use Rattle.std.proofs.Common.{get_or, ap, ◌∙◌, arith, lit<}
use Rattle.kernels.specs.Dot.{bytes_of, row}
use Rattle.kernels.proofs.LaneSumLemmas.{dot_same}
use Rattle.kernels.proofs.dots.dot.Goals as goal

pub returns : goal.returns
returns c b hb =
    let tables = c.args.tables.now in
    ap (λ n. get_or c.dots_of.new.out n 0) (omega arith)
    ∙ c.dots_of.ensures 0 b (lit< tt) (omega (arith, c.dots_of.auto.out))
    ∙ dot_same (row tables 1 0) (λ j. get_or tables j 0) (bytes_of c.args.sources.now) b (λ j hj. ap (λ n. get_or tables n 0)
    (omega arith))
