use Rattle.kernels.proofs.HalfProductTableLemmas.{products_summed}
use Rattle.kernels.proofs.products.products.Goals as goal

pub returns : goal.returns
returns c = products_summed c.args.c c.load-low.result c.load-high.result c.ranges.c.fits c.load-low.ensures c.load-high.ensures
