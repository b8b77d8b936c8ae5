use Rattle.std.proofs.Common.{length, arith}
use Rattle.std.proofs.lemmas.Nat.{mul-add-lt}
use Rattle.std.proofs.lemmas.List.{get_or_read}
use Rattle.kernels.specs.Dot.{bytes_of}
use Rattle.kernels.proofs.LaneSumLemmas.{no_slice, length-bytes_of, bytes_at}
use Rattle.kernels.proofs.RowSumLemmas.{sums_none, sums_more, sums_next, sums_all}
use Rattle.kernels.proofs.dots.row_lanes.Goals as goal

pub loop-j-init : goal.loop-j-init
loop-j-init g c = sums_none g.row.R c.args.tables.now (bytes_of c.args.sources.now) c.args.start

pub loop-r-init : goal.loop-r-init
loop-r-init g c = c.loop-j.invariant

pub loop-r-preserved : goal.loop-r-preserved
loop-r-preserved g c =
    let r = c.loop-r.r in
    let j = c.loop-j.j in
    let tables = c.args.tables.now in
    let sources = c.args.sources.now in
    let within = mul-add-lt j g.row.R r (length sources) (omega arith) (omega arith) in
    sums_more c.loop-r.sums g.row.R tables (bytes_of sources) c.args.start j r c.times.result c.load-lanes.result _ _
    c.loop-r.invariant (omega arith) c.times.ensures
    (get_or_read tables _ _ (omega (arith, within, c.requires.coefficients)) c.index-tables-j.is 0)
    c.load-lanes.ensures (bytes_at sources j no_slice c.loop-j-test.true)

pub loop-j-preserved : goal.loop-j-preserved
loop-j-preserved g c =
    sums_next c.loop-r.sums g.row.R c.args.tables.now (bytes_of c.args.sources.now) c.args.start c.loop-j.j c.loop-r.r
    c.loop-r.invariant (omega arith)

pub returns : goal.returns
returns g c r hr =
    sums_all c.loop-j.sums g.row.R c.args.tables.now (bytes_of c.args.sources.now) c.args.start c.loop-j.j c.loop-j.invariant
    (omega (arith, length-bytes_of c.args.sources.now)) r hr
