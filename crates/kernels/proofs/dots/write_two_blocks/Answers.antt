use Rattle.std.proofs.Common.{◌≡◌, ℕ, ◌+◌, length, ap, refl, arith}
use Rattle.std.proofs.lemmas.Nat.{mul-add-lt}
use Rattle.std.proofs.lemmas.List.{get_or_read}
use Rattle.kernels.specs.Dot.{bytes_of, dot_byte, row}
use Rattle.kernels.proofs.LaneSumLemmas.{no_slice, length-bytes_of, bytes_at, rows_stored}
use Rattle.kernels.proofs.RowSumLemmas.{sums_none, sums_more, sums_next, sums_all}
use Rattle.kernels.proofs.dots.write_two_blocks.Goals as goal

pub loop-j-init : goal.loop-j-init
loop-j-init g c =
    let tables = c.args.tables.now in
    let sources = bytes_of c.args.sources.now in
    record {
      left = sums_none g.row.R tables sources c.args.start;
      right = sums_none g.row.R tables sources (c.args.start + 32);
    }

pub load-near-requires : goal.load-near-requires
load-near-requires g c all =
    let sources = c.args.sources.now in
    omega (
      arith,
      c.requires.whole c.loop-j.j (omega (arith, c.loop-j-test.true, length-bytes_of sources)),
      ap length (bytes_at sources c.loop-j.j no_slice c.loop-j-test.true),
    )

pub load-far-requires : goal.load-far-requires
load-far-requires g c all =
    let sources = c.args.sources.now in
    omega (
      arith,
      c.requires.whole c.loop-j.j (omega (arith, c.loop-j-test.true, length-bytes_of sources)),
      ap length (bytes_at sources c.loop-j.j no_slice c.loop-j-test.true),
    )

pub loop-r-preserved : goal.loop-r-preserved
loop-r-preserved g c =
    let r = c.loop-r.r in
    let j = c.loop-j.j in
    let start = c.args.start in
    let tables = c.args.tables.now in
    let sources = c.args.sources.now in
    let within = mul-add-lt j g.row.R r (length sources) (omega arith) (omega arith) in
    let coefficient = get_or_read tables _ _ (omega (arith, within, c.requires.coefficients)) c.index-tables-j.is 0 in
    let at = bytes_at sources j no_slice c.loop-j-test.true in
    record {
      left = sums_more c.loop-r.left g.row.R tables (bytes_of sources) start j r c.times.result c.load-near.result _ _
          c.loop-r.invariant.left (omega arith) c.times.ensures coefficient c.load-near.ensures at;
      right = sums_more c.loop-r.right g.row.R tables (bytes_of sources) (start + 32) j r c.times-in-loop-r.result
          c.load-far.result _ _ c.loop-r.invariant.right (omega arith) c.times-in-loop-r.ensures coefficient
          c.load-far.ensures at;
    }

pub loop-j-preserved : goal.loop-j-preserved
loop-j-preserved g c =
    let tables = c.args.tables.now in
    let sources = bytes_of c.args.sources.now in
    record {
      left = sums_next c.loop-r.left g.row.R tables sources c.args.start c.loop-j.j c.loop-r.r c.loop-r.invariant.left
          (omega arith);
      right = sums_next c.loop-r.right g.row.R tables sources (c.args.start + 32) c.loop-j.j c.loop-r.r
          c.loop-r.invariant.right (omega arith);
    }

pub returns : goal.returns
returns g c known r b hr hb =
    let start = c.args.start in
    let size = c.args.size in
    let tables = c.args.tables.now in
    let sources = bytes_of c.args.sources.now in
    let new = c.store_two_rows.new.out in
    let byte : ℕ → ℕ → ℕ = λ r. dot_byte (row tables g.row.R r) sources in
    let stored = c.store_two_rows.ensures in
    let end : c.loop-j.j ≡ length sources = omega (arith, length-bytes_of c.args.sources.now) in
    rows_stored byte new new c.loop-j.right g.row.R size (start + 32) 32 (omega arith)
    (sums_all c.loop-j.right g.row.R tables sources (start + 32) c.loop-j.j c.loop-j.invariant.right end)
    stored.right (λ r b hr hb. refl)
    (rows_stored byte c.args.out.now new c.loop-j.left g.row.R size start 32 (omega arith)
    (sums_all c.loop-j.left g.row.R tables sources start c.loop-j.j c.loop-j.invariant.left end) stored.left stored.before known)
    r b hr (omega (arith, hb))
