use Rattle.std.proofs.Common.{◌≡◌, ℕ, ◌+◌, length, ap, sym, refl, arith}
use Rattle.std.proofs.lemmas.Nat.{mul-add-lt}
use Rattle.std.proofs.lemmas.List.{get_or_read}
use Rattle.kernels.specs.Dot.{bytes_of, dot_byte, row}
use Rattle.kernels.proofs.LaneSumLemmas.{no_slice, length-bytes_of, bytes_at, rows_stored_within}
use Rattle.kernels.proofs.LevelSumLemmas.{level_first, level_more, level_all}
use Rattle.kernels.proofs.differences.write_two_blocks.Goals as goal

pub loop-j-init : goal.loop-j-init
loop-j-init g c =
    let tables = c.args.tables.now in
    let slices = c.args.sources.now in
    let sources = bytes_of slices in
    let first = bytes_at slices 0 no_slice (omega arith) in
    let near = c.first_sums-left.ensures in
    let far = c.first_sums-right.ensures in
    record {
      left = level_first c.first_sums-left.result g.row.R tables c.args.one sources c.args.start c.load-near_origin.result _
          near.len near.wide near.sums near.bytes c.load-near_origin.ensures first;
      right = level_first c.first_sums-right.result g.row.R tables c.args.one sources (c.args.start + 32)
          c.load-far_origin.result _ far.len far.wide far.sums far.bytes c.load-far_origin.ensures first;
    }

pub load-requires : goal.load-requires
load-requires g c all =
    let sources = c.args.sources.now in
    omega (
      arith,
      c.requires.whole c.loop-j.j (omega (arith, c.loop-j-test.true, length-bytes_of sources)),
      ap length (bytes_at sources c.loop-j.j no_slice c.loop-j-test.true),
    )

pub load-requires-in-loop-j : goal.load-requires-in-loop-j
load-requires-in-loop-j g c all =
    let sources = c.args.sources.now in
    omega (
      arith,
      c.requires.whole c.loop-j.j (omega (arith, c.loop-j-test.true, length-bytes_of sources)),
      ap length (bytes_at sources c.loop-j.j no_slice c.loop-j-test.true),
    )

pub loop-r-preserved : goal.loop-r-preserved
loop-r-preserved g c =
    let r = c.loop-r.r in
    let j = c.loop-j.j in
    let start = c.args.start in
    let tables = c.args.tables.now in
    let slices = c.args.sources.now in
    let within = mul-add-lt j g.row.R r (length slices) (omega arith) (omega arith) in
    let coefficient = get_or_read tables _ _ (omega (arith, within, c.requires.coefficients)) c.index-tables-j.is 0 in
    let at = bytes_at slices j no_slice c.loop-j-test.true in
    let first = bytes_at slices 0 no_slice (omega arith) in
    record {
      left = level_more c.loop-r.left g.row.R tables c.args.one (bytes_of slices) start j r c.times.result
          c.load.result c.load-near_origin.result _ _ _
          c.loop-r.invariant.left (omega arith) c.times.ensures coefficient c.load.ensures at c.load-near_origin.ensures first;
      right = level_more c.loop-r.right g.row.R tables c.args.one (bytes_of slices) (start + 32) j r
          c.times-in-loop-r.result c.load-in-loop-j.result c.load-far_origin.result _ _ _
          c.loop-r.invariant.right (omega arith) c.times-in-loop-r.ensures coefficient c.load-in-loop-j.ensures at
          c.load-far_origin.ensures first;
    }

pub returns : goal.returns
returns g c known r b hr hb there =
    let start = c.args.start in
    let size = c.args.size in
    let tables = c.args.tables.now in
    let sources = bytes_of c.args.sources.now in
    let new = c.store_two_rows.new.out in
    let byte : ℕ → ℕ → ℕ = λ r. dot_byte (row tables g.row.R r) sources in
    let stored = c.store_two_rows.ensures in
    let end : c.loop-j.j ≡ length sources = omega (arith, length-bytes_of c.args.sources.now) in
    let long : length new ≡ length c.args.out.now = omega arith in
    rows_stored_within byte new new c.loop-j.right g.row.R size (start + 32) 32 (omega arith) refl
    (level_all c.loop-j.right g.row.R tables c.args.one sources (start + 32) c.loop-j.j (length c.args.sources.now)
    c.loop-j.invariant.right end c.requires.levels (sym (length-bytes_of c.args.sources.now)))
    (λ r i hr hi _. stored.right r i hr hi) (λ r b hr hb. refl)
    (rows_stored_within byte c.args.out.now new c.loop-j.left g.row.R size start 32 (omega arith) long
    (level_all c.loop-j.left g.row.R tables c.args.one sources start c.loop-j.j (length c.args.sources.now)
    c.loop-j.invariant.left end c.requires.levels (sym (length-bytes_of c.args.sources.now)))
    (λ r i hr hi _. stored.left r i hr hi) stored.before known)
    r b hr (omega (arith, hb)) there
