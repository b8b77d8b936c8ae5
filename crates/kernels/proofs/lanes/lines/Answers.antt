use Rattle.std.proofs.Common.{◌≡◌, ℕ, ◌+◌, ◌-◌, ◌<◌, [], length, get_or, bit_xor, sym, ap, ap₂, ◌∙◌, arith, subst, ⊎_elim}
use Rattle.std.proofs.lemmas.Bool.{cases_lt}
use Rattle.std.proofs.lemmas.List.{get_or-replicate}
use Rattle.gf256.specs.Field.{field_product}
use Rattle.kernels.specs.Dot.{bytes_of}
use Rattle.kernels.specs.Line.{line_at, no_line, value_from}
use Rattle.kernels.proofs.LaneSumLemmas.{no_slice, length-bytes_of, bytes_at}
use Rattle.kernels.proofs.PolynomialValueLemmas.{loaded, value_from-step, value_from-all}
use Rattle.kernels.proofs.lanes.lines.Goals as goal

pub loop-j-init : goal.loop-j-init
loop-j-init g c =
    let slices = c.args.sources.now in
    let from = c.saturating_sub-j.ensures in
    record {
      within = omega (arith, from);
      values = λ p x i hp root hi.
          ap (λ l. line_at l x i) (get_or-replicate g.row.R p c.last_line-lines.result no_line (omega arith))
          ∙ c.last_line-lines.ensures.values x i hi ∙ ap (value_from (bytes_of slices) x (c.args.start + i)) (sym from);
      bytes = λ i hi q low high. c.last_line-lines.ensures.bytes i hi q (omega (arith, from)) high;
    }

pub load-requires : goal.load-requires
load-requires g c all =
    let slices = c.args.sources.now in
    let j = c.loop-j.j - 1 in
    let within : j < length slices = omega (arith, c.loop-j.invariant.within, c.loop-j-test.true) in
    omega (arith, c.requires.whole all j (omega (arith, within, length-bytes_of slices)), ap length (bytes_at slices j no_slice within))

pub loop-j-preserved : goal.loop-j-preserved
loop-j-preserved g c =
    let slices = c.args.sources.now in
    let sources = bytes_of slices in
    let known = c.loop-j.invariant in
    let j = c.loop-j.j - 1 in
    let next : j + 1 ≡ c.loop-j.j = omega (arith, c.loop-j-test.true) in
    let within : j < length slices = omega (arith, known.within, next) in
    let made = c.next_lines-lines.ensures in
    let block : (i : ℕ) → i < 32 → get_or c.load.result i 0 ≡ get_or (get_or sources j []) (c.args.start + i) 0 =
    λ i hi. loaded slices j c.args.start i c.load.result within c.load.ensures hi in
    record {
      within = omega (arith, known.within);
      values = λ p x i hp root hi.
          made.values p x i hp root hi
          ∙ ap₂ (λ f y. bit_xor f (field_product x y)) (block i hi)
          (known.values p x i hp root hi ∙ ap (value_from sources x (c.args.start + i)) (sym next))
          ∙ sym (value_from-step sources x (c.args.start + i) j (omega (arith, within, length-bytes_of slices)));
      bytes = λ i hi q low high.
          ⊎_elim
          (λ here.
          let same : q ≡ j = omega arith in
          subst (λ y. y < 256) (block i hi ∙ ap (λ n. get_or (get_or sources n []) (c.args.start + i) 0) (sym same)) (made.bytes i hi))
          (λ later. known.bytes i hi q later high)
          (cases_lt q c.loop-j.j);
    }

pub returns : goal.returns
returns g c p x i hp root hi =
    let sources = bytes_of c.args.sources.now in
    let end : c.loop-j.j ≡ 0 = omega (arith, c.loop-j-test.false) in
    c.loop-j.invariant.values p x i hp root hi ∙ ap (value_from sources x (c.args.start + i)) end
    ∙ value_from-all sources x (c.args.start + i) root.point
    (λ q low high. c.loop-j.invariant.bytes i hi q (omega (arith, end)) high)
