use Rattle.std.proofs.Common.{◌≡◌, ℕ, ◌+◌, ◌-◌, ◌<◌, [], length, get_or, bit_xor, sym, ap, ap₂, ◌∙◌, arith, subst, ⊎_elim}
use Rattle.std.proofs.lemmas.Bool.{cases_lt}
use Rattle.gf256.specs.Field.{field_product}
use Rattle.kernels.specs.Dot.{bytes_of}
use Rattle.kernels.proofs.LaneSumLemmas.{no_slice, length-bytes_of, bytes_at, get_or-zeros}
use Rattle.kernels.specs.Line.{line_at, value_from}
use Rattle.kernels.proofs.PolynomialValueLemmas.{last_one, last_two, loaded}
use Rattle.kernels.proofs.lanes.last_line.Goals as goal

pub load-level-requires : goal.load-level-requires
load-level-requires c all =
    let slices = c.args.sources.now in
    let j = c.saturating_sub.result in
    let within : j < length slices = omega (arith, c.saturating_sub.ensures) in
    omega (arith, c.requires.whole all j within, ap length (bytes_at slices j no_slice within))

pub load-requires : goal.load-requires
load-requires c all =
    let slices = c.args.sources.now in
    let j = length slices - 1 in
    let within : j < length slices = omega (arith, c.requires.some) in
    omega (arith, c.requires.whole all j within, ap length (bytes_at slices j no_slice within))

pub returns-then-count-lt2-clause-values : goal.returns-then-count-lt2-clause-values
returns-then-count-lt2-clause-values c x i hi =
    let slices = c.args.sources.now in
    let j = c.saturating_sub.result in
    let one : j + 1 ≡ length (bytes_of slices) =
    omega (arith, c.saturating_sub.ensures, length-bytes_of slices, c.requires.some, c.if-count-lt2.true) in
    let within : j < length slices = omega (arith, one, length-bytes_of slices) in
    ap (λ l. line_at l x i) c.line_of.ensures.is
    ∙ ap₂ (λ y z. bit_xor (field_product x y) z) (get_or-zeros 32 i)
    (loaded slices j c.args.start i c.load-level.result within c.load-level.ensures hi)
    ∙ last_one (bytes_of slices) x (c.args.start + i) j one
    ∙ ap (value_from (bytes_of slices) x (c.args.start + i)) c.saturating_sub.ensures

pub returns-else-count-lt2-clause-values : goal.returns-else-count-lt2-clause-values
returns-else-count-lt2-clause-values c x i hi =
    let slices = c.args.sources.now in
    let b = c.args.start + i in
    let j = c.saturating_sub.result in
    let two : j + 2 ≡ length (bytes_of slices) =
    omega (arith, c.saturating_sub.ensures, length-bytes_of slices, c.if-count-lt2.false) in
    let top : length slices - 1 ≡ j + 1 = omega (arith, c.saturating_sub.ensures, c.if-count-lt2.false) in
    let within : j < length slices = omega (arith, two, length-bytes_of slices) in
    let last : length slices - 1 < length slices = omega (arith, c.if-count-lt2.false) in
    ap (λ l. line_at l x i) c.line_of-else-count-lt2.ensures.is ∙ ap₂ (λ y z. bit_xor (field_product x y) z)
    (loaded slices (length slices - 1) c.args.start i c.load.result last c.load.ensures hi
    ∙ ap (λ n. get_or (get_or (bytes_of slices) n []) b 0) top)
    (loaded slices j c.args.start i c.load-level.result within c.load-level.ensures hi)
    ∙ last_two (bytes_of slices) x b j two
    ∙ ap (value_from (bytes_of slices) x b) c.saturating_sub.ensures

pub returns-then-count-lt2-clause-bytes : goal.returns-then-count-lt2-clause-bytes
returns-then-count-lt2-clause-bytes c i hi q low high =
    let slices = c.args.sources.now in
    let j = c.saturating_sub.result in
    let same : q ≡ j = omega (arith, c.saturating_sub.ensures, length-bytes_of slices, c.if-count-lt2.true) in
    let within : j < length slices = omega (arith, c.saturating_sub.ensures, c.requires.some) in
    subst (λ y. y < 256) (loaded slices j c.args.start i c.load-level.result within c.load-level.ensures hi
    ∙ ap (λ n. get_or (get_or (bytes_of slices) n []) (c.args.start + i) 0) (sym same)) (c.line_of.ensures.levels i hi)

pub returns-else-count-lt2-clause-bytes : goal.returns-else-count-lt2-clause-bytes
returns-else-count-lt2-clause-bytes c i hi q low high =
    let slices = c.args.sources.now in
    let b = c.args.start + i in
    let j = c.saturating_sub.result in
    let top = length slices - 1 in
    let within : j < length slices = omega (arith, c.saturating_sub.ensures, c.requires.some) in
    let last : top < length slices = omega (arith, c.if-count-lt2.false) in
    let Is : ℕ → Type 0 = λ y. y < 256 in
    ⊎_elim
    (λ first.
    let same : q ≡ j = omega (arith, c.saturating_sub.ensures) in
    subst Is (loaded slices j c.args.start i c.load-level.result within c.load-level.ensures hi
    ∙ ap (λ n. get_or (get_or (bytes_of slices) n []) b 0) (sym same)) (c.line_of-else-count-lt2.ensures.levels i hi))
    (λ second.
    let same : q ≡ top = omega (arith, length-bytes_of slices) in
    subst Is (loaded slices top c.args.start i c.load.result last c.load.ensures hi
    ∙ ap (λ n. get_or (get_or (bytes_of slices) n []) b 0) (sym same)) (c.line_of-else-count-lt2.ensures.slopes i hi))
    (cases_lt q (length slices - 1))
