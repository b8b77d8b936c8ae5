use Rattle.std.proofs.Common.{◌≡◌, ◌+◌, ◌*◌, ◌/◌, ◌%◌, ◌<◌, [], get_or, sym, ap, ◌∙◌, arith}
use Rattle.gf256.specs.Field.{field_power, field_product}
use Rattle.gf256.proofs.FieldLemmas.{product-zero_left}
use Rattle.kernels.specs.Dot.{bytes_of, dot_byte}
use Rattle.kernels.proofs.LaneSumLemmas.{same_as_lanes_from}
use Rattle.kernels.specs.Line.{IsPair}
use Rattle.kernels.proofs.LineLemmas.{IsRoot-pair}
use Rattle.kernels.proofs.lanes.power_lanes.Goals as goal

pub lines-lines-requires : goal.lines-lines-requires
lines-lines-requires g c =
    let few = c.requires.few in (
      omega arith,
      (
        omega arith,
        (
          few,
          (
            c.requires.some,
            (
              c.requires.whole,
              λ all some.
                  let none : c.args.first + 0 * 2 ≡ 0 = omega (arith, c.requires.zero all) in
                  c.requires.pairs.steps_are 0 some ∙ ap (λ u. field_product u (u + 1)) none ∙ product-zero_left (0 + 1),
            ),
          ),
        ),
      ),
    )

pub returns : goal.returns
returns g c r hr =
    let sources = bytes_of c.args.sources.now in
    let start = c.args.start in
    let first = c.args.first in
    let pairs = c.requires.pairs in
    let even = pairs.even in
    let within = pairs.within in
    let p = r / 2 in
    let low : p * 2 < g.row.R = omega arith in
    let u = get_or c.args.points.now p 0 in
    let is : u ≡ first + p * 2 = pairs.points_are p low in
    let fits : u < 256 = omega arith in
    let even_u : u % 2 ≡ 0 = omega arith in
    let point : u + r % 2 ≡ first + r = omega arith in
    let pair : IsPair u (get_or c.args.steps.now p 0) =
    record {
      fits = fits;
      even = even_u;
      product = pairs.steps_are p low ∙ ap (λ n. field_product n (n + 1)) (sym is);
    } in
    same_as_lanes_from (dot_byte (field_power (first + r)) sources) start (get_or c.values.result r []) (c.values.ensures.wide r hr)
    (λ i hi.
    c.values.ensures.values r i hr fits even_u hi
    ∙ c.lines-lines.ensures p (u + r % 2) i low (IsRoot-pair u (get_or c.args.steps.now p 0) r pair) hi
    ∙ ap (λ x. dot_byte (field_power x) sources (start + i)) point)
