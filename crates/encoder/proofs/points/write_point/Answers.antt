use Rattle.std.proofs.Common.{◌∙◌, arith}
use Rattle.gf256.specs.Field.{field_power}
use Rattle.std.specs.List.{slice_index}
use Rattle.kernels.specs.Dot.{bytes_of}
use Rattle.kernels.proofs.LaneSumLemmas.{dot_same, length-bytes_of}
use Rattle.encoder.proofs.points.write_point.Goals as goal

pub returns : goal.returns
returns c b hb =
    let sources = c.args.sources.now in
    c.dot.ensures b hb
    ∙ dot_same (slice_index c.fill_powers.new.tables) (field_power c.args.point) (bytes_of sources) b
    (λ j hj. c.fill_powers.ensures j (omega (arith, hj, length-bytes_of sources, c.fill_powers.auto.tables)))
