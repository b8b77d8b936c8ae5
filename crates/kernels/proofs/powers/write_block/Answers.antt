use Rattle.std.proofs.Common.{◌+◌, arith}
use Rattle.std.proofs.lemmas.Nat.{mul-add-lt}
use Rattle.gf256.specs.Field.{field_power}
use Rattle.kernels.specs.Dot.{bytes_of, dot_byte}
use Rattle.kernels.proofs.LaneSumLemmas.{rows_stored}
use Rattle.kernels.proofs.powers.write_block.Goals as goal

pub returns : goal.returns
returns g c known =
    rows_stored (λ r. dot_byte (field_power (c.args.first + r)) (bytes_of c.args.sources.now)) c.args.out.now
    c.store_rows.new.out c.power_lanes-sums.result g.row.R c.args.size c.args.start c.args.width c.requires.block
    c.power_lanes-sums.ensures
    (λ r i hr hi.
    c.store_rows.ensures.inside r i hr hi
    (omega (arith, mul-add-lt r c.args.size (c.args.start + i) g.row.R hr (omega arith), c.requires.rows)))
    c.store_rows.ensures.before known
