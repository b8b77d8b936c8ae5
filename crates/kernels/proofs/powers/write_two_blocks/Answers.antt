use Rattle.std.proofs.Common.{ℕ, ◌+◌, refl, arith}
use Rattle.gf256.specs.Field.{field_power}
use Rattle.kernels.specs.Dot.{bytes_of, dot_byte}
use Rattle.kernels.proofs.LaneSumLemmas.{rows_stored}
use Rattle.kernels.proofs.powers.write_two_blocks.Goals as goal

pub returns : goal.returns
returns g c known r b hr hb =
    let start = c.args.start in
    let size = c.args.size in
    let new = c.store_two_rows.new.out in
    let byte : ℕ → ℕ → ℕ = λ r. dot_byte (field_power (c.args.first + r)) (bytes_of c.args.sources.now) in
    let stored = c.store_two_rows.ensures in
    rows_stored byte new new c.power_lanes-right.result g.row.R size (start + 32) 32 (omega arith)
    c.power_lanes-right.ensures stored.right (λ r b hr hb. refl)
    (rows_stored byte c.args.out.now new c.power_lanes-left.result g.row.R size start 32 (omega arith)
    c.power_lanes-left.ensures stored.left stored.before known)
    r b hr (omega (arith, hb))
