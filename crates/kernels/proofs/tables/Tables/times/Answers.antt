use Rattle.std.proofs.Common.{ap, ◌∙◌}
use Rattle.gf256.specs.Polynomial.{scaled}
use Rattle.kernels.proofs.tables.Tables.times.Goals as goal

pub returns : goal.returns
returns c = c.looked_up.ensures ∙ ap (λ a. scaled a c.args.lanes) c.self.view_is
