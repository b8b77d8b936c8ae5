use Rattle.std.proofs.Common.{◌&&◌, not, ap, sym}
use Rattle.bank.proofs.ForgottenTagLemmas.{forgotten_by}
use Rattle.bank.proofs.bank.Bank.is_forgotten.Goals as goal

pub returns-then-not-is : goal.returns-then-not-is
returns-then-not-is c =
    let o = c.self.inside in
    forgotten_by o.rows.entries o.pointer o.window o.retired c.self.invariant c.args.tag c.is.result c.is_excluded.result
    c.is_excluded.result c.is.ensures.value c.is_excluded.ensures
    (sym (ap (λ b. not b && c.is_excluded.result) c.if-not-is.true)) c.args.self.now c.self.view_is
