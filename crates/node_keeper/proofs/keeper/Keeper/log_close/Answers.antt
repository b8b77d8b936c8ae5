use Rattle.std.proofs.Common.{Bool, cond, [], ◌∷◌, OnOk, sym, subst, ap, ◌∙◌}
use Rattle.recoveries.specs.Records.{LogRecord}
use Rattle.node_effects.specs.Work.{Growth, IsGrown}
use Rattle.node_keeper.specs.Acts.{logged_growth}
use Rattle.node_keeper.proofs.keeper.Keeper.log_close.Goals as goal

pub returns-clause-logged : goal.returns-clause-logged
returns-clause-logged c =
    let digest = c.args.self.now.digest in
    let one = LogRecord.Closes c.args.name.now c.args.position in
    subst (λ (g : Growth). OnOk c.log_closing.result (IsGrown c.args.work.now c.log_closing.new.work g))
    (ap (λ (b : Bool). logged_growth digest (cond b (one ∷ []) [])) (sym (sym c.can_close.ensures ∙ c.if-not-can_close.false)))
    c.log_closing.ensures.logged
