use Rattle.std.proofs.Common.{Bool, cond, [], ◌∷◌, OnOk, sym, subst, ap, ◌∙◌}
use Rattle.recoveries.specs.Records.{LogRecord}
use Rattle.node_effects.specs.Work.{Growth, IsGrown, one_entry}
use Rattle.node_keeper.specs.Acts.{logged_growth}
use Rattle.node_keeper.specs.Logging.{log_entry_of}
use Rattle.node_keeper.proofs.keeper.Keeper.log_take.Goals as goal

pub returns-clause-logged : goal.returns-clause-logged
returns-clause-logged c =
    let digest = c.args.self.now.digest in
    let serves = LogRecord.Serves c.args.it.name c.args.it.letter in
    let takes = LogRecord.Takes c.args.it.name c.args.it.letter in
    subst (λ (g : Growth). OnOk c.log_arrival.result (IsGrown c.args.work.now c.log_arrival.new.work g))
    (ap (λ (b : Bool). one_entry (log_entry_of digest (cond b serves takes))) c.requires.answers
    ∙ ap (λ (b : Bool). logged_growth digest (cond b (takes ∷ []) [])) (sym (sym c.is_open_move.ensures ∙ c.if-not-is_open_move.false)))
    c.log_arrival.ensures.logged
