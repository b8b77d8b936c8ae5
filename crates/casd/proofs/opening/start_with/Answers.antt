use Rattle.std.proofs.Common.{arith, refl}
use Rattle.std.proofs.lemmas.Result.{err_from_is_err_and}
use Rattle.node_effects.specs.declared.error.NodeError.TheVariants.{NoMoreIds}
use Rattle.casd.specs.declared.fault.Fault.TheVariants.{Stopped}
use Rattle.casd.proofs.FailedStartLemmas.{begun_fails, begun_starts, told, unasked, uncut, unexchanged, unread, unrecovered}
use Rattle.casd.proofs.LogFaultLemmas.{read_other, told_going, told_same, told_since, told_then}
use Rattle.casd.proofs.opening.start_with.Goals as goal

pub returns-in_err-refuse_old_form-clause-fails : goal.returns-in_err-refuse_old_form-clause-fails
returns-in_err-refuse_old_form-clause-fails g c =
    let p = err_from_is_err_and c.from_residual.result c.from_residual.ensures.1 in
    rw (p.1, p.2) (λ names number is_new.
    unread (Unit {0}) names number _ _ c.in_err-refuse_old_form.field-0.0 c.in_err-refuse_old_form.ensures.form)

pub returns-in_err-end-clause-fails : goal.returns-in_err-end-clause-fails
returns-in_err-end-clause-fails g c =
    let p = err_from_is_err_and c.from_residual-in_err-end.result c.from_residual-in_err-end.ensures.1 in
    rw (p.1, p.2) (λ names number is_new.
    unrecovered names number _ _ c.args.node.now c.recover.new.node c.in_err-end.field-0.0 is_new
    c.in_ok-refuse_old_form.ensures.form c.in_err-end.ensures.recovered)

pub returns-in_err-cut_behind-clause-fails : goal.returns-in_err-cut_behind-clause-fails
returns-in_err-cut_behind-clause-fails g c =
    let p = err_from_is_err_and c.from_residual-in_err-cut_behind.result c.from_residual-in_err-cut_behind.ensures.1 in
    rw (p.1, p.2) (λ names number is_new.
    told names number _ _ _ c.in_err-cut_behind.field-0.0 c.in_ok-refuse_old_form.ensures.form c.in_err-cut_behind.ensures.kind
    (uncut (Unit {0}) names number _ _ _ c.args.node.now c.recover.new.node c.in_ok-end.end c.in_err-cut_behind.field-0.0 is_new
    c.in_ok-end.ensures.recovered c.in_err-cut_behind.ensures.cut))

pub returns-then-not-has_more_epochs-clause-fails : goal.returns-then-not-has_more_epochs-clause-fails
returns-then-not-has_more_epochs-clause-fails g c = λ names number is_new.
    told names number _ _ _ (Stopped NoMoreIds) c.in_ok-refuse_old_form.ensures.form (λ refused. refused)
    (unasked names number _ _ _ c.args.node.now c.recover.new.node c.in_ok-end.end is_new c.in_ok-end.ensures.recovered
    c.in_ok-cut_behind.ensures.cut
    (λ more.
    let has = c.has_more_epochs.ensures.1 more in
    let lacks = c.if-not-has_more_epochs.true in absurd (cc)))

pub returns-in_err-end-2-clause-fails : goal.returns-in_err-end-2-clause-fails
returns-in_err-end-2-clause-fails g c =
    let p = err_from_is_err_and c.from_residual-in_err-end-2.result c.from_residual-in_err-end-2.ensures.1 in
    rw (p.1, p.2) (λ names number is_new.
    told names number _ _ _ c.in_err-end-2.field-0.0 c.in_ok-refuse_old_form.ensures.form c.in_err-end-2.ensures.kind
    (unexchanged names number _ _ _ _ c.args.node.now c.recover.new.node c.in_ok-end.end c.in_err-end-2.field-0.0 is_new
    c.in_ok-end.ensures.recovered c.in_ok-cut_behind.ensures.cut
    (c.has_more_epochs.ensures.0 c.if-not-has_more_epochs.false) c.in_err-end-2.ensures.rewritten))

pub returns-clause-starts : goal.returns-clause-starts
returns-clause-starts g c = λ names number is_new.
    begun_starts names number c.begin.result _ _ _ _ c.args.node.now c.recover.new.node c.begin.new.node c.in_ok-end.end
    c.in_ok-end-2.end c.in_ok-refuse_old_form.ensures.form is_new c.in_ok-end.ensures.recovered
    c.in_ok-cut_behind.ensures.cut c.in_ok-end-2.ensures.rewritten c.begin.ensures.begun

pub returns-clause-fails : goal.returns-clause-fails
returns-clause-fails g c = λ names number is_new.
    begun_fails names number c.begin.result _ _ _ _ _ c.args.node.now c.recover.new.node c.begin.new.node c.in_ok-end.end
    c.in_ok-end-2.end c.in_ok-refuse_old_form.ensures.form c.begin.ensures.kind is_new c.in_ok-end.ensures.recovered
    c.in_ok-cut_behind.ensures.cut (c.has_more_epochs.ensures.0 c.if-not-has_more_epochs.false)
    c.in_ok-end-2.ensures.rewritten c.begin.ensures.begun

pub returns-in_err-refuse_old_form-clause-failure : goal.returns-in_err-refuse_old_form-clause-failure
returns-in_err-refuse_old_form-clause-failure g c =
    let p = err_from_is_err_and c.from_residual.result c.from_residual.ensures.1 in
    rw (p.1, p.2)
    (told_same _ _ _ refl (read_other c.in_err-refuse_old_form.field-0.0 c.in_err-refuse_old_form.ensures.reads))

pub returns-in_err-end-clause-failure : goal.returns-in_err-end-clause-failure
returns-in_err-end-clause-failure g c =
    let p = err_from_is_err_and c.from_residual-in_err-end.result c.from_residual-in_err-end.ensures.1 in
    rw (p.1, p.2) (told_same _ _ _ refl (read_other c.in_err-end.field-0.0 c.in_err-end.ensures.reads))

pub returns-in_err-cut_behind-clause-failure : goal.returns-in_err-cut_behind-clause-failure
returns-in_err-cut_behind-clause-failure g c =
    let p = err_from_is_err_and c.from_residual-in_err-cut_behind.result c.from_residual-in_err-cut_behind.ensures.1 in
    rw (p.1, p.2) c.in_err-cut_behind.ensures.failure

pub returns-then-not-has_more_epochs-clause-failure : goal.returns-then-not-has_more_epochs-clause-failure
returns-then-not-has_more_epochs-clause-failure g c =
    told_since _ _ _ (told_going _ _ c.in_ok-cut_behind.ensures.failure) (λ three. omega (arith, three))

pub returns-in_err-end-2-clause-failure : goal.returns-in_err-end-2-clause-failure
returns-in_err-end-2-clause-failure g c =
    let p = err_from_is_err_and c.from_residual-in_err-end-2.result c.from_residual-in_err-end-2.ensures.1 in
    rw (p.1, p.2)
    (told_then _ _ _ _ (told_going _ _ c.in_ok-cut_behind.ensures.failure) c.in_err-end-2.ensures.failure)

pub returns-clause-failure : goal.returns-clause-failure
returns-clause-failure g c =
    told_then _ _ _ _ (told_going _ _ c.in_ok-cut_behind.ensures.failure)
    (told_then _ _ _ _ (told_going _ _ c.in_ok-end-2.ensures.failure) c.begin.ensures.failure)
