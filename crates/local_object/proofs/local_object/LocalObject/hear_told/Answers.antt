use Rattle.std.proofs.Common.{◌≡◌, cond, not, OnOk, ap, sym, subst, ◌∙◌}
use Rattle.local_object.specs.Outcomes.{learnt_from}
use Rattle.local_object.proofs.local_object.LocalObject.hear_told.Goals as goal

pub returns-then-is_none-clause-heard : goal.returns-then-is_none-clause-heard
returns-then-is_none-clause-heard c =
    let old = c.args.self.now in
    sym (ap (λ b. cond b (learnt_from old c.args.letter.now) old) (c.is_none.ensures ∙ ap not c.if-is_none.true))

pub returns-clause-heard : goal.returns-clause-heard
returns-clause-heard c =
    let old = c.args.self.now in
    subst (λ b. OnOk c.learn.result (c.learn.new.self ≡ cond b (learnt_from old c.args.letter.now) old))
    (sym (c.is_none.ensures ∙ ap not c.if-is_none.false)) c.learn.ensures.learnt
