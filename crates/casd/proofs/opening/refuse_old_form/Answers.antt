use Rattle.std.proofs.Common.{arith}
use Rattle.casd.proofs.FormLemmas.{form_unread, new_form, old_form, too_short}
use Rattle.casd.proofs.opening.refuse_old_form.Goals as goal

pub returns-in-Err-clause-form : goal.returns-in-Err-clause-form
returns-in-Err-clause-form g c =
    form_unread (Unit {0}) _ c.unopened.result c.unopened.ensures.opens c.unopened.ensures.reads

pub returns-then-count-lt-HEAD_LENGTH-clause-form : goal.returns-then-count-lt-HEAD_LENGTH-clause-form
returns-then-count-lt-HEAD_LENGTH-clause-form g c =
    too_short _ _ _ c.read_full.new.buf c.in-Ok-read_full.count c.in-Ok.ensures c.if-count-lt-HEAD_LENGTH.true
    c.in-Ok-read_full.ensures.bytes
    (c.in-Ok-read_full.ensures.end (omega (arith, c.read_full.ensures.same, c.if-count-lt-HEAD_LENGTH.true)))

pub returns-then-is_old_head-clause-form : goal.returns-then-is_old_head-clause-form
returns-then-is_old_head-clause-form g c =
    old_form _ _ _ c.read_full.new.buf c.in-Ok-read_full.count c.in-Ok.ensures c.read_full.ensures.same
    (omega (arith, c.if-count-lt-HEAD_LENGTH.false)) c.in-Ok-read_full.ensures.bytes
    (c.is_old_head.ensures.0 c.if-is_old_head.true)

pub returns-in-Ok-read_full-clause-form : goal.returns-in-Ok-read_full-clause-form
returns-in-Ok-read_full-clause-form g c =
    new_form _ _ _ c.read_full.new.buf c.in-Ok-read_full.count c.in-Ok.ensures c.read_full.ensures.same
    (omega (arith, c.if-count-lt-HEAD_LENGTH.false)) c.in-Ok-read_full.ensures.bytes
    (λ old.
    let is = c.is_old_head.ensures.1 old in
    let lacks = c.if-is_old_head.false in absurd (cc))
