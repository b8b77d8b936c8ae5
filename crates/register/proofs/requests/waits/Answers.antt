use Rattle.std.proofs.Common.{◌+◌, ◌||◌, drop, sym, ap, ◌∙◌}
use Rattle.record.specs.Sending.{waits}
use Rattle.register.proofs.MemberLoopLemmas.{waits_behind, waits_here}
use Rattle.register.proofs.requests.waits.Goals as goal

pub loop-place-init : goal.loop-place-init
loop-place-init c =
    let a = c.args in waits_behind a.call a.phase a.member c.first_place-place.result a.mail.now c.first_place-place.ensures

pub returns-then-is_of : goal.returns-then-is_of
returns-then-is_of c =
    let a = c.args in
    let rest = waits (drop (c.loop-place.place + 1) a.mail.now) a.call a.phase a.member in
    sym (c.loop-place.invariant ∙ waits_here a.mail.now a.call a.phase a.member c.loop-place.place c.at.result.now c.at.ensures
    ∙ ap (λ b. b || rest) (sym c.is_of.ensures ∙ c.if-is_of.true))

pub loop-place-preserved : goal.loop-place-preserved
loop-place-preserved c =
    let a = c.args in
    let rest = waits (drop (c.loop-place.place + 1) a.mail.now) a.call a.phase a.member in
    c.loop-place.invariant ∙ waits_here a.mail.now a.call a.phase a.member c.loop-place.place c.at.result.now c.at.ensures
    ∙ ap (λ b. b || rest) (sym c.is_of.ensures ∙ c.if-is_of.false)
