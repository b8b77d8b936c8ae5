use Rattle.std.proofs.Common.{◌+◌, ◌<◌, ◌≤◌, length, slice_get, ap, ◌∙◌, arith}
use Rattle.driver.specs.Choices.{passes, choices_from}
use Rattle.driver.proofs.ChoicePlaceLemmas.{told_of, here, passed, skipped, past_last}
use Rattle.driver.proofs.choices.choice_at.Goals as goal
use Rattle.driver.proofs.choices.choice_at.Goals.{then-passes+else-left-eq0, else-passes}

pub returns-then-left-eq0 : goal.returns-then-left-eq0
returns-then-left-eq0 c =
    let mail = c.args.register.now.object.mail in
    let test = passes c.args.cluster.now c.args.register.now.object c.args.filter in
    let len = c.len-place-end.ensures.value ∙ ap length c.mail_view-mail.ensures in
    let within : c.loop-place.place < length mail = omega (arith, len) in
    let told = told_of test mail _ c.loop-place.place _ _ c.mail_view-mail.ensures c.at.ensures c.passes.ensures in
    here test mail c.loop-place.place c.passes.result within told c.loop-place.left _ c.if-passes.true
    c.if-left-eq0.true c.loop-place.invariant

pub returns : goal.returns
returns c =
    let mail = c.args.register.now.object.mail in
    let test = passes c.args.cluster.now c.args.register.now.object c.args.filter in
    let len = c.len-place-end.ensures.value ∙ ap length c.mail_view-mail.ensures in
    let past : length mail ≤ c.loop-place.place = omega (arith, len) in
    past_last test mail c.loop-place.place c.loop-place.left _ past c.loop-place.invariant

pub loop-place-preserved : goal.loop-place-preserved
loop-place-preserved c =
    let mail = c.args.register.now.object.mail in
    let test = passes c.args.cluster.now c.args.register.now.object c.args.filter in
    let len = c.len-place-end.ensures.value ∙ ap length c.mail_view-mail.ensures in
    let within : c.loop-place.place < length mail = omega (arith, len) in
    let told = told_of test mail _ c.loop-place.place _ _ c.mail_view-mail.ensures c.at.ensures c.passes.ensures in
    let later = choices_from c.args.cluster.now c.args.register.now.object c.args.filter (c.loop-place.place + 1) in
    elim c.if-passes.branch [
      | then-passes+else-left-eq0 w ↦ ap (λ n. slice_get later n) w.left-is
          ∙ passed test mail c.loop-place.place c.passes.result within told c.loop-place.left _ w.if-passes.true
          w.if-left-eq0.false c.loop-place.invariant
      | else-passes w ↦ ap (λ n. slice_get later n) w.left-is
          ∙ skipped test mail c.loop-place.place c.passes.result within told c.loop-place.left _
          w.if-passes.false c.loop-place.invariant
    ]
