use Rattle.std.proofs.Common.{◌+◌, ◌<◌, ◌≤◌, length, slice_get, ap, ◌∙◌, arith}
use Rattle.std.specs.Option.{option_or}
use Rattle.driver.specs.Choices.{passes, choices_from}
use Rattle.driver.proofs.ChoicePlaceLemmas.{told_of, counted, uncounted, few, choices_few, first_here, first_later, first_of_none}
use Rattle.driver.proofs.choices.count_choices.Goals as goal
use Rattle.driver.proofs.choices.count_choices.Goals.{then-passes, else-passes}

pub overflow_add-count : goal.overflow_add-count
overflow_add-count c =
    let mail = c.args.register.now.object.mail in
    let test = passes c.args.cluster.now c.args.register.now.object c.args.filter in
    let len = c.len-place-end.ensures.value ∙ ap length c.mail_view-mail.ensures in
    let within : c.loop-place.place < length mail = omega (arith, len) in
    let told = told_of test mail _ c.loop-place.place _ _ c.mail_view-mail.ensures c.at.ensures c.passes.ensures in
    let most = c.len-place-end.ensures.within in
    let all = choices_few test mail c.args.from in
    let less = few test mail c.loop-place.place c.passes.result within told c.loop-place.count
    (length (choices_from c.args.cluster.now c.args.register.now.object c.args.filter c.args.from)) c.if-passes.true
    c.loop-place.invariant.all all in
    omega (arith, less, len, most)

pub returns-clause-first : goal.returns-clause-first
returns-clause-first c =
    let mail = c.args.register.now.object.mail in
    let len = c.len-place-end.ensures.value ∙ ap length c.mail_view-mail.ensures in
    let past : length mail ≤ c.loop-place.place = omega (arith, len) in
    first_of_none (passes c.args.cluster.now c.args.register.now.object c.args.filter) mail c.loop-place.place c.loop-place.first _ past
    c.loop-place.invariant.least

pub loop-place-preserved : goal.loop-place-preserved
loop-place-preserved c =
    let mail = c.args.register.now.object.mail in
    let test = passes c.args.cluster.now c.args.register.now.object c.args.filter in
    let len = c.len-place-end.ensures.value ∙ ap length c.mail_view-mail.ensures in
    let within : c.loop-place.place < length mail = omega (arith, len) in
    let told = told_of test mail _ c.loop-place.place _ _ c.mail_view-mail.ensures c.at.ensures c.passes.ensures in
    let later = choices_from c.args.cluster.now c.args.register.now.object c.args.filter (c.loop-place.place + 1) in
    elim c.if-passes.branch [
      | then-passes w ↦ record {
        all = ap (λ n. n + length later) w.count-is
            ∙ counted test mail c.loop-place.place c.passes.result within told c.loop-place.count _ w.if-passes.true
            c.loop-place.invariant.all;
        least = ap (λ o. option_or o (slice_get later 0)) (w.first-is ∙ w.or-first.ensures)
            ∙ first_here test mail c.loop-place.place c.passes.result within told c.loop-place.first _ w.if-passes.true
            c.loop-place.invariant.least;
      }
      | else-passes w ↦ record {
        all = ap (λ n. n + length later) w.count-is
            ∙ uncounted test mail c.loop-place.place c.passes.result within told c.loop-place.count _ w.if-passes.false
            c.loop-place.invariant.all;
        least = ap (λ o. option_or o (slice_get later 0)) w.first-is
            ∙ first_later test mail c.loop-place.place c.passes.result within told c.loop-place.first _ w.if-passes.false
            c.loop-place.invariant.least;
      }
    ]
