use Rattle.std.proofs.Common.{slice_get, refl, sym, ap, ◌∙◌, arith}
use Rattle.driver.specs.Choices.{choices_from}
use Rattle.driver.proofs.ChoicePlaceLemmas.{no_choice, picked}
use Rattle.driver.proofs.choices.choose.Goals as goal

pub returns-then-count-eq0 : goal.returns-then-count-eq0
returns-then-count-eq0 g c = (no_choice _ _ c.count_choices-count.ensures.count c.if-count-eq0.true, refl)

pub returns-then-skipped-eq0 : goal.returns-then-skipped-eq0
returns-then-skipped-eq0 g c =
    let xs = choices_from c.args.cluster.now c.args.register.now.object c.args.filter c.args.from in
    picked g.C.Chooser.chooses xs c.args.chooser.now c.choose.new.self c.count_choices-count.result.0 c.choose.result
    c.count_choices-count.result.1 c.count_choices-count.ensures.count (omega arith) c.choose.ensures
    (c.count_choices-count.ensures.first ∙ ap (λ n. slice_get xs n) (sym c.if-skipped-eq0.true))

pub returns : goal.returns
returns g c =
    let xs = choices_from c.args.cluster.now c.args.register.now.object c.args.filter c.args.from in
    picked g.C.Chooser.chooses xs c.args.chooser.now c.choose.new.self c.count_choices-count.result.0 c.choose.result
    c.choice_at.result c.count_choices-count.ensures.count (omega arith) c.choose.ensures c.choice_at.ensures
