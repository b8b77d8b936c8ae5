use Rattle.std.proofs.Common.{List, ap, refl, ◌∙◌}
use Rattle.record.specs.declared.call.Entry.{Entry}
use Rattle.trace.specs.CostLines.{costs_text}
use Rattle.trace.proofs.ShownTextLemmas.{shown_as}
use Rattle.trace.proofs.show.show_costs.Goals as goal

pub returns-in-Ok : goal.returns-in-Ok
returns-in-Ok g c =
    let object = c.args.register.now.object in
    shown_as _ _ c.print.result _ _
    (ap (λ (es : List Entry). costs_text object es) (c.deref-entries.ensures.value ∙ c.in-Ok.ensures.entries))
    (c.print.ensures.shown _ refl) c.print.ensures.lost
