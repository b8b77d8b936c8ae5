use Rattle.std.proofs.Common.{ℕ, Option, refl, sym, subst, ◌∙◌}
use Rattle.node.specs.Recovering.{ClosesCall}
use Rattle.node.specs.declared.node.Node.{Node}
use Rattle.node.proofs.node.Node.take_again.Goals as goal

pub returns-in-Ok-Some-clause-taken : goal.returns-in-Ok-Some-clause-taken
returns-in-Ok-Some-clause-taken c =
    let told = c.in-Ok-Some.ensures.taken in
    let old = c.args.self.now in
    let new : Node = record old { keeper = c.take_again.new.self; desk = c.closed-client.new.self } in (
      told.0,
      subst (λ (id : Option ℕ). ClosesCall old id new) (sym c.in-Ok-Some.field-0-is ∙ told.1)
          (record { here = c.closed-client.ensures.gone; others = c.closed-client.ensures.others }),
    )

pub returns-in-Ok-None-clause-taken : goal.returns-in-Ok-None-clause-taken
returns-in-Ok-None-clause-taken c =
    let told = c.in-Ok-None.ensures.taken in
    let old = c.args.self.now in
    let new : Node = record old { keeper = c.take_again.new.self } in
    (told.0, subst (λ (id : Option ℕ). ClosesCall old id new) (sym c.in-Ok-None.field-0-is ∙ told.1) refl)
