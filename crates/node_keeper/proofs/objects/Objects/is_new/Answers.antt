use Rattle.std.proofs.Common.{◌≡◌, ◌∙◌, true, false, sym}
use Rattle.std.proofs.lemmas.Option.{same_Some}
use Rattle.node_keeper.proofs.objects.Objects.is_new.Goals as goal

pub returns-else-may_be_new-clause-new : goal.returns-else-may_be_new-clause-new
returns-else-may_be_new-clause-new c = λ local is.
    let object : c.in-Some.object.now ≡ local = same_Some c.in-Some.object.now local (c.in-Some.ensures.value ∙ is) in (
      (λ yes. absurd (let wrong : false ≡ true = sym c.if-may_be_new.false ∙ yes in cc)),
      (λ same. c.may_be_new.ensures _ _ _ (object ∙ same)),
    )
