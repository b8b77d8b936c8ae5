use Rattle.std.proofs.Common.{◌≡◌, ap, ◌∙◌, subst, refl, IsSome}
use Rattle.tag.specs.Tag.{opening_tag}
use Rattle.bank.specs.Bank.{Bank}
use Rattle.bank.specs.Collect.{IsCollected}
use Rattle.bank.specs.Knowledge.{finalized_at}
use Rattle.bank.specs.Serve.{greatest_final}
use Rattle.bank.specs.declared.request.Request.TheVariants as request
use Rattle.bank.specs.declared.reply.Answer.TheVariants as answer
use Rattle.bank.proofs.GreatestTagLemmas.{greatest_final_is}
use Rattle.bank.proofs.TrueAnswerLemmas.{served_as}
use Rattle.bank.proofs.bank.Bank.query.Goals as goal

pub returns-clause-greatest : goal.returns-clause-greatest
returns-clause-greatest c = greatest_final_is c.args.self.now
    (subst (λ (b : Bank). IsSome (finalized_at b opening_tag)) c.self.view_is c.self.invariant.opening)

pub returns-clause-served : goal.returns-clause-served
returns-clause-served c =
    let b = c.args.self.now in
    let same : c.self.inside.greatest ≡ greatest_final b = c.self.invariant.greatest ∙ ap greatest_final c.self.view_is in
    served_as b b request.Query c.args.now (answer.Greatest c.self.inside.greatest) refl (ap answer.Greatest same)
    (λ _. subst (λ (b : Bank). IsSome (finalized_at b opening_tag)) c.self.view_is c.self.invariant.opening)
    (subst IsCollected c.self.view_is c.self.invariant.collected)
