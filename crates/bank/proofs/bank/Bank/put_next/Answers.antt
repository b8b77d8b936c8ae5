use Rattle.std.proofs.Common.{ap, ◌∙◌, refl, subst}
use Rattle.bank.specs.Bank.{Bank, with_pointer}
use Rattle.bank.specs.Collect.{IsCollected}
use Rattle.bank.specs.Pointer.{raised}
use Rattle.bank.specs.Kept.{bank_of}
use Rattle.bank.specs.declared.reply.Answer.TheVariants as answer
use Rattle.bank.specs.declared.request.Request.TheVariants as request
use Rattle.bank.proofs.TrueAnswerLemmas.{served_as}
use Rattle.bank.proofs.bank.Bank.put_next.Goals as goal

pub returns-clause-served : goal.returns-clause-served
returns-clause-served c = served_as c.args.self.now _ (request.Spread c.args.status) c.args.now answer.Done
    (ap (λ p. bank_of c.self.inside.rows.entries p c.self.inside.window c.self.inside.retired) c.raised-self-inside.ensures
    ∙ ap (λ (b : Bank). with_pointer b (raised b.pointer c.args.status c.args.now)) c.self.view_is) refl (λ is. absurd (cc))
    (subst IsCollected c.self.view_is c.self.invariant.collected)
