use Rattle.std.proofs.Common.{sym, ap, ◌∙◌, subst, refl}
use Rattle.std.proofs.lemmas.Bool.{false≢true}
use Rattle.bank.specs.Bank.{Bank, finalized}
use Rattle.bank.specs.Collect.{collected, IsCollected}
use Rattle.bank.specs.declared.reply.Answer.TheVariants as answer
use Rattle.bank.specs.declared.request.Request.TheVariants as request
use Rattle.bank.proofs.BankRequestLemmas.{bank_finalized, kept_finalized, not_known}
use Rattle.bank.proofs.TrueAnswerLemmas.{served_as}
use Rattle.bank.proofs.bank.Bank.finalize.Goals as goal

pub returns-in_err-anew-clause-known : goal.returns-in_err-anew-clause-known
returns-in_err-anew-clause-known c known =
    let o = c.self.inside in
    absurd (false≢true (sym (not_known o.rows.entries o.pointer o.window o.retired c.args.tag c.self.invariant.sorted
    c.in_err-anew.ensures.absent c.args.self.now c.self.view_is) ∙ known))

pub invariant_of-self-2 : goal.invariant_of-self-2
invariant_of-self-2 c =
    let o = c.self.inside in
    kept_finalized o.rows.entries c.finalize.new.rows.entries c.empty-freed.new.rows.entries o.pointer o.window o.retired o.greatest
    o.bytes c.self.invariant c.finalize.ensures.ordered (c.empty-freed.ensures.ordered c.finalize.ensures.ordered) c.args.tag
    c.args.now c.in_ok-anew.anew c.in_ok-anew.ensures.anew c.in_ok-anew.ensures.rows.0 c.admit-fallen.new.window c.admit-fallen.result
    c.admit-fallen.ensures.window c.admit-fallen.ensures.fallen c.empty-freed.ensures.rows c.later-self-inside.result
    c.empty-freed.result _ c.later-self-inside.ensures c.empty-freed.ensures.freed c.empty-freed.type_inv refl

pub returns-clause-bank : goal.returns-clause-bank
returns-clause-bank c =
    let o = c.self.inside in
    bank_finalized o.rows.entries c.finalize.new.rows.entries c.empty-freed.new.rows.entries o.pointer o.window o.retired o.greatest
    o.bytes c.self.invariant c.finalize.ensures.ordered (c.empty-freed.ensures.ordered c.finalize.ensures.ordered) c.args.tag
    c.args.now c.in_ok-anew.anew c.in_ok-anew.ensures.anew c.in_ok-anew.ensures.rows.0 c.admit-fallen.new.window c.admit-fallen.result
    c.admit-fallen.ensures.window c.admit-fallen.ensures.fallen c.empty-freed.ensures.rows
    ∙ ap (λ (b : Bank). collected (finalized b c.args.tag c.args.now)) c.self.view_is

pub returns-clause-served : goal.returns-clause-served
returns-clause-served c =
    served_as c.args.self.now _ (request.Finalize c.args.tag) c.args.now answer.Done (returns-clause-bank c) refl
    (λ is. absurd (cc)) (subst IsCollected c.self.view_is c.self.invariant.collected)
