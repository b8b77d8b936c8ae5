use Rattle.std.proofs.Common.{sym, ap, ◌∙◌, subst, refl}
use Rattle.std.proofs.lemmas.Bool.{false≢true}
use Rattle.bank.specs.Bank.{Bank, pre_written}
use Rattle.bank.specs.Collect.{collected, IsCollected}
use Rattle.bank.specs.Window.{found_in, without_piece, piece_bytes_at}
use Rattle.bank.specs.declared.reply.Answer.TheVariants as answer
use Rattle.bank.specs.declared.request.Request.TheVariants as request
use Rattle.bank.proofs.BankRequestLemmas.{bank_pre_written, kept_pre_written, not_known}
use Rattle.bank.proofs.TrueAnswerLemmas.{served_as}
use Rattle.bank.proofs.bank.Bank.pre_write.Goals as goal

pub returns-in_err-added-clause-known : goal.returns-in_err-added-clause-known
returns-in_err-added-clause-known c known =
    let o = c.self.inside in
    absurd (false≢true (sym (not_known o.rows.entries o.pointer o.window o.retired c.args.tag c.self.invariant.sorted
    c.in_err-added.ensures.absent c.args.self.now c.self.view_is) ∙ known))

pub invariant_of-self-2 : goal.invariant_of-self-2
invariant_of-self-2 c =
    let o = c.self.inside in
    let fs = c.fill.new.rows.entries in
    kept_pre_written o.rows.entries fs c.empty-freed.new.rows.entries o.pointer o.window o.retired o.greatest o.bytes c.self.invariant
    c.fill.ensures.ordered (c.empty-freed.ensures.ordered c.fill.ensures.ordered) c.args.tag c.args.now c.args.piece
    c.in_ok-added.ensures.rows.0
    (λ q. c.empty-freed.ensures.rows q ∙ ap (λ x. without_piece x q (found_in fs q)) c.late-late.ensures)
    c.in_ok-added.added _ c.empty-freed.result _ c.in_ok-added.ensures.added refl
    (c.empty-freed.ensures.freed ∙ ap (λ x. piece_bytes_at x fs) c.late-late.ensures) c.empty-freed.type_inv refl

pub returns-clause-bank : goal.returns-clause-bank
returns-clause-bank c =
    let o = c.self.inside in
    let fs = c.fill.new.rows.entries in
    bank_pre_written o.rows.entries fs c.empty-freed.new.rows.entries o.pointer o.window o.retired o.greatest o.bytes c.self.invariant
    c.fill.ensures.ordered (c.empty-freed.ensures.ordered c.fill.ensures.ordered) c.args.tag c.args.now c.args.piece
    c.in_ok-added.ensures.rows.0
    (λ q. c.empty-freed.ensures.rows q ∙ ap (λ x. without_piece x q (found_in fs q)) c.late-late.ensures)
    ∙ ap (λ (b : Bank). collected (pre_written b c.args.tag c.args.piece c.args.now)) c.self.view_is

pub returns-clause-served : goal.returns-clause-served
returns-clause-served c =
    served_as c.args.self.now _ (request.PreWrite c.args.tag c.args.piece) c.args.now answer.Done (returns-clause-bank c) refl
    (λ is. absurd (cc)) (subst IsCollected c.self.view_is c.self.invariant.collected)
