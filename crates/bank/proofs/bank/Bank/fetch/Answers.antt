use Rattle.std.proofs.Common.{ap}
use Rattle.bank.specs.declared.reply.Answer.TheVariants as answer
use Rattle.bank.specs.declared.request.Request.TheVariants as request
use Rattle.bank.proofs.TrueAnswerLemmas.{served_as}
use Rattle.bank.proofs.bank.Bank.fetch.Goals as goal

pub returns-clause-served : goal.returns-clause-served
returns-clause-served c =
    served_as c.args.self.now _ (request.Fetch c.args.tag) c.args.now (answer.Piece c.in_ok-piece.piece)
    (c.in_ok-finalize.ensures.bank) (ap answer.Piece c.in_ok-piece.ensures.copy) (λ is. absurd (cc))
    c.in_ok-piece.ensures.collected
