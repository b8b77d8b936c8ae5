use Rattle.coding_commands.proofs.PieceWordLemmas.{err_of}
use Rattle.commands.proofs.RequestFaultLemmas.{bad_number}
use Rattle.commands.proofs.request.soak_request.Goals as goal

pub returns-in_err-calls : goal.returns-in_err-calls
returns-in_err-calls c =
    err_of _ _ _ _ c.from_residual-in_err-calls.ensures.1
    (bad_number c.args.clients.now c.args.calls.now c.args.moves.now c.args.choices.now _ c.in_err-calls.ensures.0
    (λ plan clients calls moves choices. c.in_err-calls.ensures.1 plan.calls calls))

pub returns-in_err-moves : goal.returns-in_err-moves
returns-in_err-moves c =
    err_of _ _ _ _ c.from_residual-in_err-moves.ensures.1
    (bad_number c.args.clients.now c.args.calls.now c.args.moves.now c.args.choices.now _ c.in_err-moves.ensures.0
    (λ plan clients calls moves choices. c.in_err-moves.ensures.1 plan.moves moves))

pub returns-in_err-choices : goal.returns-in_err-choices
returns-in_err-choices c =
    err_of _ _ _ _ c.from_residual-in_err-choices.ensures.1
    (bad_number c.args.clients.now c.args.calls.now c.args.moves.now c.args.choices.now _ c.in_err-choices.ensures.0
    (λ plan clients calls moves choices. c.in_err-choices.ensures.1 plan.choices choices))
