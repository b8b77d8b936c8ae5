use Rattle.std.proofs.Common.{inl, refl}
use Rattle.coding_commands.proofs.PieceWordLemmas.{err_of, fault_of, no_bytes}
use Rattle.coding_commands.proofs.request.fragments_request.Goals as goal

pub returns-in_err-value : goal.returns-in_err-value
returns-in_err-value c =
    err_of _ _ _ _ c.from_residual-in_err-value.ensures.1
    (fault_of _ _ _ c.in_err-value.ensures (inl (c.args.k.now, c.args.n.now, c.args.digits.now, refl))
    (no_bytes c.args.k.now c.args.n.now c.args.digits.now))
