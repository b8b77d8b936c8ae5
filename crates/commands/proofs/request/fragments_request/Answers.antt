use Rattle.std.proofs.Common.{inl, refl}
use Rattle.commands.proofs.request.fragments_request.Goals as goal

pub returns : goal.returns
returns c = c.coding.ensures _ (inl (c.args.k.now, c.args.n.now, c.args.digits.now, refl)) c.fragments_request.ensures
