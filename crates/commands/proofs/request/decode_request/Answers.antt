use Rattle.std.proofs.Common.{inr, map, refl}
use Rattle.commands.proofs.request.decode_request.Goals as goal

pub returns : goal.returns
returns c =
    c.coding.ensures _ (inr (c.args.k.now, c.args.len.now, map (λ w. w.now) c.args.words.now, refl)) c.decode_request.ensures
