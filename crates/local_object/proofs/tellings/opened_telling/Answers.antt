use Rattle.local_object.proofs.TellingLemmas.{opened_tells}
use Rattle.local_object.proofs.tellings.opened_telling.Goals as goal

pub returns : goal.returns
returns c =
    opened_tells c.args.member c.args.delta c.args.asks_piece c.opening_piece.result (c.opening_piece.ensures c.args.delta)
