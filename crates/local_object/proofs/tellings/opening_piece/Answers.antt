use Rattle.local_object.proofs.TellingLemmas.{opened_if}
use Rattle.local_object.proofs.tellings.opening_piece.Goals as goal

pub returns-then-asks_piece : goal.returns-then-asks_piece
returns-then-asks_piece c = λ delta. opened_if c.args.member delta c.args.asks_piece c.if-asks_piece.true c.new.result c.new.ensures
