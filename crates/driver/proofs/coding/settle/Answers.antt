use Rattle.std.proofs.Common.{Some, ap, ◌∙◌}
use Rattle.driver.proofs.coding.settle.Goals as goal

pub pieces_to_decode-requires-clause-wanted : goal.pieces_to_decode-requires-clause-wanted
pieces_to_decode-requires-clause-wanted c = c.in_ok-k.ensures.want ∙ ap Some c.in-Settle.is

pub settle_pieces-requires-clause-pieces : goal.settle_pieces-requires-clause-pieces
settle_pieces-requires-clause-pieces c = c.in_ok-pieces-in-Settle.ensures.pieces

pub returns-in_ok-pieces-in-Settle-clause-step : goal.returns-in_ok-pieces-in-Settle-clause-step
returns-in_ok-pieces-in-Settle-clause-step c = c.settle_pieces.ensures.step

pub returns-in_ok-pieces-in-Settle-clause-cause : goal.returns-in_ok-pieces-in-Settle-clause-cause
returns-in_ok-pieces-in-Settle-clause-cause c = c.settle_pieces.ensures.cause
