use Rattle.std.proofs.Common.{rules}
use Rattle.encoder.proofs.coded.pieces.Goals as goal

pub piece_in-requires-clause-fragments : goal.piece_in-requires-clause-fragments
piece_in-requires-clause-fragments c = search rules
