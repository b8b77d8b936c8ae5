use Rattle.node_messages.proofs.FrameLemmas.{short_piece_written}
use Rattle.node_messages.proofs.laws.short_pieces_have_frames.Goals as goal

pub returns : goal.returns
returns c = short_piece_written
