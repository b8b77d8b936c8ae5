use Rattle.decoder.proofs.WholeBlockLemmas.{blocks_of}
use Rattle.decoder.proofs.PastEndLemmas.{are_blocks, byte_past, none_by_byte}
use Rattle.decoder.proofs.past.bad_pieces_give_a_byte_past_the_length.Goals as goal

pub returns : goal.returns
returns c = λ k len pieces lawful bytes. (
  blocks_of k len pieces,
  are_blocks k len pieces lawful bytes,
  (byte_past k len pieces lawful bytes, none_by_byte k len pieces lawful bytes),
)
