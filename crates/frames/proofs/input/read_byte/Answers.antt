use Rattle.frames.proofs.ReadByteLemmas.{byte_read, byte_ended}
use Rattle.frames.proofs.input.read_byte.Goals as goal

pub returns-in-Ok-Some : goal.returns-in-Ok-Some
returns-in-Ok-Some g c = byte_read _ _ c.in-Ok-Some.byte (rw c.in-Ok-Some.field-0-is at c.in-Ok-Some.ensures)

pub returns-in-Ok-None : goal.returns-in-Ok-None
returns-in-Ok-None g c =
    let end = rw c.in-Ok-None.field-0-is at c.in-Ok-None.ensures in
    byte_ended _ _ end.0 end.1
