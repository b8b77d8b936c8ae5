use Rattle.std.proofs.Common.{refl, rules}
use Rattle.node_log.proofs.EntryLemmas.{left_over, faulty}
use Rattle.node_log.proofs.reading.frame_of.Goals as goal

pub returns-else-is_empty : goal.returns-else-is_empty
returns-else-is_empty c =
    let read = rw c.in-Ok-Some.field-0-is at c.in-Ok-Some.ensures.exact in
    let e = c.is_empty.ensures in
    let f = c.if-is_empty.false in
    (refl, left_over _ _ _ read (search rules))

pub returns-in-Err-Fault : goal.returns-in-Err-Fault
returns-in-Err-Fault c = (refl, faulty _ _ _ (rw c.in-Err-Fault.field-0-is at c.in-Err-Fault.ensures.exact))
