use Rattle.node_messages.proofs.head.number_bytes.Goals as goal

pub returns-clause-call : goal.returns-clause-call
returns-clause-call c = c.within_bits-call.ensures.call

pub returns-clause-phase : goal.returns-clause-phase
returns-clause-phase c = c.within_bits-call.ensures.phase

pub returns-clause-position : goal.returns-clause-position
returns-clause-position c = c.within_bits-call.ensures.position
