use Rattle.std.proofs.Common.{rules}
use Rattle.cluster.proofs.cluster.messages.room_to_serve.Goals as goal

pub returns-then-bytes-stored-clause-cause : goal.returns-then-bytes-stored-clause-cause
returns-then-bytes-stored-clause-cause c = search rules
