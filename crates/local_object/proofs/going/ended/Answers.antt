use Rattle.std.proofs.Common.{rules}
use Rattle.local_object.proofs.going.ended.Goals as goal

pub returns-clause-told : goal.returns-clause-told
returns-clause-told c = search rules
