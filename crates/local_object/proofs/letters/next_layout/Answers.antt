use Rattle.std.proofs.Common.{rules}
use Rattle.local_object.proofs.letters.next_layout.Goals as goal

pub returns-in_ok-clone-in-Some-clause-layout : goal.returns-in_ok-clone-in-Some-clause-layout
returns-in_ok-clone-in-Some-clause-layout c = search rules
