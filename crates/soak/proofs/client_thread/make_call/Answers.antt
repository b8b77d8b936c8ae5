use Rattle.std.proofs.Common.{rules}
use Rattle.soak.proofs.client_thread.make_call.Goals as goal

pub returns-in_ok-write : goal.returns-in_ok-write
returns-in_ok-write g c = search rules
