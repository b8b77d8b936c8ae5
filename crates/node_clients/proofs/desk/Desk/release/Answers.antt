use Rattle.std.proofs.Common.{rules}
use Rattle.node_clients.proofs.TellLemmas.{tells_nobody}
use Rattle.node_clients.proofs.desk.Desk.release.Goals as goal

pub returns-in-None-clause-tells : goal.returns-in-None-clause-tells
returns-in-None-clause-tells c = tells_nobody c.args.work.now

pub returns-in-Some-clause-released : goal.returns-in-Some-clause-released
returns-in-Some-clause-released c = search rules
