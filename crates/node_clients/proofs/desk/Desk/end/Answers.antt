use Rattle.node_clients.proofs.TellLemmas.{tells_nobody}
use Rattle.node_clients.proofs.desk.Desk.end.Goals as goal

pub returns-in-None-clause-tells : goal.returns-in-None-clause-tells
returns-in-None-clause-tells c = tells_nobody c.args.work.now
