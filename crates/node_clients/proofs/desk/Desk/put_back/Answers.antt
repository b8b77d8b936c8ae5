use Rattle.node_clients.proofs.TellLemmas.{tells_nobody}
use Rattle.node_clients.proofs.desk.Desk.put_back.Goals as goal

pub returns-clause-tells : goal.returns-clause-tells
returns-clause-tells c = tells_nobody c.args.work.now
