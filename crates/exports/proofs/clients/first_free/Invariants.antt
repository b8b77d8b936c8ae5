use Rattle.exports.specs.Clients.{AreBusy}
use Rattle.exports.proofs.clients.first_free.Given as goal

abbrev pub invariant-loop-client : goal.invariant-loop-client
invariant-loop-client l = AreBusy l.called l.clients l.client
