use Rattle.history.proofs.OrderPassLemmas.{HasSeen}
use Rattle.history.proofs.certificate.keeps_order.Given as goal

abbrev pub invariant-loop-call : goal.invariant-loop-call
invariant-loop-call l = HasSeen l.entries l.order l.call-index l.latest
