use Rattle.history.proofs.PairwiseByPlaceLemmas.{call_there}
use Rattle.history.proofs.certificate.answered_in.Goals as goal

pub entry_at-requires-clause-within : goal.entry_at-requires-clause-within
entry_at-requires-clause-within c =
    (call_there c.args.entries.now c.args.order.now c.requires c.loop-call.call-index c.loop-call-test.true).1
