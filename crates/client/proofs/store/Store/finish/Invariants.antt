use Rattle.std.proofs.Common.{◌≡◌}
use Rattle.locked_steps.specs.Moves.{asked_if}
use Rattle.client.specs.Callers.{StaysOpen}
use Rattle.client.proofs.store.Store.finish.Given as goal

abbrev pub invariant-loop : goal.invariant-loop
invariant-loop g l = record {
  asked : asked_if g.K.Caller.asks l.asks_again l.caller ≡ asked_if g.K.Caller.asks l.resumed l.initial.caller;
  stays : StaysOpen g.K.Caller.asks l.resumed l.initial.caller l.caller;
  holds : g.K.Caller.holds l.caller l.hand;
}
