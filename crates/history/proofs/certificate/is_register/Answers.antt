use Rattle.std.proofs.Common.{[], get_or}
use Rattle.atomicity.specs.Atomic.{IsRegister, MayStand, entry_at}
use Rattle.history.specs.Check.{entries_listed}
use Rattle.history.proofs.PairwiseByPlaceLemmas.{call_there, place_from_all, value_there}
use Rattle.history.proofs.RegisterPassLemmas.{after_write, after_read, wrong_read, no_move, passes_on, stops}
use Rattle.history.proofs.certificate.is_register.Goals as goal
use Rattle.history.proofs.certificate.is_register.Goals.{in-Write, in-Read+else-not-are_same}

pub entry_at-entry-requires-clause-within : goal.entry_at-entry-requires-clause-within
entry_at-entry-requires-clause-within c =
    (call_there c.args.entries.now c.args.order.now c.requires.standing c.loop-call.call-index c.loop-call-test.true).1

pub value_of-value-requires : goal.value_of-value-requires
value_of-value-requires c =
    let may = place_from_all (λ call. MayStand (entry_at c.args.entries.now call)) c.args.order.now
    c.requires.standing c.loop-call.call-index c.loop-call-test.true in
    rw c.entry_at-entry.ensures (value_there c.args.entries.now (get_or c.args.order.now c.loop-call.call-index 0) c.requires.lawful may)

pub returns-then-not-are_same : goal.returns-then-not-are_same
returns-then-not-are_same c = (
  (λ f. absurd (cc)),
  (λ (whole : IsRegister [] (entries_listed c.args.entries.now c.args.order.now)).
      absurd (stops c.args.entries.now c.args.order.now c.loop-call.call-index c.entry_at-entry.result.now c.loop-call.current.now
      c.loop-call-test.true c.entry_at-entry.ensures c.loop-call.invariant
      (wrong_read _ _ _ _ _ c.in-Read.is c.value_of-value.ensures (λ same. let t = c.are_same.ensures.1 same in cc)) whole)),
)

pub returns-in-Move : goal.returns-in-Move
returns-in-Move c = (
  (λ f. absurd (cc)),
  (λ (whole : IsRegister [] (entries_listed c.args.entries.now c.args.order.now)).
      absurd (stops c.args.entries.now c.args.order.now c.loop-call.call-index c.entry_at-entry.result.now c.loop-call.current.now
      c.loop-call-test.true c.entry_at-entry.ensures c.loop-call.invariant
      (no_move _ _ _ _ c.in-Move.is) whole)),
)

pub loop-call-preserved : goal.loop-call-preserved
loop-call-preserved c =
    passes_on c.args.entries.now c.args.order.now c.loop-call.call-index c.entry_at-entry.result.now c.loop-call.current.now
    c.match-entry.current.now
    c.loop-call-test.true c.entry_at-entry.ensures c.loop-call.invariant
    (elim c.match-entry.branch [
      | in-Write w ↦
          after_write _ _ _ _ _ w.in-Write.is (rw w.current-is c.value_of-value.ensures)
      | in-Read+else-not-are_same w ↦
          rw w.current-is (after_read _ _ _ _ _ w.in-Read.is c.value_of-value.ensures (w.are_same.ensures.0 w.if-not-are_same.false))
    ])
