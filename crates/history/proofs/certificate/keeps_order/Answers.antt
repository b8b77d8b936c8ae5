use Rattle.std.proofs.Common.{sym, subst, arith, rules, length}
use Rattle.record.specs.declared.call.Entry.{Entry}
use Rattle.history.proofs.OrderPassLemmas.{IsBefore, sees_more, breaks}
use Rattle.history.proofs.PairwiseByPlaceLemmas.{call_there, keeps_from_places, places_from_keeps}
use Rattle.history.proofs.certificate.keeps_order.Goals as goal

pub entry_at-entry-requires-clause-within : goal.entry_at-entry-requires-clause-within
entry_at-entry-requires-clause-within c =
    (call_there c.args.entries.now c.args.order.now c.requires c.loop-call.call-index c.loop-call-test.true).1

pub returns-then-is_before : goal.returns-then-is_before
returns-then-is_before c = (
  (λ f. absurd (cc)),
  (λ keeps.
      absurd (breaks c.args.entries.now c.args.order.now c.loop-call.call-index c.loop-call.latest (length c.args.order.now)
      c.loop-call.invariant c.loop-call-test.true
      (subst (λ (e : Entry). IsBefore e.answered c.loop-call.latest) c.entry_at-entry.ensures (c.is_before.ensures.0 c.if-is_before.true))
      (places_from_keeps c.args.entries.now c.args.order.now keeps))),
)

pub loop-call-preserved : goal.loop-call-preserved
loop-call-preserved c =
    sees_more c.args.entries.now c.args.order.now c.loop-call.call-index c.loop-call.latest c.max-latest.result c.loop-call.invariant
    (λ before. let t = c.is_before.ensures.1
    (subst (λ (e : Entry). IsBefore e.answered c.loop-call.latest) (sym c.entry_at-entry.ensures) before) in cc)
    (rw (← c.entry_at-entry.ensures) c.max-latest.ensures)

pub returns : goal.returns
returns c = (
  (λ t. keeps_from_places c.args.entries.now c.args.order.now
      (λ earlier later h k. c.loop-call.invariant.kept earlier later h (omega arith))),
  (λ keeps. search rules),
)
