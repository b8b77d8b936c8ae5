use Rattle.std.proofs.Common.{List, sym, subst}
use Rattle.std.proofs.lemmas.Result.{IfOk-weaker}
use Rattle.encoder.specs.Fragment.{fragment}
use Rattle.atomicity.specs.Atomic.{IsSequence}
use Rattle.record.specs.Journals.{entries}
use Rattle.atomicity.specs.Sequence.{IsTagSequence}
use Rattle.register.proofs.FragmentCodeLemmas.{fragments_determine}
use Rattle.atomicity.proofs.Sequences.TagSequenceLemmas.{sequence_of_sound}
use Rattle.record.specs.declared.call.TaggedCall.{TaggedCall}
use Rattle.history.specs.CallOrder.{AreCallsOf}
use Rattle.atomicity.specs.Sequence.{IsTagOrder}
use Rattle.history.proofs.TagOrderLemmas.{turn_of, sequence_of_order}
use Rattle.history.proofs.object.sequence.Goals as goal

pub order_by_tags-requires : goal.order_by_tags-requires
order_by_tags-requires c =
    let object = c.args.register.now.object in
    let calls = c.deref.result.now in
    let are = subst (λ (calls : List TaggedCall). AreCallsOf object calls) (sym c.deref.ensures.value) c.in_ok-calls.ensures.calls in
    record { in_turn = turn_of object calls are c.soundness.ensures.sound.legal.in_turn }

pub returns-clause-listed : goal.returns-clause-listed
returns-clause-listed c =
    let object = c.args.register.now.object in
    let calls = c.deref.result.now in
    let are = subst (λ (calls : List TaggedCall). AreCallsOf object calls) (sym c.deref.ensures.value) c.in_ok-calls.ensures.calls in
    IfOk-weaker c.order_by_tags.result (λ order. IsTagOrder calls order.items) (λ order. IsTagSequence object order.items)
    (λ order ordered. sequence_of_order object calls order.items are ordered) c.order_by_tags.ensures.order

pub returns-clause-sequence : goal.returns-clause-sequence
returns-clause-sequence c =
    let state = c.args.register.now in
    IfOk-weaker c.order_by_tags.result (λ order. IsTagSequence state.object order.items)
    (λ order. IsSequence (entries state.object) order.items)
    (λ order listed. sequence_of_sound fragment state.object state.last fragments_determine c.soundness.ensures.sound order.items listed)
    (returns-clause-listed c)
