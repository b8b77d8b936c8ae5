use Rattle.std.proofs.Common.{List, map, sym, ap, ◌∙◌, subst}
use Rattle.record.specs.declared.call.Entry.{Entry}
use Rattle.record.specs.declared.call.TaggedCall.{TaggedCall}
use Rattle.history.specs.CallOrder.{AreCallsOf}
use Rattle.history.specs.Calls.{tagged_entry}
use Rattle.history.proofs.CallEntryLemmas.{calls_of_entries}
use Rattle.history.proofs.object.tagged_calls.Goals as goal

pub returns-clause-calls : goal.returns-clause-calls
returns-clause-calls c =
    let object = c.args.register.now.object in
    let listed = c.deref.ensures.value ∙ c.in_ok-entries.ensures.entries in
    let made = c.in_ok-tagged_entries.ensures ∙ ap (λ (es : List Entry). map (λ entry. tagged_entry object entry) es) listed in
    subst (λ (calls : List TaggedCall). AreCallsOf object calls) (sym made) (calls_of_entries object c.soundness.ensures.numbered)
