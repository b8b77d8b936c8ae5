use Rattle.std.proofs.Common.{Some, sym, ◌∙◌, ap}
use Rattle.std.proofs.lemmas.Result.{IfOk-weaker}
use Rattle.record.specs.declared.call.Entry.{Entry}
use Rattle.register.proofs.FoundCallLemmas.{entry_is, is_found}
use Rattle.register.proofs.register.Register.entry.Goals as goal

pub returns-clause-entry : goal.returns-clause-entry
returns-clause-entry c =
    let f = is_found c.self.invariant c.in_ok-index.ensures.place c.deref.ensures.value c.index.ensures in
    rw (← c.self.view_is)
    (IfOk-weaker c.entry.result _ _ (λ (e : Entry) is. entry_is f ∙ ap (λ (x : Entry). Some x) (sym is)) c.entry.ensures.entry)
