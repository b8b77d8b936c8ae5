use Rattle.std.proofs.Common.{ap, sym, subst, ◌∙◌}
use Rattle.local_object.specs.Distinct.{IsBankInOrderIfOpen}
use Rattle.local_object.specs.Local.{bank_in, heard_place}
use Rattle.local_object.proofs.PlaceLemmas.{read_at, unread}
use Rattle.local_object.proofs.places.Places.bank_of.Goals as goal

pub returns-in-Some-clause-bank : goal.returns-in-Some-clause-bank
returns-in-Some-clause-bank c =
    c.bank.ensures.bank
    ∙ sym (ap bank_in
    (read_at c.deref.result.now c.self.inside.places.items c.args.self.now c.from.result c.in-Some.index c.index.result.now
    c.deref.ensures.value c.self.view_is c.in-Some.ensures c.index.ensures))
    ∙ ap (λ number. bank_in (heard_place c.args.self.now number)) c.from.ensures

pub returns-in-Some-clause-order : goal.returns-in-Some-clause-order
returns-in-Some-clause-order c =
    subst IsBankInOrderIfOpen (sym c.bank.ensures.bank ∙ returns-in-Some-clause-bank c) c.bank.ensures.order

pub returns-in-None-clause-bank : goal.returns-in-None-clause-bank
returns-in-None-clause-bank c =
    sym (ap bank_in
    (unread c.deref.result.now c.self.inside.places.items c.args.self.now c.from.result c.deref.ensures.value c.self.view_is
    c.in-None.ensures))
    ∙ ap (λ number. bank_in (heard_place c.args.self.now number)) c.from.ensures

pub returns-in-None-clause-order : goal.returns-in-None-clause-order
returns-in-None-clause-order c = subst IsBankInOrderIfOpen (returns-in-None-clause-bank c) tt
