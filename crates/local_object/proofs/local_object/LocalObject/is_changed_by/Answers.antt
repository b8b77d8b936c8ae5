use Rattle.std.proofs.Common.{◌||◌, ap, sym, subst, ◌∙◌}
use Rattle.local_object.specs.Changing.{changes_in_body}
use Rattle.local_object.specs.Distinct.{IsBankInOrderIfOpen}
use Rattle.local_object.specs.Local.{LocalObject, bank_in, bank_or_opened, heard_place, is_later_start_if}
use Rattle.local_object.proofs.ChangingLemmas.{changed_is, unchanged, unserved, unserved_is}
use Rattle.local_object.proofs.OpenLemmas.{object}
use Rattle.local_object.proofs.local_object.LocalObject.is_changed_by.Goals as goal

pub returns-then-not-is_served-clause-changed : goal.returns-then-not-is_served-clause-changed
returns-then-not-is_served-clause-changed c =
    unserved_is c.args.self.now c.args.letter.now (sym c.is_served.ensures ∙ c.if-not-is_served.true)

pub returns-then-not-is_served-clause-unchanged : goal.returns-then-not-is_served-clause-unchanged
returns-then-not-is_served-clause-unchanged c = λ e.
    unserved c.args.self.now c.args.letter.now (sym c.is_served.ensures ∙ c.if-not-is_served.true)

pub returns-then-changes-clause-changed : goal.returns-then-changes-clause-changed
returns-then-changes-clause-changed c =
    let o = c.self.inside in
    let letter = c.args.letter.now in
    changed_is (object o.node o.delta o.start o.reports o.places o.calls)
    c.args.self.now c.self.view_is letter c.changes.result (sym c.is_served.ensures ∙ c.if-not-is_served.false)
    (c.if-changes.true
    ∙ sym (ap (λ b. b || is_later_start_if c.args.self.now letter.start)
    (sym (c.changes.ensures letter.message.member o.delta
    ∙ ap (λ b. changes_in_body (bank_or_opened b letter.message.member o.delta) letter.message.body) c.bank_of-bank.ensures.bank)
    ∙ c.if-changes.true)))

pub returns-then-changes-clause-unchanged : goal.returns-then-changes-clause-unchanged
returns-then-changes-clause-unchanged c = λ e.
    let letter = c.args.letter.now in
    unchanged c.args.self.now letter
    (subst (λ (l : LocalObject). IsBankInOrderIfOpen (bank_in (heard_place l.places letter.message.position))) c.self.view_is
    c.bank_of-bank.ensures.order)
    (sym (returns-then-changes-clause-changed c) ∙ e)

pub returns-else-changes-clause-changed : goal.returns-else-changes-clause-changed
returns-else-changes-clause-changed c =
    let o = c.self.inside in
    let letter = c.args.letter.now in
    changed_is (object o.node o.delta o.start o.reports o.places o.calls)
    c.args.self.now c.self.view_is letter c.is_later_start_if.result (sym c.is_served.ensures ∙ c.if-not-is_served.false)
    (c.is_later_start_if.ensures
    ∙ sym (ap (λ b. b || is_later_start_if c.args.self.now letter.start)
    (sym (c.changes.ensures letter.message.member o.delta
    ∙ ap (λ b. changes_in_body (bank_or_opened b letter.message.member o.delta) letter.message.body) c.bank_of-bank.ensures.bank)
    ∙ c.if-changes.false)))

pub returns-else-changes-clause-unchanged : goal.returns-else-changes-clause-unchanged
returns-else-changes-clause-unchanged c = λ e.
    let letter = c.args.letter.now in
    unchanged c.args.self.now letter
    (subst (λ (l : LocalObject). IsBankInOrderIfOpen (bank_in (heard_place l.places letter.message.position))) c.self.view_is
    c.bank_of-bank.ensures.order)
    (sym (returns-else-changes-clause-changed c) ∙ e)
