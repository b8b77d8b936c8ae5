use Rattle.std.proofs.Common.{sym, ap, ◌∙◌, subst, rules}
use Rattle.bank.specs.Bank.{Bank}
use Rattle.bank.specs.Bytes.{bank_bytes}
use Rattle.bank.specs.Collect.{retired_bank}
use Rattle.bank.specs.Kept.{bank_of, IsKeptBank}
use Rattle.bank.proofs.OpenedOrRetiredLemmas.{bank_retired, kept_retired, none_retired, since-none, since-some}
use Rattle.bank.proofs.bank.Bank.retire.Goals as goal

pub invariant_of-self : goal.invariant_of-self
invariant_of-self c =
    let o = c.self.inside in
    subst (λ r. IsKeptBank c.empty_all.new.rows.entries o.pointer o.window r o.greatest 0)
    (since-none o.retired c.args.now c.if-is_none.ensures)
    (kept_retired o.rows.entries c.empty_all.new.rows.entries o.pointer o.window o.retired o.greatest o.bytes c.self.invariant
    c.args.now c.empty_all.ensures)

pub invariant_of-self-else-is_none : goal.invariant_of-self-else-is_none
invariant_of-self-else-is_none c =
    let o = c.self.inside in
    subst (λ r. IsKeptBank c.empty_all.new.rows.entries o.pointer o.window r o.greatest 0)
    (since-some o.retired c.args.now c.if-is_none.ensures)
    (kept_retired o.rows.entries c.empty_all.new.rows.entries o.pointer o.window o.retired o.greatest o.bytes c.self.invariant
    c.args.now c.empty_all.ensures)

pub returns-then-is_none-clause-bank : goal.returns-then-is_none-clause-bank
returns-then-is_none-clause-bank c =
    let o = c.self.inside in
    ap (bank_of c.empty_all.new.rows.entries o.pointer o.window)
    (sym (since-none o.retired c.args.now c.if-is_none.ensures))
    ∙ bank_retired o.rows.entries c.empty_all.new.rows.entries o.pointer o.window o.retired o.greatest o.bytes c.self.invariant
    c.args.now c.empty_all.ensures
    ∙ ap (λ (b : Bank). retired_bank b c.args.now) c.self.view_is

pub returns-then-is_none-clause-none : goal.returns-then-is_none-clause-none
returns-then-is_none-clause-none c =
    let o = c.self.inside in
    ap (λ r. bank_bytes (bank_of c.empty_all.new.rows.entries o.pointer o.window r))
    (sym (since-none o.retired c.args.now c.if-is_none.ensures))
    ∙ none_retired o.rows.entries c.empty_all.new.rows.entries o.pointer o.window o.retired o.greatest o.bytes c.self.invariant
    c.args.now c.empty_all.ensures

pub returns-else-is_none-clause-bank : goal.returns-else-is_none-clause-bank
returns-else-is_none-clause-bank c =
    let o = c.self.inside in
    ap (bank_of c.empty_all.new.rows.entries o.pointer o.window)
    (sym (since-some o.retired c.args.now c.if-is_none.ensures))
    ∙ bank_retired o.rows.entries c.empty_all.new.rows.entries o.pointer o.window o.retired o.greatest o.bytes c.self.invariant
    c.args.now c.empty_all.ensures
    ∙ ap (λ (b : Bank). retired_bank b c.args.now) c.self.view_is

pub returns-else-is_none-clause-none : goal.returns-else-is_none-clause-none
returns-else-is_none-clause-none c =
    let o = c.self.inside in
    ap (λ r. bank_bytes (bank_of c.empty_all.new.rows.entries o.pointer o.window r))
    (sym (since-some o.retired c.args.now c.if-is_none.ensures))
    ∙ none_retired o.rows.entries c.empty_all.new.rows.entries o.pointer o.window o.retired o.greatest o.bytes c.self.invariant
    c.args.now c.empty_all.ensures

pub returns-then-is_none-clause-freed : goal.returns-then-is_none-clause-freed
returns-then-is_none-clause-freed c = search rules
