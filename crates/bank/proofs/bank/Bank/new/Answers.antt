use Rattle.std.proofs.Common.{sym, ap, ◌∙◌, subst, None}
use Rattle.tag.specs.Tag.{opening_tag}
use Rattle.bank.specs.Bank.{Bank}
use Rattle.bank.specs.Bytes.{bank_bytes}
use Rattle.bank.specs.Facts.{IsBefore}
use Rattle.bank.specs.Kept.{bank_of, IsKeptBank}
use Rattle.bank.specs.declared.status.Pointer.TheVariants.{Unset}
use Rattle.bank.proofs.BankBytesLemmas.{opened_bytes}
use Rattle.bank.proofs.OpenedOrRetiredLemmas.{bank_opened, kept_opened}
use Rattle.bank.proofs.TrueAnswerLemmas.{opened_before}
use Rattle.bank.proofs.bank.Bank.new.Goals as goal

pub invariant_of-result : goal.invariant_of-result
invariant_of-result c =
    subst (λ w. IsKeptBank c.put.new.rows.entries Unset w None opening_tag 0) (sym c.opened.ensures)
    (kept_opened c.new-rows.result.entries c.put.new.rows.entries c.args.point c.args.delta c.args.now c.new.result
    c.new-rows.ensures.empty c.new-rows.ensures.ordered c.put.ensures.ordered c.new.ensures c.in_ok-put.ensures.rows.0)

pub returns-clause-bank : goal.returns-clause-bank
returns-clause-bank c =
    ap (λ w. bank_of c.put.new.rows.entries Unset w None) c.opened.ensures
    ∙ bank_opened c.new-rows.result.entries c.put.new.rows.entries c.args.point c.args.delta c.args.now c.new.result
    c.new-rows.ensures.empty c.new-rows.ensures.ordered c.put.ensures.ordered c.new.ensures c.in_ok-put.ensures.rows.0

pub returns-clause-order : goal.returns-clause-order
returns-clause-order c later after = subst (λ (b : Bank). IsBefore b later) (sym (returns-clause-bank c))
    (opened_before c.args.point c.args.delta c.args.now later after)

pub returns-clause-bytes : goal.returns-clause-bytes
returns-clause-bytes c = ap bank_bytes (returns-clause-bank c) ∙ opened_bytes c.args.point c.args.delta c.args.now
