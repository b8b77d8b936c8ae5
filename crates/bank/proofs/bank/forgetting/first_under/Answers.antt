use Rattle.std.proofs.Common.{◌≡◌, false, arith, IfSome, slice_get, subst}
use Rattle.std.specs.Ordering.{is_lt}
use Rattle.std.proofs.lemmas.Bool.Decides.{nat_tests}
use Rattle.std.specs.BTreeMap.{get}
use Rattle.std.specs.BTreeMap.Range.{IsLeBy}
use Rattle.tag.specs.Tag.{tag_cmp}
use Rattle.tag.specs.declared.tag.Tag.{Tag}
use Rattle.bank.specs.declared.row.Row.{Row}
use Rattle.bank.proofs.EntryOrderLemmas.{Rows}
use Rattle.bank.proofs.ForgottenRowLemmas.{after_opening, none_under}
use Rattle.bank.proofs.bank.forgetting.first_under.Goals as goal

pub returns-else-lt-clause-none : goal.returns-else-lt-clause-none
returns-else-lt-clause-none c q under =
    let at_least : false ≡ is_lt (tag_cmp c.in_ok-tag.tag.now c.args.floor) = grind (arith, nat_tests, c.if-lt.ensures) in
    none_under c.args.floor c.in_ok-tag.tag.now q (get tag_cmp c.args.rows.now q) under at_least
    (λ known. subst (λ (es : Rows). IfSome (slice_get es 0) (λ (e : Tag × Row). IsLeBy tag_cmp e.0 q)) c.in_ok-tag.ensures.steps
    ((c.range.ensures.in_range tt).2 q (after_opening c.args.floor q under, tt) known))
