use Rattle.std.proofs.Common.{◌-◌, drop, length, take, sym, subst}
use Rattle.std.proofs.lemmas.Result.{IfOk-weaker}
use Rattle.client_commands.specs.Patterns.{IsRow}
use Rattle.client_commands.proofs.PatternLemmas.{row_of_all}
use Rattle.client_commands.proofs.patterns.+row_of.Goals as goal

pub returns-in_ok-row-in-len1-up : goal.returns-in_ok-row-in-len1-up
returns-in_ok-row-in-len1-up t c =
    IfOk-weaker c.next_row.result _ _ (λ next step. row_of_all c.args.parts.now _ c.args.text.now c.deref.result.now next.items
    c.in-len1-up.len_at_least
    (subst (IsRow (take (length c.args.parts.now - 1) (drop 1 c.args.parts.now)) c.args.text.now) (sym c.deref.ensures.value)
    c.in_ok-row-in-len1-up.ensures) step) c.next_row.ensures
