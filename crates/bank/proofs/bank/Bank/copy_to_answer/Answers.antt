use Rattle.std.proofs.Common.{◌≡◌, inl, inr, Option, IfOk, IsNone, option_copied, sym, ap, ◌∙◌, subst}
use Rattle.piece.specs.declared.piece.Piece.{Piece}
use Rattle.bank.specs.Bank.{piece_of_row}
use Rattle.bank.specs.Collect.{IsCollected}
use Rattle.bank.proofs.FetchAnswerLemmas.{fetched_outside, fetched_row}
use Rattle.bank.proofs.bank.Bank.copy_to_answer.Goals as goal
use Rattle.bank.proofs.bank.Bank.copy_to_answer.Goals.{then-is_some-via-then-is_some, then-is_some-via-else-is_some+then-is_excluded}

pub returns-then-is_some-clause-copy : goal.returns-then-is_some-clause-copy
returns-then-is_some-clause-copy c =
    let o = c.self.inside in
    sym (fetched_outside o.rows.entries o.pointer o.window o.retired c.args.tag c.self.invariant (elim c.then-is_some.branch [
      | then-is_some-via-then-is_some w ↦ inl (sym w.if-is_some.ensures)
      | then-is_some-via-else-is_some+then-is_excluded w ↦ inr (sym w.if-is_excluded.ensures)
    ]) c.args.self.now c.self.view_is)

pub returns-in-Some-clause-copy : goal.returns-in-Some-clause-copy
returns-in-Some-clause-copy c =
    let o = c.self.inside in
    subst (λ (q : Option Piece). IfOk c.copy_of_piece.result (λ p. p ≡ q))
    (ap piece_of_row (sym (ap option_copied c.in-Some.is) ∙ c.row_of.ensures)
    ∙ fetched_row o.rows.entries o.pointer o.window o.retired c.args.tag c.self.invariant
    (sym c.if-is_some.ensures) (sym c.if-is_excluded.ensures) c.args.self.now c.self.view_is)
    c.copy_of_piece.ensures.copy

pub returns-in-Some-clause-none : goal.returns-in-Some-clause-none
returns-in-Some-clause-none c none =
    let o = c.self.inside in
    c.copy_of_piece.ensures.none (subst IsNone
    (sym (ap piece_of_row (sym (ap option_copied c.in-Some.is) ∙ c.row_of.ensures)
    ∙ fetched_row o.rows.entries o.pointer o.window o.retired c.args.tag c.self.invariant
    (sym c.if-is_some.ensures) (sym c.if-is_excluded.ensures) c.args.self.now c.self.view_is))
    none)

pub returns-then-is_some-clause-collected : goal.returns-then-is_some-clause-collected
returns-then-is_some-clause-collected c = subst IsCollected c.self.view_is c.self.invariant.collected

pub returns-in-Some-clause-collected : goal.returns-in-Some-clause-collected
returns-in-Some-clause-collected c = subst IsCollected c.self.view_is c.self.invariant.collected

pub returns-in-None-clause-collected : goal.returns-in-None-clause-collected
returns-in-None-clause-collected c = subst IsCollected c.self.view_is c.self.invariant.collected
