use Rattle.std.proofs.Common.{inr, ap, subst, sym, ◌∙◌, Some}
use Rattle.locked_steps.specs.Rounds.{Copies, GoesNot}
use Rattle.locked_steps.proofs.ChosenMessageLemmas.{err_match}
use Rattle.locked_steps.proofs.RoundLemmas.{copies, memory_refused}
use Rattle.locked_steps.proofs.rounds.round_with_copy.Goals as goal

pub returns-in_err-copy-clause-cause : goal.returns-in_err-copy-clause-cause
returns-in_err-copy-clause-cause g c =
    let r = c.in_err-copy.ensures.refused in
    err_match _ _ _ _ c.from_residual-in_err-copy.ensures.1
    (inr (
      c.in_ok-want.ensures.cause,
      subst (λ h. GoesNot g.C.Chooser.chooses c.args.name.now c.args.call h c.args.asks_again c.args.cluster.now c.args.chooser.now
          c.args.chooser.now c.in_err-copy.field-0.0) (sym r.1.1.0)
          (memory_refused g.C.Chooser.chooses c.args.name.now c.args.call c.args.cluster.now c.args.asks_again c.args.chooser.now
          c.in_err-copy.field-0.0
          (c.in_ok-want.ensures.want ∙ ap Some r.1.0) r.1.1.1 r.0),
    ))

pub returns-clause-copy : goal.returns-clause-copy
returns-clause-copy g c =
    subst (λ v. Copies c.args.cluster.now c.args.call c.in_ok-round.round v) (sym c.kept_value-copy.ensures)
    (copies g.C.Chooser.chooses c.args.name.now c.args.call c.args.asks_again c.args.cluster.now c.args.chooser.now c.round_with.new.cluster
    c.round_with.new.chooser c.args.hand
    c.in_ok-round.round c.in_ok-want.want c.in_ok-copy.copy c.in_ok-round.ensures.steps c.in_ok-want.ensures.want c.in_ok-copy.ensures.value
    c.past_calls_at_end.ensures
    c.invariant.ensures.1.1.few_steps)
