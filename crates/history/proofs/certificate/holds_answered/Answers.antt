use Rattle.std.proofs.Common.{sym, ◌∙◌, eq-eqb, eqb-true}
use Rattle.history.proofs.AnsweredCountLemmas.{holds_from_count, count_from_holds}
use Rattle.history.proofs.certificate.holds_answered.Goals as goal

pub returns : goal.returns
returns c = (
  (λ t.
      holds_from_count c.args.entries.now c.args.order.now c.requires.standing c.requires.distinct
      (sym c.answered_among.ensures ∙ eqb-true _ _ t ∙ c.answered_in.ensures)),
  (λ holds.
      eq-eqb _ _ (c.answered_among.ensures
      ∙ count_from_holds c.args.entries.now c.args.order.now c.requires.standing c.requires.distinct holds
      ∙ sym c.answered_in.ensures)),
)
