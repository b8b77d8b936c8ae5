use Rattle.history.proofs.certificate.check.Goals as goal

pub is_sequence-requires : goal.is_sequence-requires
is_sequence-requires c = c.are_lawful.ensures.0 c.if-are_lawful.true

pub returns-then-are_lawful : goal.returns-then-are_lawful
returns-then-are_lawful c = (
  (λ t. (c.are_lawful.ensures.0 c.if-are_lawful.true, c.is_sequence.ensures.0 t)),
  (λ both. c.is_sequence.ensures.1 both.1),
)
