use Rattle.driver.proofs.round.hand_out_value.Goals as goal

pub returns-clause-value : goal.returns-clause-value
returns-clause-value c = c.in_ok-value.ensures.value
