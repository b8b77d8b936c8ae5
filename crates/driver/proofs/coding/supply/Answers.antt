use Rattle.driver.proofs.coding.supply.Goals as goal

pub supply_value-requires-clause-value : goal.supply_value-requires-clause-value
supply_value-requires-clause-value c = c.in_ok-value.ensures.value

pub returns-clause-step : goal.returns-clause-step
returns-clause-step c = c.supply_value.ensures.step

pub returns-clause-may : goal.returns-clause-may
returns-clause-may c = c.supply_value.ensures.may

pub returns-clause-cause : goal.returns-clause-cause
returns-clause-cause c = c.supply_value.ensures.cause
