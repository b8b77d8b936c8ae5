use Rattle.std.proofs.Common.{Some, refl, ap, ◌∙◌, inl, inr}
use Rattle.driver.proofs.driver.why_unfinished.Goals as goal

pub returns-in-Done : goal.returns-in-Done
returns-in-Done c = inl (refl, c.in-Ok.ensures.want ∙ ap Some c.in-Done.is)

pub returns-in_default : goal.returns-in_default
returns-in_default c = inr (inl (refl, (c.in-Ok.want, c.in-Ok.ensures.want, c.in_default.not-Done)))

pub returns-in-Err : goal.returns-in-Err
returns-in-Err c = inr (inr c.in-Err.ensures.cause)
