use Rattle.std.proofs.Common.{◌≡◌, slice_get}
use Rattle.driver.specs.Choices.{choices_from}
use Rattle.driver.proofs.choices.choice_at.Given as goal

abbrev pub invariant-loop-place : goal.invariant-loop-place
invariant-loop-place l =
    slice_get (choices_from l.cluster l.register.object l.filter l.place) l.left
    ≡ slice_get (choices_from l.cluster l.register.object l.filter l.from) l.skipped
