use Rattle.std.proofs.Common.{◌≡◌, ◌+◌, length, slice_get}
use Rattle.std.specs.Option.{option_or}
use Rattle.driver.specs.Choices.{choices_from}
use Rattle.driver.proofs.choices.count_choices.Given as goal

-- how many are counted with those that are left, and the first of all
abbrev pub invariant-loop-place : goal.invariant-loop-place
invariant-loop-place l = record {
  all : l.count + length (choices_from l.cluster l.register.object l.filter l.place)
      ≡ length (choices_from l.cluster l.register.object l.filter l.from);
  least : option_or l.first (slice_get (choices_from l.cluster l.register.object l.filter l.place) 0)
      ≡ slice_get (choices_from l.cluster l.register.object l.filter l.from) 0;
}
