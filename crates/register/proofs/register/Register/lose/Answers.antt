use Rattle.std.proofs.lemmas.Grind.{elements}
use Rattle.std.proofs.Common.{◌<◌, length, sym, subst, arith}
use Rattle.register.specs.Kept.{IsKept}
use Rattle.register.proofs.FoundCallLemmas.{later}
use Rattle.register.proofs.LoseAndRepeatLemmas.{losing_keeps}
use Rattle.register.proofs.StepInvariantLemmas.{contents_of}
use Rattle.register.proofs.register.Register.lose.Goals as goal

pub invariant_of-self : goal.invariant_of-self
invariant_of-self c =
    let o = contents_of c.self.inside in
    let after = later o c.self.view_is c.requires.after in
    let within : c.args.place < length o.mail = omega (arith, c.len.ensures.value, c.if-len-place.false) in
    subst (λ ms. IsKept (record o { mail = ms; last = c.args.now })) (sym c.lose.ensures)
    (losing_keeps o c.args.place c.args.now after c.self.invariant within)

pub returns-then-len-place-clause-cause : goal.returns-then-len-place-clause-cause
returns-then-len-place-clause-cause c = grind (arith, elements)

pub returns-then-now-gt-MOST_STEPS-clause-cause : goal.returns-then-now-gt-MOST_STEPS-clause-cause
returns-then-now-gt-MOST_STEPS-clause-cause c = grind (arith, elements)

pub returns-clause-cause : goal.returns-clause-cause
returns-clause-cause c = grind (arith, elements)
