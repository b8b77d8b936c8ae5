use Rattle.std.proofs.Common.{◌≡◌, ◌-◌, sym, ◌∙◌, arith}
use Rattle.register.proofs.RetireLemmas.{base_refused, left_is, other_refused, retire_free, retire_past}
use Rattle.register.proofs.StepInvariantLemmas.{base_within}
use Rattle.register.proofs.register.Register.may_retire.Goals as goal

pub returns-then-position-from : goal.returns-then-position-from
returns-then-position-from c = record {
  cause = rw (← c.self.view_is) (other_refused _ c.self.invariant c.args.position c.args.now
      (λ same. let is = c.from.ensures in let other = c.if-position-from.true in omega (arith, same, is, other)));
}

pub overflow_sub-behind-2 : goal.overflow_sub-behind-2
overflow_sub-behind-2 c = let within = base_within _ c.self.invariant in omega (arith, within, c.len.ensures)

pub returns-then-not-is_left : goal.returns-then-not-is_left
returns-then-not-is_left c =
    let within = base_within _ c.self.invariant in
    let is = c.from.ensures in
    let here = c.if-position-from.false in
    let same : c.args.position ≡ c.self.inside.base = omega (arith, is, here) in
    let left = left_is _ c.self.invariant (c.len.result - 1 - c.self.inside.base) (omega (arith, within, c.len.ensures)) in
    record {
      cause = rw (← c.self.view_is)
          (base_refused _ c.self.invariant c.args.position c.args.now same (left ∙ sym c.is_left.ensures ∙ c.if-not-is_left.true));
    }

pub returns-then-now-gt-MOST_STEPS : goal.returns-then-now-gt-MOST_STEPS
returns-then-now-gt-MOST_STEPS c =
    let within = base_within _ c.self.invariant in
    let is = c.from.ensures in
    let here = c.if-position-from.false in
    let same : c.args.position ≡ c.self.inside.base = omega (arith, is, here) in
    let left = left_is _ c.self.invariant (c.len.result - 1 - c.self.inside.base) (omega (arith, within, c.len.ensures)) in
    record {
      cause = rw (← c.self.view_is)
          (retire_past _ c.self.invariant c.args.position c.args.now same (left ∙ sym c.is_left.ensures ∙ c.if-not-is_left.false)
          c.if-now-gt-MOST_STEPS.true);
    }

pub returns : goal.returns
returns c =
    let within = base_within _ c.self.invariant in
    let is = c.from.ensures in
    let here = c.if-position-from.false in
    let same : c.args.position ≡ c.self.inside.base = omega (arith, is, here) in
    let left = left_is _ c.self.invariant (c.len.result - 1 - c.self.inside.base) (omega (arith, within, c.len.ensures)) in
    record {
      cause = rw (← c.self.view_is)
          (retire_free _ c.self.invariant c.args.position c.args.now same (left ∙ sym c.is_left.ensures ∙ c.if-not-is_left.false)
          c.if-now-gt-MOST_STEPS.false);
    }
