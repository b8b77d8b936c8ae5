use Rattle.std.proofs.Common.{arith, rules}
use Rattle.std.proofs.lemmas.Grind.{common_steps}
use Rattle.mail.proofs.CallBoundLemmas.{bounds_append}
use Rattle.mail.proofs.mail.Mail.repeat.Goals as goal

pub invariant_of-self-2 : goal.invariant_of-self-2
invariant_of-self-2 c = record {
  within = grind (arith, common_steps);
  bounded =
      rw (c.push_reserved.ensures.items, c.in_ok-reserve.ensures.items, c.in_ok-add_bounds.ensures.added, c.from_ref-2.ensures.value)
      (bounds_append 0 c.self.inside.messages.items c.self.inside.bounds.items _ c.self.invariant.bounded);
  sum = grind (arith, common_steps);
}

pub returns-clause-posted : goal.returns-clause-posted
returns-clause-posted c = search rules
