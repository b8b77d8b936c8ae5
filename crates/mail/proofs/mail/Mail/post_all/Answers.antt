use Rattle.std.proofs.Common.{arith}
use Rattle.std.proofs.lemmas.Grind.{common_steps}
use Rattle.mail.proofs.CallBoundLemmas.{bounds_append}
use Rattle.mail.proofs.mail.Mail.post_all.Goals as goal

pub invariant_of-self-2 : goal.invariant_of-self-2
invariant_of-self-2 c = record {
  within = grind (arith, common_steps);
  bounded =
      rw (c.in_ok-append.ensures.items, c.in_ok-reserve.ensures.items, c.in_ok-add_bounds.ensures.added, c.deref-3.ensures.value)
      (bounds_append 0 c.self.inside.messages.items c.self.inside.bounds.items c.args.messages.items c.self.invariant.bounded);
  sum = grind (arith, common_steps);
}
