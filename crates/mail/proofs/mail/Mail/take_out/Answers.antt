use Rattle.std.proofs.Common.{◌≡◌, length, refl, ap, arith}
use Rattle.std.proofs.lemmas.Grind.{common_steps}
use Rattle.std.proofs.lemmas.Option.{slice_get_read}
use Rattle.mail.proofs.CallBoundLemmas.{bounds_count, bounds_remove}
use Rattle.mail.proofs.mail.Mail.take_out.Goals as goal

pub remove-requires : goal.remove-requires
remove-requires c =
    let same : length c.self.inside.messages.items ≡ length c.args.self.now = ap length c.self.view_is in
    let count = bounds_count 0 c.self.inside.messages.items c.self.inside.bounds.items c.self.invariant.bounded in
    let ok = c.self.inside.bounds.ok.0 in
    omega arith

pub invariant_of-self : goal.invariant_of-self
invariant_of-self c = record {
  within = grind (arith, common_steps);
  bounded =
      rw (c.remove-2.ensures.items, c.remove.ensures.items)
      (bounds_remove 0 c.self.inside.messages.items c.self.inside.bounds.items c.args.place c.self.invariant.bounded);
  sum = grind (arith, common_steps);
}

pub returns-clause-message : goal.returns-clause-message
returns-clause-message c =
    rw (← c.self.view_is)
    (slice_get_read c.self.inside.messages.items (length c.self.inside.messages.items) c.args.place c.remove-2.result refl
    (let same : length c.self.inside.messages.items ≡ length c.args.self.now = ap length c.self.view_is in omega arith)
    c.remove-2.ensures.value)
