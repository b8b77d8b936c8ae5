use Rattle.std.proofs.Common.{◌≡◌, length, set, refl, sym, ap, ◌∙◌, arith}
use Rattle.std.proofs.lemmas.Grind.{common_steps}
use Rattle.std.proofs.lemmas.Option.{slice_get_read}
use Rattle.mail.specs.declared.message.Message.{Message}
use Rattle.mail.specs.Mail.{replied_message}
use Rattle.mail.proofs.CallBoundLemmas.{bounds_set}
use Rattle.mail.proofs.mail.Mail.reply_in_place.Goals as goal

pub invariant_of-self : goal.invariant_of-self
invariant_of-self c =
    let same : length c.self.inside.messages.items ≡ length c.args.self.now = ap length c.self.view_is in
    record {
      within = grind (arith, common_steps);
      bounded =
          bounds_set 0 c.self.inside.messages.items c.self.inside.bounds.items c.args.place c.index_mut-message.result.now
          c.answer.new.self
          (slice_get_read c.self.inside.messages.items (length c.self.inside.messages.items) c.args.place c.index_mut-message.result.now
          refl (omega arith) c.index_mut-message.ensures.value)
          (ap (λ (m : Message). m.call) c.answer.ensures) c.self.invariant.bounded;
      sum = grind (arith, common_steps);
    }

pub returns : goal.returns
returns c =
    let same : length c.self.inside.messages.items ≡ length c.args.self.now = ap length c.self.view_is in
    let at = slice_get_read c.self.inside.messages.items (length c.self.inside.messages.items) c.args.place c.index_mut-message.result.now
    refl (omega arith) c.index_mut-message.ensures.value in
    rw (← c.self.view_is)
    (ap (set c.self.inside.messages.items c.args.place) c.answer.ensures
    ∙ ap (replied_message c.self.inside.messages.items c.args.place c.args.reply) (sym at))
