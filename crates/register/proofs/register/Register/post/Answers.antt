use Rattle.std.proofs.lemmas.Grind.{common_steps, elements}
use Rattle.std.proofs.Common.{ap, ◌∙◌, inl, refl, ◌≡◌, Option, None, arith}
use Rattle.tag.specs.Cause.{IsRefusalBy}
use Rattle.tag.specs.declared.refusal.Refusal.{Refusal}
use Rattle.register.specs.Coding.{is_pre_write}
use Rattle.register.proofs.AskAgainLemmas.{again_room, again_by, again_step, again_kept}
use Rattle.register.proofs.FoundCallLemmas.{is_found, wanting, below_those, few_those, current_again}
use Rattle.register.proofs.PostLemmas.{post_refused, post_pieces, post_past, posting}
use Rattle.register.proofs.RoomLemmas.{same_cause}
use Rattle.register.proofs.register.Register.post.Goals as goal

pub want_of-requires : goal.want_of-requires
want_of-requires c =
    let f = is_found c.self.invariant c.in_ok-index.ensures.place c.deref.ensures.value c.index.ensures in
    record { below = below_those f c.deref-2.ensures.value; count = few_those c.self.invariant c.deref-2.ensures.value }

pub returns-in_default : goal.returns-in_default
returns-in_default c =
    let f = is_found c.self.invariant c.in_ok-index.ensures.place c.deref.ensures.value c.index.ensures in
    let w = wanting f c.want_of.ensures c.deref-2.ensures.value refl in
    record {
      step = tt;
      cause = inl (rw (← c.self.view_is) (post_refused w c.args.now c.in_default.not-Replies));
      unchanged = refl;
    }

pub returns-then-is_pre_write-clause-cause : goal.returns-then-is_pre_write-clause-cause
returns-then-is_pre_write-clause-cause c =
    let f = is_found c.self.invariant c.in_ok-index.ensures.place c.deref.ensures.value c.index.ensures in
    let w = wanting f c.want_of.ensures c.deref-2.ensures.value c.in-Replies.is in
    let p = current_again f c.index-2.ensures c.current.ensures in
    let tested = c.is_pre_write.ensures ∙ ap is_pre_write c.kind.ensures in
    inl (rw (← c.self.view_is) (post_pieces w p tested c.args.now c.if-is_pre_write.true))

pub returns-then-now-gt-MOST_STEPS-clause-cause : goal.returns-then-now-gt-MOST_STEPS-clause-cause
returns-then-now-gt-MOST_STEPS-clause-cause c =
    let f = is_found c.self.invariant c.in_ok-index.ensures.place c.deref.ensures.value c.index.ensures in
    let w = wanting f c.want_of.ensures c.deref-2.ensures.value c.in-Replies.is in
    let p = current_again f c.index-2.ensures c.current.ensures in
    let tested = c.is_pre_write.ensures ∙ ap is_pre_write c.kind.ensures in
    inl (rw (← c.self.view_is)
    (post_past w p tested c.if-is_pre_write.false c.args.now c.if-now-gt-MOST_STEPS.true))

pub ask_again-requires-clause-room : goal.ask_again-requires-clause-room
ask_again-requires-clause-room c =
    let f = is_found c.self.invariant c.in_ok-index.ensures.place c.deref.ensures.value c.index.ensures in
    let w = wanting f c.want_of.ensures c.deref-2.ensures.value c.in-Replies.is in
    let p = current_again f c.index-2.ensures c.current.ensures in
    let tested = c.is_pre_write.ensures ∙ ap is_pre_write c.kind.ensures in
    let a = posting w p tested c.if-is_pre_write.false c.index-3.ensures in
    again_room a c.args.now c.self.view_is c.requires.after

pub invariant_of-self-2 : goal.invariant_of-self-2
invariant_of-self-2 c =
    let f = is_found c.self.invariant c.in_ok-index.ensures.place c.deref.ensures.value c.index.ensures in
    let w = wanting f c.want_of.ensures c.deref-2.ensures.value c.in-Replies.is in
    let p = current_again f c.index-2.ensures c.current.ensures in
    let tested = c.is_pre_write.ensures ∙ ap is_pre_write c.kind.ensures in
    let a = posting w p tested c.if-is_pre_write.false c.index-3.ensures in
    again_kept a c.args.now c.in_ok-ask_again.ensures.mail c.self.view_is c.requires.after

pub returns : goal.returns
returns c =
    let f = is_found c.self.invariant c.in_ok-index.ensures.place c.deref.ensures.value c.index.ensures in
    let w = wanting f c.want_of.ensures c.deref-2.ensures.value c.in-Replies.is in
    let p = current_again f c.index-2.ensures c.current.ensures in
    let tested = c.is_pre_write.ensures ∙ ap is_pre_write c.kind.ensures in
    let a = posting w p tested c.if-is_pre_write.false c.index-3.ensures in
    record {
      step = rw (← c.self.view_is) (again_step a c.args.now c.in_ok-ask_again.ensures.mail);
      cause = rw (← c.self.view_is)
          (again_by a c.args.now c.if-now-gt-MOST_STEPS.false (λ cause. cause ≡ None) c.in_ok-ask_again.ensures.cause);
      unchanged = tt;
    }

pub returns-in_err-ask_again-clause-cause : goal.returns-in_err-ask_again-clause-cause
returns-in_err-ask_again-clause-cause c =
    let f = is_found c.self.invariant c.in_ok-index.ensures.place c.deref.ensures.value c.index.ensures in
    let w = wanting f c.want_of.ensures c.deref-2.ensures.value c.in-Replies.is in
    let p = current_again f c.index-2.ensures c.current.ensures in
    let tested = c.is_pre_write.ensures ∙ ap is_pre_write c.kind.ensures in
    let a = posting w p tested c.if-is_pre_write.false c.index-3.ensures in
    let r = c.in_err-ask_again.field-0.0 in
    same_cause _ c.from_residual-in_err-ask_again.result _ c.from_residual-in_err-ask_again.ensures.1
    (rw (← c.self.view_is) (again_by a c.args.now c.if-now-gt-MOST_STEPS.false
    (λ (cause : Option Refusal). IsRefusalBy cause r) c.in_err-ask_again.ensures.cause))

pub returns-in_err-index-clause-cause : goal.returns-in_err-index-clause-cause
returns-in_err-index-clause-cause c = grind (arith, elements)

pub ask_again-requires-clause-pieces : goal.ask_again-requires-clause-pieces
ask_again-requires-clause-pieces c κs = grind (arith, common_steps)
