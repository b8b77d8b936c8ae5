use Rattle.std.proofs.Common.{sym, ◌∙◌, refl}
use Rattle.tag.specs.declared.refusal.Refusal.TheVariants.{NotNow, Collected}
use Rattle.register.proofs.FoundCallLemmas.{is_found, wanting, below_those, few_those, current_again, not_settle, seen_at}
use Rattle.register.proofs.SettleLemmas.{settle_refused, settle_wrong, settle_none, settle_past, told}
use Rattle.register.proofs.register.Register.settling_call.Goals as goal

pub want_of-requires : goal.want_of-requires
want_of-requires c =
    let f = is_found c.self.invariant c.in_ok-index.ensures.place c.deref.ensures.value c.index.ensures in
    record { count = few_those c.self.invariant c.deref-2.ensures.value; below = below_those f c.deref-2.ensures.value }

pub returns-in_default : goal.returns-in_default
returns-in_default c =
    let f = is_found c.self.invariant c.in_ok-index.ensures.place c.deref.ensures.value c.index.ensures in
    let w = wanting f c.want_of.ensures c.deref-2.ensures.value refl in
    record {
      place = tt;
      decoded = tt;
      cause = rw (← c.self.view_is) (settle_refused w c.args.decoded.now c.args.now NotNow
          (λ later. not_settle c.want_of.result later c.in_default.not-Settle c.in_default.not-Again));
    }

pub returns-in-Again : goal.returns-in-Again
returns-in-Again c =
    let f = is_found c.self.invariant c.in_ok-index.ensures.place c.deref.ensures.value c.index.ensures in
    let w = wanting f c.want_of.ensures c.deref-2.ensures.value c.in-Again.is in
    record {
      place = tt;
      decoded = tt;
      cause = rw (← c.self.view_is) (settle_refused w c.args.decoded.now c.args.now Collected (λ later. refl));
    }

pub returns-then-not-is_decoded_from-clause-cause : goal.returns-then-not-is_decoded_from-clause-cause
returns-then-not-is_decoded_from-clause-cause c =
    let f = is_found c.self.invariant c.in_ok-index.ensures.place c.deref.ensures.value c.index.ensures in
    let w = wanting f c.want_of.ensures c.deref-2.ensures.value c.in-Settle.is in
    let wrong = sym (told c.in-Settle.k c.args.decoded.now c.is_decoded_from.ensures.value c.replies.ensures)
    ∙ c.if-not-is_decoded_from.true in
    rw (← c.self.view_is) (settle_wrong w (current_again f c.index-2.ensures c.current-phase.ensures) c.args.decoded.now c.args.now wrong)

pub returns-then-now-gt-MOST_STEPS-clause-cause : goal.returns-then-now-gt-MOST_STEPS-clause-cause
returns-then-now-gt-MOST_STEPS-clause-cause c =
    let f = is_found c.self.invariant c.in_ok-index.ensures.place c.deref.ensures.value c.index.ensures in
    let w = wanting f c.want_of.ensures c.deref-2.ensures.value c.in-Settle.is in
    let right = sym (told c.in-Settle.k c.args.decoded.now c.is_decoded_from.ensures.value c.replies.ensures)
    ∙ c.if-not-is_decoded_from.false in
    rw (← c.self.view_is)
    (settle_past w (current_again f c.index-2.ensures c.current-phase.ensures) c.args.decoded.now c.args.now right
    c.if-now-gt-MOST_STEPS.true)

pub returns-clause-cause : goal.returns-clause-cause
returns-clause-cause c =
    let f = is_found c.self.invariant c.in_ok-index.ensures.place c.deref.ensures.value c.index.ensures in
    let w = wanting f c.want_of.ensures c.deref-2.ensures.value c.in-Settle.is in
    let right = sym (told c.in-Settle.k c.args.decoded.now c.is_decoded_from.ensures.value c.replies.ensures)
    ∙ c.if-not-is_decoded_from.false in
    rw (← c.self.view_is)
    (settle_none w (current_again f c.index-2.ensures c.current-phase.ensures) c.args.decoded.now c.args.now right
    c.if-now-gt-MOST_STEPS.false)

pub returns-clause-place : goal.returns-clause-place
returns-clause-place c = seen_at c.self.invariant c.self.view_is c.deref.ensures.value c.in_ok-index.ensures.place
