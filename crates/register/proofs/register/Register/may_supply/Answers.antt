use Rattle.std.proofs.lemmas.Grind.{elements}
use Rattle.std.proofs.Common.{length, Option, sym, ap, subst, arith}
use Rattle.tag.specs.declared.refusal.Refusal.{Refusal}
use Rattle.tag.specs.Refusal.{IsExactlyByCause}
use Rattle.register.proofs.FoundCallLemmas.{is_found, below_those, few_those}
use Rattle.register.proofs.SentPieceLemmas.{sending, position_there}
use Rattle.register.proofs.SuppliedPieceLemmas.{none_of}
use Rattle.register.proofs.SupplyPermissionLemmas.{or_wrong, permitted_is, past_permitted, permits_begin, permits_asking}
use Rattle.register.proofs.register.Register.may_supply.Goals as goal

pub pieces_position-requires : goal.pieces_position-requires
pieces_position-requires c =
    let f = is_found c.self.invariant c.in_ok-index.ensures.place c.deref.ensures.value c.index-tracked.ensures in
    record { count = few_those c.self.invariant c.deref-2.ensures.value; below = below_those f c.deref-2.ensures.value }

pub index-requires : goal.index-requires
index-requires c =
    let f = is_found c.self.invariant c.in_ok-index.ensures.place c.deref.ensures.value c.index-tracked.ensures in
    let s = sending f c.pieces_position.ensures c.deref-2.ensures.value c.in-Some.is in
    omega (arith, position_there s, c.deref-2.ensures.len, ap length c.deref-2.ensures.value)

pub returns-in_default : goal.returns-in_default
returns-in_default c =
    let f = is_found c.self.invariant c.in_ok-index.ensures.place c.deref.ensures.value c.index-tracked.ensures in
    let s = sending f c.pieces_position.ensures c.deref-2.ensures.value (none_of c.pieces_position.result c.in_default.not-Some) in
    record {
      cause = rw (← c.self.view_is) (permitted_is s c.args.now);
      coded = or_wrong c.args.now c.args.self.now.object c.args.call;
    }

pub returns-then-now-gt-MOST_STEPS : goal.returns-then-now-gt-MOST_STEPS
returns-then-now-gt-MOST_STEPS c =
    let f = is_found c.self.invariant c.in_ok-index.ensures.place c.deref.ensures.value c.index-tracked.ensures in
    let s = sending f c.pieces_position.ensures c.deref-2.ensures.value c.in-Some.is in
    record {
      cause = rw (← c.self.view_is) (past_permitted s c.args.now c.if-now-gt-MOST_STEPS.true);
      coded = or_wrong c.args.now c.args.self.now.object c.args.call;
    }

pub returns-then-complete : goal.returns-then-complete
returns-then-complete c =
    let f = is_found c.self.invariant c.in_ok-index.ensures.place c.deref.ensures.value c.index-tracked.ensures in
    let s = sending f c.pieces_position.ensures c.deref-2.ensures.value c.in-Some.is in
    let is = permits_begin s c.index.ensures c.layout.ensures c.args.now c.if-now-gt-MOST_STEPS.false c.self.view_is c.requires.after
    c.can_begin.result c.current.ensures c.complete.ensures.value c.if-complete.true c.n-members.ensures.value c.can_begin.ensures in
    record {
      cause = rw (← c.self.view_is)
          (subst (λ (cause : Option Refusal). IsExactlyByCause cause c.full_unless.result) (sym is) c.full_unless.ensures);
      coded = or_wrong c.args.now c.args.self.now.object c.args.call;
    }

pub returns-else-complete : goal.returns-else-complete
returns-else-complete c =
    let f = is_found c.self.invariant c.in_ok-index.ensures.place c.deref.ensures.value c.index-tracked.ensures in
    let s = sending f c.pieces_position.ensures c.deref-2.ensures.value c.in-Some.is in
    let is = permits_asking s c.index.ensures c.layout.ensures c.args.now c.if-now-gt-MOST_STEPS.false c.self.view_is c.requires.after
    c.can_ask_again.result c.current.ensures c.complete.ensures.value c.if-complete.false c.can_ask_again.ensures in
    record {
      cause = rw (← c.self.view_is)
          (subst (λ (cause : Option Refusal). IsExactlyByCause cause c.full_unless-else-complete.result) (sym is)
          c.full_unless-else-complete.ensures);
      coded = or_wrong c.args.now c.args.self.now.object c.args.call;
    }

pub returns-in_err-index-clause-cause : goal.returns-in_err-index-clause-cause
returns-in_err-index-clause-cause c = grind (arith, elements)

pub returns-in_err-index-clause-coded : goal.returns-in_err-index-clause-coded
returns-in_err-index-clause-coded c = grind (arith, elements)
