use Rattle.std.proofs.Common.{length, sym, ap, ◌∙◌, arith}
use Rattle.register.proofs.FoundCallLemmas.{is_found, below_those, few_those, seen_at}
use Rattle.register.proofs.SentPieceLemmas.{sending, position_there, none_sent, layout_there}
use Rattle.register.proofs.SuppliedPieceLemmas.{supplied, unsent_is, past_full, wrong_is, none_of, tell_sends}
use Rattle.register.proofs.register.Register.supplied_call.Goals as goal

pub pieces_position-requires : goal.pieces_position-requires
pieces_position-requires c =
    let f = is_found c.self.invariant c.in_ok-index.ensures.place c.deref.ensures.value c.index-tracked.ensures in
    record { count = few_those c.self.invariant c.deref-2.ensures.value; below = below_those f c.deref-2.ensures.value }

pub returns-in_default-clause-cause : goal.returns-in_default-clause-cause
returns-in_default-clause-cause c =
    let f = is_found c.self.invariant c.in_ok-index.ensures.place c.deref.ensures.value c.index-tracked.ensures in
    rw (← c.self.view_is) (unsent_is (none_sent f c.in_default.ensures) c.args.coded.now c.args.now)

pub returns-in_default-pieces_position-clause-cause : goal.returns-in_default-pieces_position-clause-cause
returns-in_default-pieces_position-clause-cause c =
    let f = is_found c.self.invariant c.in_ok-index.ensures.place c.deref.ensures.value c.index-tracked.ensures in
    let none = none_of c.pieces_position.result c.in_default-pieces_position.not-Some in
    let s = sending f c.pieces_position.ensures c.deref-2.ensures.value none in
    rw (← c.self.view_is) (unsent_is s c.args.coded.now c.args.now)

pub index-requires : goal.index-requires
index-requires c =
    let f = is_found c.self.invariant c.in_ok-index.ensures.place c.deref.ensures.value c.index-tracked.ensures in
    let s = sending f c.pieces_position.ensures c.deref-2.ensures.value c.in-Some-pieces_position.is in
    omega (arith, position_there s, c.deref-2.ensures.len, ap length c.deref-2.ensures.value)

pub returns-then-not-is_coded_for-clause-cause : goal.returns-then-not-is_coded_for-clause-cause
returns-then-not-is_coded_for-clause-cause c =
    let f = is_found c.self.invariant c.in_ok-index.ensures.place c.deref.ensures.value c.index-tracked.ensures in
    let s = sending f c.pieces_position.ensures c.deref-2.ensures.value c.in-Some-pieces_position.is in
    let placed = layout_there s c.index.ensures c.layout-layout.ensures in
    let wrong = sym c.is_coded_for.ensures ∙ c.if-not-is_coded_for.true in
    rw (← c.self.view_is) (wrong_is s placed c.in-Some.ensures c.args.coded.now c.args.now wrong)

pub returns-then-now-gt-MOST_STEPS-clause-cause : goal.returns-then-now-gt-MOST_STEPS-clause-cause
returns-then-now-gt-MOST_STEPS-clause-cause c =
    let f = is_found c.self.invariant c.in_ok-index.ensures.place c.deref.ensures.value c.index-tracked.ensures in
    let s = sending f c.pieces_position.ensures c.deref-2.ensures.value c.in-Some-pieces_position.is in
    let p = supplied s c.index.ensures c.layout-layout.ensures c.in-Some.ensures c.is_coded_for.ensures c.if-not-is_coded_for.false in
    rw (← c.self.view_is) (past_full p c.args.now c.if-now-gt-MOST_STEPS.true)

pub returns-clause-place : goal.returns-clause-place
returns-clause-place c = seen_at c.self.invariant c.self.view_is c.deref.ensures.value c.in_ok-index.ensures.place

pub returns-clause-sends : goal.returns-clause-sends
returns-clause-sends c =
    let f = is_found c.self.invariant c.in_ok-index.ensures.place c.deref.ensures.value c.index-tracked.ensures in
    let s = sending f c.pieces_position.ensures c.deref-2.ensures.value c.in-Some-pieces_position.is in
    let p = supplied s c.index.ensures c.layout-layout.ensures c.in-Some.ensures c.is_coded_for.ensures c.if-not-is_coded_for.false in
    rw (← c.self.view_is) (tell_sends p)
