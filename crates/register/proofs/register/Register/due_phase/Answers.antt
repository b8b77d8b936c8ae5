use Rattle.std.proofs.lemmas.Grind.{elements}
use Rattle.std.proofs.Common.{refl, sym, ◌∙◌, arith}
use Rattle.register.proofs.AdvanceLemmas.{stage_below, due_read, due_refused, due_past, due_nothing, tell_wants, tell_due}
use Rattle.register.proofs.FoundCallLemmas.{is_found, again, wanting, below_those, few_those, seen_at}
use Rattle.register.proofs.register.Register.due_phase.Goals as goal

pub want_of-requires : goal.want_of-requires
want_of-requires c =
    let f = is_found c.self.invariant c.in_ok-index.ensures.place c.deref.ensures.value c.index-tracked.ensures in
    record { below = below_those f c.deref-2.ensures.value; count = few_those c.self.invariant c.deref-2.ensures.value }

pub returns-then-not-wants_due-clause-cause : goal.returns-then-not-wants_due-clause-cause
returns-then-not-wants_due-clause-cause c =
    let f = is_found c.self.invariant c.in_ok-index.ensures.place c.deref.ensures.value c.index-tracked.ensures in
    let w = wanting f c.want_of.ensures c.deref-2.ensures.value refl in
    rw (← c.self.view_is) (due_refused c.args.anew w c.args.now (sym c.wants_due.ensures ∙ c.if-not-wants_due.true))

pub returns-then-now-gt-MOST_STEPS-clause-cause : goal.returns-then-now-gt-MOST_STEPS-clause-cause
returns-then-now-gt-MOST_STEPS-clause-cause c =
    let f = is_found c.self.invariant c.in_ok-index.ensures.place c.deref.ensures.value c.index-tracked.ensures in
    let w = wanting f c.want_of.ensures c.deref-2.ensures.value refl in
    rw (← c.self.view_is)
    (due_past c.args.anew w c.args.now (sym c.wants_due.ensures ∙ c.if-not-wants_due.false) c.if-now-gt-MOST_STEPS.true)

pub returns-in_default-clause-cause : goal.returns-in_default-clause-cause
returns-in_default-clause-cause c =
    let f = is_found c.self.invariant c.in_ok-index.ensures.place c.deref.ensures.value c.index-tracked.ensures in
    let none = due_read f c.index-tracked.ensures c.stage.ensures c.begun_at.ensures c.in_default.ensures refl in
    rw (← c.self.view_is) (due_nothing c.args.anew f c.args.now none)

pub due-requires : goal.due-requires
due-requires c =
    let f = is_found c.self.invariant c.in_ok-index.ensures.place c.deref.ensures.value c.index-tracked.ensures in
    stage_below (again f c.index-tracked.ensures) c.stage.ensures c.begun_at.ensures

pub returns-clause-place : goal.returns-clause-place
returns-clause-place c = seen_at c.self.invariant c.self.view_is c.deref.ensures.value c.in_ok-index.ensures.place

pub returns-clause-wants : goal.returns-clause-wants
returns-clause-wants c =
    let f = is_found c.self.invariant c.in_ok-index.ensures.place c.deref.ensures.value c.index-tracked.ensures in
    let w = wanting f c.want_of.ensures c.deref-2.ensures.value refl in
    rw (← c.self.view_is) (tell_wants c.args.anew w (sym c.wants_due.ensures ∙ c.if-not-wants_due.false))

pub returns-clause-due : goal.returns-clause-due
returns-clause-due c =
    let f = is_found c.self.invariant c.in_ok-index.ensures.place c.deref.ensures.value c.index-tracked.ensures in
    rw (← c.self.view_is)
    (tell_due f (due_read f c.index-tracked.ensures c.stage.ensures c.begun_at.ensures c.due.ensures c.in-Some.is))

pub returns-in_err-index-clause-cause : goal.returns-in_err-index-clause-cause
returns-in_err-index-clause-cause c = grind (arith, elements)
