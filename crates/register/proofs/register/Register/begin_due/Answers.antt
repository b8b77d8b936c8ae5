use Rattle.std.proofs.lemmas.Grind.{common_steps}
use Rattle.std.proofs.Common.{◌∙◌, arith}
use Rattle.register.proofs.AdvanceLemmas.{as_told, due_there, needs_none, beginning}
use Rattle.register.proofs.BeginPhaseLemmas.{begin_room, begin_cause, begin_step, begin_kept}
use Rattle.register.proofs.FoundCallLemmas.{found_at, wants_now}
use Rattle.register.proofs.RoomLemmas.{by_cause, same_cause}
use Rattle.register.proofs.register.Register.begin_due.Goals as goal

pub index-requires : goal.index-requires
index-requires c =
    let f = found_at c.self.invariant c.self.view_is c.in_ok-index.ensures.place c.index_mut.ensures.value in
    let d = as_told c.args.anew f c.self.view_is c.in_ok-index.ensures.wants c.in_ok-index.ensures.due in
    let there = due_there f d.1 in omega (arith, there)

pub begin_next-requires : goal.begin_next-requires
begin_next-requires c =
    let f = found_at c.self.invariant c.self.view_is c.in_ok-index.ensures.place c.index_mut.ensures.value in
    let d = as_told c.args.anew f c.self.view_is c.in_ok-index.ensures.wants c.in_ok-index.ensures.due in
    let b = beginning c.args.anew (wants_now f) d.0 d.1 c.index.ensures c.layout.ensures c.index_mut.ensures.value in
    record {
      pieces = needs_none c.args.anew (wants_now f) d.0 d.1 _;
      room = begin_room b c.args.now c.self.view_is c.requires.after;
    }

pub invariant_of-self-2 : goal.invariant_of-self-2
invariant_of-self-2 c =
    let f = found_at c.self.invariant c.self.view_is c.in_ok-index.ensures.place c.index_mut.ensures.value in
    let d = as_told c.args.anew f c.self.view_is c.in_ok-index.ensures.wants c.in_ok-index.ensures.due in
    let b = beginning c.args.anew (wants_now f) d.0 d.1 c.index.ensures c.layout.ensures c.index_mut.ensures.value in
    begin_kept b c.args.now c.in_ok-begin_next.ensures.mail c.in_ok-begin_next.ensures.call c.self.view_is c.requires.after
    c.in_ok-begin_next.ensures.cause

pub returns : goal.returns
returns c =
    let f = found_at c.self.invariant c.self.view_is c.in_ok-index.ensures.place c.index_mut.ensures.value in
    let d = as_told c.args.anew f c.self.view_is c.in_ok-index.ensures.wants c.in_ok-index.ensures.due in
    let b = beginning c.args.anew (wants_now f) d.0 d.1 c.index.ensures c.layout.ensures c.index_mut.ensures.value in
    record {
      step = rw (← c.self.view_is) (begin_step b c.args.now c.in_ok-begin_next.ensures.mail c.in_ok-begin_next.ensures.call);
      cause = rw (← c.self.view_is) (begin_cause b c.args.now c.in_ok-index.ensures.within ∙ c.in_ok-begin_next.ensures.cause);
      unchanged = tt;
    }

pub returns-in_err-begin_next-clause-cause : goal.returns-in_err-begin_next-clause-cause
returns-in_err-begin_next-clause-cause c =
    let f = found_at c.self.invariant c.self.view_is c.in_ok-index.ensures.place c.index_mut.ensures.value in
    let d = as_told c.args.anew f c.self.view_is c.in_ok-index.ensures.wants c.in_ok-index.ensures.due in
    let b = beginning c.args.anew (wants_now f) d.0 d.1 c.index.ensures c.layout.ensures c.index_mut.ensures.value in
    same_cause _ c.from_residual-in_err-begin_next.result _ c.from_residual-in_err-begin_next.ensures.1
    (rw (← c.self.view_is) (by_cause (begin_cause b c.args.now c.in_ok-index.ensures.within) c.in_err-begin_next.ensures.cause))

pub invariant_of-self : goal.invariant_of-self
invariant_of-self c = grind (arith, common_steps)

pub returns-in_err-begin_next-clause-unchanged : goal.returns-in_err-begin_next-clause-unchanged
returns-in_err-begin_next-clause-unchanged c = grind (arith, common_steps)
