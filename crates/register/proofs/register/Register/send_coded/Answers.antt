use Rattle.std.proofs.lemmas.Grind.{common_steps}
use Rattle.std.proofs.Common.{None, ◌∙◌, ◌≡◌, Option, refl, arith}
use Rattle.tag.specs.Cause.{IsRefusalBy}
use Rattle.tag.specs.declared.refusal.Refusal.{Refusal}
use Rattle.register.proofs.AdvanceLemmas.{stage_near}
use Rattle.register.proofs.BeginPhaseLemmas.{begin_room, begin_cause, begin_step, begin_kept}
use Rattle.register.proofs.FoundCallLemmas.{found_at}
use Rattle.register.proofs.AskAgainLemmas.{again_pieces, again_room, again_by, again_step, again_kept}
use Rattle.register.proofs.RefusedStepLemmas.{as_it_was, on_error, written_back}
use Rattle.register.proofs.RoomLemmas.{by_cause, same_cause}
use Rattle.register.proofs.SentPieceLemmas.{position_there}
use Rattle.register.proofs.SuppliedPieceLemmas.{have_coded, members_are, none_of, sends_to, supplied_to, supplied_there}
use Rattle.register.proofs.SupplyStepLemmas.{beginning, asking}
use Rattle.register.proofs.register.Register.send_coded.Goals as goal

pub index-requires : goal.index-requires
index-requires c =
    let f = found_at c.self.invariant c.self.view_is c.in_ok-index.ensures.place c.index-tracked.ensures in
    let there = position_there (sends_to c.args.coded.now f c.self.view_is c.in_ok-index.ensures.sends) in omega (arith, there)

-- The phase that is due begins

pub due_next-requires : goal.due_next-requires
due_next-requires c =
    let f = found_at c.self.invariant c.self.view_is c.in_ok-index.ensures.place c.index-tracked.ensures in
    stage_near f refl

pub begin_next-requires-clause-pieces : goal.begin_next-requires-clause-pieces
begin_next-requires-clause-pieces c =
    let f = found_at c.self.invariant c.self.view_is c.in_ok-index.ensures.place c.index-tracked.ensures in
    have_coded c.in-Some.kind _ _
    (members_are (supplied_there c.args.coded.now f c.self.view_is c.in_ok-index.ensures.sends c.index.ensures c.layout-layout.ensures))

pub begin_next-requires-clause-room : goal.begin_next-requires-clause-room
begin_next-requires-clause-room c =
    let f = found_at c.self.invariant c.self.view_is c.in_ok-index.ensures.place c.index-tracked.ensures in
    let p = supplied_there c.args.coded.now f c.self.view_is c.in_ok-index.ensures.sends c.index.ensures c.layout-layout.ensures in
    let b = beginning p c.due_next.ensures c.index_mut.ensures.value c.in-Some.is in
    begin_room b c.args.now c.self.view_is c.requires.after

pub invariant_of-self-in-Some : goal.invariant_of-self-in-Some
invariant_of-self-in-Some c =
    let f = found_at c.self.invariant c.self.view_is c.in_ok-index.ensures.place c.index-tracked.ensures in
    let p = supplied_there c.args.coded.now f c.self.view_is c.in_ok-index.ensures.sends c.index.ensures c.layout-layout.ensures in
    let b = beginning p c.due_next.ensures c.index_mut.ensures.value c.in-Some.is in
    let n = c.in_ok-begin_next.ensures in
    begin_kept b c.args.now n.mail n.call c.self.view_is c.requires.after n.cause

pub returns-in_ok-begin_next-clause-step : goal.returns-in_ok-begin_next-clause-step
returns-in_ok-begin_next-clause-step c =
    let f = found_at c.self.invariant c.self.view_is c.in_ok-index.ensures.place c.index-tracked.ensures in
    let p = supplied_there c.args.coded.now f c.self.view_is c.in_ok-index.ensures.sends c.index.ensures c.layout-layout.ensures in
    let b = beginning p c.due_next.ensures c.index_mut.ensures.value c.in-Some.is in
    rw (← c.self.view_is) (begin_step b c.args.now c.in_ok-begin_next.ensures.mail c.in_ok-begin_next.ensures.call)

pub returns-in_ok-begin_next-clause-cause : goal.returns-in_ok-begin_next-clause-cause
returns-in_ok-begin_next-clause-cause c =
    let f = found_at c.self.invariant c.self.view_is c.in_ok-index.ensures.place c.index-tracked.ensures in
    let p = supplied_there c.args.coded.now f c.self.view_is c.in_ok-index.ensures.sends c.index.ensures c.layout-layout.ensures in
    let b = beginning p c.due_next.ensures c.index_mut.ensures.value c.in-Some.is in
    rw (← c.self.view_is) (begin_cause b c.args.now c.in_ok-index.ensures.within ∙ c.in_ok-begin_next.ensures.cause)

pub returns-in_err-begin_next-clause-cause : goal.returns-in_err-begin_next-clause-cause
returns-in_err-begin_next-clause-cause c =
    let f = found_at c.self.invariant c.self.view_is c.in_ok-index.ensures.place c.index-tracked.ensures in
    let p = supplied_there c.args.coded.now f c.self.view_is c.in_ok-index.ensures.sends c.index.ensures c.layout-layout.ensures in
    let b = beginning p c.due_next.ensures c.index_mut.ensures.value c.in-Some.is in
    same_cause _ c.from_residual-in_err-begin_next.result _ c.from_residual-in_err-begin_next.ensures.1
    (rw (← c.self.view_is) (by_cause (begin_cause b c.args.now c.in_ok-index.ensures.within) c.in_err-begin_next.ensures.cause))

pub returns-in_err-begin_next-clause-unchanged : goal.returns-in_err-begin_next-clause-unchanged
returns-in_err-begin_next-clause-unchanged c =
    let e = c.in_err-begin_next.ensures in
    on_error c.from_residual-in_err-begin_next.result
    (as_it_was c.self.invariant c.self.view_is refl e.kept
    (written_back c.self.inside.calls.items c.in_ok-index.index e.unchanged c.index_mut.ensures.value))

-- The current phase asks again

pub ask_again-requires-clause-pieces : goal.ask_again-requires-clause-pieces
ask_again-requires-clause-pieces c =
    let f = found_at c.self.invariant c.self.view_is c.in_ok-index.ensures.place c.index-tracked.ensures in
    let p = supplied_to c.args.coded.now f c.self.view_is c.in_ok-index.ensures.sends refl in
    let a = asking p c.due_next.ensures c.index-in_default.ensures (none_of c.due_next.result c.in_default.not-Some) in
    again_pieces a

pub ask_again-requires-clause-room : goal.ask_again-requires-clause-room
ask_again-requires-clause-room c =
    let f = found_at c.self.invariant c.self.view_is c.in_ok-index.ensures.place c.index-tracked.ensures in
    let p = supplied_to c.args.coded.now f c.self.view_is c.in_ok-index.ensures.sends refl in
    let a = asking p c.due_next.ensures c.index-in_default.ensures (none_of c.due_next.result c.in_default.not-Some) in
    again_room a c.args.now c.self.view_is c.requires.after

pub invariant_of-self-in_default : goal.invariant_of-self-in_default
invariant_of-self-in_default c =
    let f = found_at c.self.invariant c.self.view_is c.in_ok-index.ensures.place c.index-tracked.ensures in
    let p = supplied_to c.args.coded.now f c.self.view_is c.in_ok-index.ensures.sends refl in
    let a = asking p c.due_next.ensures c.index-in_default.ensures (none_of c.due_next.result c.in_default.not-Some) in
    again_kept a c.args.now c.in_ok-ask_again.ensures.mail c.self.view_is c.requires.after

pub returns-in_ok-ask_again-clause-step : goal.returns-in_ok-ask_again-clause-step
returns-in_ok-ask_again-clause-step c =
    let f = found_at c.self.invariant c.self.view_is c.in_ok-index.ensures.place c.index-tracked.ensures in
    let p = supplied_to c.args.coded.now f c.self.view_is c.in_ok-index.ensures.sends refl in
    let a = asking p c.due_next.ensures c.index-in_default.ensures (none_of c.due_next.result c.in_default.not-Some) in
    rw (← c.self.view_is) (again_step a c.args.now c.in_ok-ask_again.ensures.mail)

pub returns-in_ok-ask_again-clause-cause : goal.returns-in_ok-ask_again-clause-cause
returns-in_ok-ask_again-clause-cause c =
    let f = found_at c.self.invariant c.self.view_is c.in_ok-index.ensures.place c.index-tracked.ensures in
    let p = supplied_to c.args.coded.now f c.self.view_is c.in_ok-index.ensures.sends refl in
    let a = asking p c.due_next.ensures c.index-in_default.ensures (none_of c.due_next.result c.in_default.not-Some) in
    rw (← c.self.view_is)
    (again_by a c.args.now c.in_ok-index.ensures.within (λ cause. cause ≡ None) c.in_ok-ask_again.ensures.cause)

pub returns-in_err-ask_again-clause-cause : goal.returns-in_err-ask_again-clause-cause
returns-in_err-ask_again-clause-cause c =
    let f = found_at c.self.invariant c.self.view_is c.in_ok-index.ensures.place c.index-tracked.ensures in
    let p = supplied_to c.args.coded.now f c.self.view_is c.in_ok-index.ensures.sends refl in
    let a = asking p c.due_next.ensures c.index-in_default.ensures (none_of c.due_next.result c.in_default.not-Some) in
    let r = c.in_err-ask_again.field-0.0 in
    same_cause _ c.from_residual-in_err-ask_again.result _ c.from_residual-in_err-ask_again.ensures.1
    (rw (← c.self.view_is) (again_by a c.args.now c.in_ok-index.ensures.within
    (λ (cause : Option Refusal). IsRefusalBy cause r) c.in_err-ask_again.ensures.cause))

pub returns-in_err-ask_again-clause-unchanged : goal.returns-in_err-ask_again-clause-unchanged
returns-in_err-ask_again-clause-unchanged c =
    on_error c.from_residual-in_err-ask_again.result
    (as_it_was c.self.invariant c.self.view_is refl c.in_err-ask_again.ensures.kept refl)

pub invariant_of-self : goal.invariant_of-self
invariant_of-self c = grind (arith, common_steps)
