use Rattle.std.proofs.lemmas.Grind.{common_steps}
use Rattle.std.proofs.Common.{◌≡◌, length, arith, refl}
use Rattle.register.proofs.BeginMoveLemmas.{moved, moved_may, moved_room, moved_cause, move_kept, move_step}
use Rattle.register.proofs.RefusedStepLemmas.{as_it_was, on_error}
use Rattle.register.proofs.RoomLemmas.{same_cause, by_cause}
use Rattle.register.proofs.register.Register.call_move.Goals as goal

pub begin-requires-clause-room : goal.begin-requires-clause-room
begin-requires-clause-room c =
    let all : c.len-last.result ≡ length c.self.inside.positions.items = omega (arith, c.len-last.ensures) in
    let count : c.len.result ≡ length c.self.inside.calls.items = omega (arith, c.len.ensures) in
    let b = moved c.args.now c.self.invariant all c.in_ok-reserve_both.ensures.positions c.index.ensures c.layout.ensures
    count c.first_stage-stage.ensures refl in
    let may = moved_may b c.args.layout c.self.view_is (c.in_ok-may_move.ensures.cause c.args.layout) in
    moved_room b may c.self.view_is c.requires.after

pub invariant_of-self-2 : goal.invariant_of-self-2
invariant_of-self-2 c =
    let all : c.len-last.result ≡ length c.self.inside.positions.items = omega (arith, c.len-last.ensures) in
    let count : c.len.result ≡ length c.self.inside.calls.items = omega (arith, c.len.ensures) in
    let b = moved c.args.now c.self.invariant all c.in_ok-reserve_both.ensures.positions c.index.ensures c.layout.ensures
    count c.first_stage-stage.ensures refl in
    let may = moved_may b c.args.layout c.self.view_is (c.in_ok-may_move.ensures.cause c.args.layout) in
    move_kept b
    c.in_ok-next.ensures.opened c.in_ok-reserve_both.ensures.positions c.push_reserved.ensures.items
    c.in_ok-call.ensures.mail c.in_ok-call.ensures.call c.in_ok-reserve_both.ensures.calls c.push_reserved-2.ensures.items
    may c.in_ok-next.ensures.lawful c.self.view_is c.requires.after

pub returns-clause-step : goal.returns-clause-step
returns-clause-step c =
    let all : c.len-last.result ≡ length c.self.inside.positions.items = omega (arith, c.len-last.ensures) in
    let count : c.len.result ≡ length c.self.inside.calls.items = omega (arith, c.len.ensures) in
    let b = moved c.args.now c.self.invariant all c.in_ok-reserve_both.ensures.positions c.index.ensures c.layout.ensures
    count c.first_stage-stage.ensures refl in
    rw (← c.self.view_is) (move_step b
    c.in_ok-next.ensures.opened c.in_ok-reserve_both.ensures.positions c.push_reserved.ensures.items
    c.in_ok-call.ensures.mail c.in_ok-call.ensures.call c.in_ok-reserve_both.ensures.calls c.push_reserved-2.ensures.items)

pub returns-in_err-call-clause-cause : goal.returns-in_err-call-clause-cause
returns-in_err-call-clause-cause c =
    let all : c.len-last.result ≡ length c.self.inside.positions.items = omega (arith, c.len-last.ensures) in
    let count : c.len.result ≡ length c.self.inside.calls.items = omega (arith, c.len.ensures) in
    let b = moved c.args.now c.self.invariant all c.in_ok-reserve_both.ensures.positions c.index.ensures c.layout.ensures
    count c.first_stage-stage.ensures refl in
    let may = moved_may b c.args.layout c.self.view_is (c.in_ok-may_move.ensures.cause c.args.layout) in
    same_cause _ c.from_residual-in_err-call.result _ c.from_residual-in_err-call.ensures.1
    (rw (← c.self.view_is) (by_cause (moved_cause b c.args.layout may) c.in_err-call.ensures.cause))

pub returns-in_err-reserve_both-clause-unchanged : goal.returns-in_err-reserve_both-clause-unchanged
returns-in_err-reserve_both-clause-unchanged c =
    on_error c.from_residual-in_err-reserve_both.result
    (as_it_was c.self.invariant c.self.view_is c.reserve_both.ensures.positions refl c.reserve_both.ensures.calls)

pub returns-in_err-next-clause-unchanged : goal.returns-in_err-next-clause-unchanged
returns-in_err-next-clause-unchanged c =
    on_error c.from_residual-in_err-next.result
    (as_it_was c.self.invariant c.self.view_is c.reserve_both.ensures.positions refl c.reserve_both.ensures.calls)

pub returns-in_err-call-clause-unchanged : goal.returns-in_err-call-clause-unchanged
returns-in_err-call-clause-unchanged c =
    on_error c.from_residual-in_err-call.result
    (as_it_was c.self.invariant c.self.view_is c.reserve_both.ensures.positions c.in_err-call.ensures.kept c.reserve_both.ensures.calls)

pub overflow_sub-last : goal.overflow_sub-last
overflow_sub-last c = grind (arith, common_steps)

pub overflow_cast-position : goal.overflow_cast-position
overflow_cast-position c = grind (arith, common_steps)

pub returns-clause-number : goal.returns-clause-number
returns-clause-number c = grind (arith, common_steps)
