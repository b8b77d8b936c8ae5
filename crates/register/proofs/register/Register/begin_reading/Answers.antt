use Rattle.std.proofs.lemmas.Grind.{common_steps}
use Rattle.std.proofs.Common.{◌≡◌, length, arith, refl}
use Rattle.register.proofs.BeginReadOrWriteLemmas.{begun, begun_may, begun_room, begun_cause, begun_kept, begun_step}
use Rattle.register.proofs.RefusedStepLemmas.{as_it_was, on_error}
use Rattle.register.proofs.RoomLemmas.{same_cause, by_cause}
use Rattle.register.proofs.StepInvariantLemmas.{base_within}
use Rattle.register.proofs.register.Register.begin_reading.Goals as goal

pub index-requires : goal.index-requires
index-requires c = let within = base_within _ c.self.invariant in omega (arith, within)

pub begin-requires-clause-room : goal.begin-requires-clause-room
begin-requires-clause-room c =
    let count : c.len.result ≡ length c.self.inside.calls.items = omega (arith, c.len.ensures) in
    let b = begun c.args.kind c.args.now c.self.invariant c.requires.kind c.index.ensures c.layout.ensures count
    c.first_stage-stage.ensures refl in
    begun_room b c.self.view_is c.requires.after

pub invariant_of-self-2 : goal.invariant_of-self-2
invariant_of-self-2 c =
    let count : c.len.result ≡ length c.self.inside.calls.items = omega (arith, c.len.ensures) in
    let b = begun c.args.kind c.args.now c.self.invariant c.requires.kind c.index.ensures c.layout.ensures count
    c.first_stage-stage.ensures refl in
    let may = begun_may b c.self.view_is c.in_ok-may_call.ensures.cause in
    begun_kept b c.in_ok-call.ensures.mail c.in_ok-call.ensures.call c.in_ok-reserve.ensures.items c.push_reserved.ensures.items
    may c.self.view_is c.requires.after

pub returns-clause-step : goal.returns-clause-step
returns-clause-step c =
    let count : c.len.result ≡ length c.self.inside.calls.items = omega (arith, c.len.ensures) in
    let b = begun c.args.kind c.args.now c.self.invariant c.requires.kind c.index.ensures c.layout.ensures count
    c.first_stage-stage.ensures refl in
    rw (← c.self.view_is)
    (begun_step b c.in_ok-call.ensures.mail c.in_ok-call.ensures.call c.in_ok-reserve.ensures.items c.push_reserved.ensures.items)

pub returns-in_err-call-clause-cause : goal.returns-in_err-call-clause-cause
returns-in_err-call-clause-cause c =
    let count : c.len.result ≡ length c.self.inside.calls.items = omega (arith, c.len.ensures) in
    let b = begun c.args.kind c.args.now c.self.invariant c.requires.kind c.index.ensures c.layout.ensures count
    c.first_stage-stage.ensures refl in
    let may = begun_may b c.self.view_is c.in_ok-may_call.ensures.cause in
    same_cause _ c.from_residual-in_err-call.result _ c.from_residual-in_err-call.ensures.1
    (rw (← c.self.view_is) (by_cause (begun_cause b may) c.in_err-call.ensures.cause))

pub returns-in_err-reserve-clause-unchanged : goal.returns-in_err-reserve-clause-unchanged
returns-in_err-reserve-clause-unchanged c =
    on_error c.from_residual-in_err-reserve.result
    (as_it_was c.self.invariant c.self.view_is refl refl c.reserve.ensures.items)

pub returns-in_err-call-clause-unchanged : goal.returns-in_err-call-clause-unchanged
returns-in_err-call-clause-unchanged c =
    on_error c.from_residual-in_err-call.result
    (as_it_was c.self.invariant c.self.view_is refl c.in_err-call.ensures.kept c.reserve.ensures.items)

pub returns-clause-number : goal.returns-clause-number
returns-clause-number c = grind (arith, common_steps)
