use Rattle.std.proofs.lemmas.Grind.{common_steps, elements}
use Rattle.std.proofs.Common.{arith}
use Rattle.bank.specs.Serve.{served_bank}
use Rattle.register.proofs.ServeRequestLemmas.{position_there, serving, member_there, part_stored, bytes_few}
use Rattle.register.proofs.ServedRegisterLemmas.{served, put, new_there, new_fits, new_few, reply_fits, serve_step, serve_kept}
use Rattle.register.proofs.register.Register.serve.Goals as goal

pub index_mut-position-requires : goal.index_mut-position-requires
index_mut-position-requires c = let within = position_there c.args.place c.self.invariant c.at-message.ensures in omega (arith, within)

pub bytes-before-requires : goal.bytes-before-requires
bytes-before-requires c =
    let s = serving c.args.place c.self.invariant c.at-message.ensures c.in-Request.is c.index_mut-position.ensures.value in
    record { there = member_there s; room = λ other is. bytes_few s other is }

pub serve-requires : goal.serve-requires
serve-requires c =
    let s = serving c.args.place c.self.invariant c.at-message.ensures c.in-Request.is c.index_mut-position.ensures.value in
    member_there s

pub overflow_sub-self : goal.overflow_sub-self
overflow_sub-self c =
    let s = serving c.args.place c.self.invariant c.at-message.ensures c.in-Request.is c.index_mut-position.ensures.value in
    omega (arith, c.bytes-before.ensures s.bank s.held, part_stored s)

pub bytes-requires-2 : goal.bytes-requires-2
bytes-requires-2 c =
    let s = serving c.args.place c.self.invariant c.at-message.ensures c.in-Request.is c.index_mut-position.ensures.value in
    let d = served s c.in_ok-reply.ensures.layout c.in_ok-reply.ensures.bank c.bytes.ensures.value c.if-bytes-self.false in
    record { there = new_there d; room = λ other is. new_few d other is }

pub overflow_add-self : goal.overflow_add-self
overflow_add-self c =
    let s = serving c.args.place c.self.invariant c.at-message.ensures c.in-Request.is c.index_mut-position.ensures.value in
    let d = served s c.in_ok-reply.ensures.layout c.in_ok-reply.ensures.bank c.bytes.ensures.value c.if-bytes-self.false in
    let fits = new_fits d in
    let before = c.bytes-before.ensures d.request.bank d.request.held in
    let after = c.bytes-2.ensures (served_bank d.request.bank c.in-Request.request c.args.now) (put d) in
    omega (arith, before, after, fits)

pub reply_in_place-requires-clause-room : goal.reply_in_place-requires-clause-room
reply_in_place-requires-clause-room c =
    let s = serving c.args.place c.self.invariant c.at-message.ensures c.in-Request.is c.index_mut-position.ensures.value in
    reply_fits s c.in_ok-reply.ensures.reply (omega (arith, c.len.ensures.value, c.len.ensures.within))

pub invariant_of-self-2 : goal.invariant_of-self-2
invariant_of-self-2 c =
    let s = serving c.args.place c.self.invariant c.at-message.ensures c.in-Request.is c.index_mut-position.ensures.value in
    let d = served s c.in_ok-reply.ensures.layout c.in_ok-reply.ensures.bank c.bytes.ensures.value c.if-bytes-self.false in
    let before = c.bytes-before.ensures d.request.bank d.request.held in
    let after = c.bytes-2.ensures (served_bank d.request.bank c.in-Request.request c.args.now) (put d) in
    serve_kept d c.in_ok-reply.ensures.reply c.reply_in_place.ensures before after c.self.view_is c.requires.after

pub returns-clause-step : goal.returns-clause-step
returns-clause-step c =
    let s = serving c.args.place c.self.invariant c.at-message.ensures c.in-Request.is c.index_mut-position.ensures.value in
    let d = served s c.in_ok-reply.ensures.layout c.in_ok-reply.ensures.bank c.bytes.ensures.value c.if-bytes-self.false in
    rw (← c.self.view_is) (serve_step d c.in_ok-reply.ensures.reply c.reply_in_place.ensures 0)

pub returns-then-len-place-clause-cause : goal.returns-then-len-place-clause-cause
returns-then-len-place-clause-cause c = grind (arith, elements)

pub invariant_of-self : goal.invariant_of-self
invariant_of-self c = grind (arith, common_steps)

pub returns-in_err-reply-clause-unchanged : goal.returns-in_err-reply-clause-unchanged
returns-in_err-reply-clause-unchanged c = grind (arith, common_steps)
