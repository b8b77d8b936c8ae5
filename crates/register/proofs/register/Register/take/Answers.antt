use Rattle.std.proofs.lemmas.Grind.{elements}
use Rattle.std.proofs.Common.{arith}
use Rattle.register.proofs.TakeReplyLemmas.{call_there, taking, below_limit, next_tag, same_body, take_kept, take_step, took_is}
use Rattle.register.proofs.register.Register.take.Goals as goal

pub index_mut-requires : goal.index_mut-requires
index_mut-requires c = let within = call_there c.args.place c.self.invariant c.take_out-message.ensures.message in omega (arith, within)

pub take-took-requires : goal.take-took-requires
take-took-requires c =
    let t = taking c.args.place c.self.invariant c.take_out-message.ensures.message c.index_mut.ensures.value in
    record {
      near = below_limit t c.args.now;
      tags = next_tag t c.args.now c.self.view_is c.requires.after (omega (arith, c.ranges.now.fits));
    }

pub invariant_of-self : goal.invariant_of-self
invariant_of-self c =
    let t = taking c.args.place c.self.invariant c.take_out-message.ensures.message c.index_mut.ensures.value in
    let is = same_body c.self.inside.mail c.args.place c.take_out-message.ensures.message c.at.ensures c.in-Reply.is in
    take_kept t c.args.now is c.take_out-message.ensures.rest c.take-took.ensures.call c.self.view_is c.requires.after

pub returns-clause-step : goal.returns-clause-step
returns-clause-step c =
    let t = taking c.args.place c.self.invariant c.take_out-message.ensures.message c.index_mut.ensures.value in
    let is = same_body c.self.inside.mail c.args.place c.take_out-message.ensures.message c.at.ensures c.in-Reply.is in
    rw (← c.self.view_is) (take_step t c.args.now is c.take_out-message.ensures.rest c.take-took.ensures.call)

pub returns-clause-took : goal.returns-clause-took
returns-clause-took c =
    let t = taking c.args.place c.self.invariant c.take_out-message.ensures.message c.index_mut.ensures.value in
    rw (← c.self.view_is) (took_is t c.args.now c.take-took.ensures.took)

pub returns-then-len-place-clause-cause : goal.returns-then-len-place-clause-cause
returns-then-len-place-clause-cause c = grind (arith, elements)

pub overflow_sub-index : goal.overflow_sub-index
overflow_sub-index c = grind (arith, elements)
