use Rattle.std.proofs.Common.{[], ◌∷◌, ◌∙◌, ◌≡◌, inr, length, refl}
use Rattle.std.proofs.lemmas.Iterator.Adapters.{YieldsList-from_vec}
use Rattle.std.proofs.lemmas.Iterator.Consumers.{YieldsList-so_far, YieldsList-turn}
use Rattle.indexmap.specs.IndexMap.{keys}
use Rattle.node_keeper.proofs.ActLemmas.{acts_more}
use Rattle.node.specs.Ticks.{aged_at, sent_at_age}
use Rattle.node.proofs.AgainLemmas.{again_then, none_again, ticked}
use Rattle.node.proofs.FailureLemmas.{same_error, ticks_fail}
use Rattle.node.proofs.TickLemmas.{no_ticks, ticks_then}
use Rattle.node.proofs.TellLemmas.{idle}
use Rattle.node.proofs.node.Node.tick.Goals as goal

pub loop-id-init : goal.loop-id-init
loop-id-init c = record {
  acts = λ asker. idle asker [] c.args.self.now.keeper c.args.work.now;
  serves = no_ticks c.args.self.now c.args.work.now;
  again = none_again c.args.self.now c.args.work.now.outputs.items;
  peers = refl;
}

pub loop-id-preserved : goal.loop-id-preserved
loop-id-preserved c = record {
  acts = λ asker. acts_more asker [] c.args.self.now.keeper c.loop-id.self.keeper c.tick_call.new.self.keeper c.args.work.now
      c.loop-id.work c.tick_call.new.work (c.loop-id.invariant.acts asker) (c.in_ok-tick_call.ensures.acts asker);
  serves = ticks_then c.loop-id.yielded (c.in-Some.id ∷ []) c.args.self.now c.loop-id.self c.tick_call.new.self c.args.work.now
      c.loop-id.work c.tick_call.new.work c.loop-id.invariant.serves c.in_ok-tick_call.ensures.serves;
  again =
      let sends = sent_at_age c.loop-id.self.keeper c.in-Some.id (aged_at c.loop-id.self c.in-Some.id) in
      let acts = c.loop-id.invariant.acts 0 in
      again_then c.loop-id.yielded c.in-Some.id c.args.self.now c.loop-id.self c.tick_call.new.self
      c.args.work.now.outputs.items c.loop-id.work.outputs.items c.tick_call.new.work.outputs.items sends acts.node acts.digest
      c.loop-id.invariant.again
      (ticked c.in-Some.id c.loop-id.self c.tick_call.new.self c.loop-id.work c.tick_call.new.work sends
      c.in_ok-tick_call.ensures.serves refl c.in_ok-tick_call.ensures.kept) c.in_ok-tick_call.ensures.again;
  peers = c.tick_call.ensures.peers ∙ c.loop-id.invariant.peers;
}

pub returns-in_err-tick_call-clause-refused : goal.returns-in_err-tick_call-clause-refused
returns-in_err-tick_call-clause-refused c =
    let error = c.in_err-tick_call.field-0.0 in
    let loop = c.loop-id in
    let iterator = c.into_iter-id-iterator.result in
    let ids = c.in_ok-ids.ids in
    let items : iterator.rest.items ≡ ids.items = c.into_iter-id-iterator.ensures.into_iter_gives.0 in
    let len : iterator.rest.len ≡ length ids.items = c.into_iter-id-iterator.ensures.into_iter_gives.1 ∙ ids.ok.0 in
    let road = YieldsList-from_vec ids.items items len in
    let next = YieldsList-turn road loop.yielded loop.id-iterator loop.yielded_by c.next.result c.next.new.self c.in-Some.id
    c.in-Some.is c.next.ensures.steps in
    let again = loop.invariant.again in
    same_error _ c.from_residual-in_err-tick_call.result error c.from_residual-in_err-tick_call.ensures.1
    (inr (ticks_fail (keys c.args.self.now.desk.calls) ids.items loop.yielded c.in-Some.id c.args.self.now loop.self again.sends error
    c.in_ok-ids.ensures.ids (YieldsList-so_far road loop.yielded loop.id-iterator loop.yielded_by) next again.ticked
    c.in_err-tick_call.ensures.refused))
