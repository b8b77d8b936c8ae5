use Rattle.std.proofs.Common.{true}
use Rattle.driver.proofs.HandedValueLemmas.{value_round, refused_round}
use Rattle.driver.proofs.WantLemmas.{replies_no_answer}
use Rattle.driver.proofs.AskAgainRefusalLemmas.{post_refused, post_turn, supply_due, asked_value_refused_at}
use Rattle.driver.proofs.round.ask_again.Goals as goal

pub returns-in-NotNow-clause-refused : goal.returns-in-NotNow-clause-refused
returns-in-NotNow-clause-refused g c =
    refused_round g.C.Chooser.chooses c.args.name.now c.args.call true c.args.cluster.now c.args.chooser.now _ c.hand_out_value.result
    (λ e by. asked_value_refused_at g.C.Chooser.chooses c.args.name.now c.args.call c.args.cluster.now c.args.chooser.now
    c.register_at.result.now c.register_at.ensures c.soundness.ensures.sound c.requires.wanted e c.post_at.new.self
    c.in-Err.ensures.unchanged (rw c.in-NotNow.is at c.in-Err.ensures.cause) by) c.hand_out_value.ensures.cause

pub returns-in_default-clause-refused : goal.returns-in_default-clause-refused
returns-in_default-clause-refused g c =
    post_refused g.C.Chooser.chooses c.args.name.now c.args.call c.args.cluster.now c.args.chooser.now c.register_at.result.now
    c.register_at.ensures
    c.soundness.ensures.sound c.requires.wanted c.in-Err.refusal c.in_default.not-NotNow c.in-Err.ensures.cause

pub returns-in-Ok-clause-round : goal.returns-in-Ok-clause-round
returns-in-Ok-clause-round g c = (
  post_turn g.C.Chooser.chooses c.args.name.now c.args.call c.args.cluster.now c.args.chooser.now c.register_at.result.now
      c.register_at.ensures c.soundness.ensures.sound c.requires.wanted c.post_at.new.self c.in-Ok.ensures.cause c.in-Ok.ensures.may
      c.in-Ok.ensures.step,
  replies_no_answer _ c.requires.wanted,
)

pub returns-in-NotNow-clause-round : goal.returns-in-NotNow-clause-round
returns-in-NotNow-clause-round g c =
    value_round g.C.Chooser.chooses c.args.name.now c.args.call true c.args.cluster.now c.args.chooser.now
    c.post_at.new.self c.in-Err.ensures.unchanged
    (supply_due g.C.Chooser.chooses c.args.name.now c.args.call c.args.cluster.now c.args.chooser.now c.register_at.result.now
    c.register_at.ensures c.soundness.ensures.sound c.requires.wanted (rw c.in-NotNow.is at c.in-Err.ensures.cause))
    c.hand_out_value.result c.hand_out_value.ensures.value
