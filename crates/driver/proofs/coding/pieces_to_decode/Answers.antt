use Rattle.std.proofs.Common.{suc, ◌≤◌, arith}
use Rattle.std.proofs.lemmas.Result.{IfOk-weaker}
use Rattle.tag.specs.declared.limits.TheConstants.{MOST_STEPS}
use Rattle.driver.proofs.CodingJobLemmas.{to_decode, given_there}
use Rattle.driver.proofs.coding.pieces_to_decode.Goals as goal

pub returns-then-counter-ge-MOST_STEPS-clause-given : goal.returns-then-counter-ge-MOST_STEPS-clause-given
returns-then-counter-ge-MOST_STEPS-clause-given c =
    given_there c.args.cluster.now c.args.name.now c.args.call c.register_at.result.now c.args.k c.args.len
    c.register_at.ensures c.soundness.ensures.sound c.requires.wanted

pub returns-clause-given : goal.returns-clause-given
returns-clause-given c =
    given_there c.args.cluster.now c.args.name.now c.args.call c.register_at.result.now c.args.k c.args.len
    c.register_at.ensures c.soundness.ensures.sound c.requires.wanted

pub returns-clause-pieces : goal.returns-clause-pieces
returns-clause-pieces c =
    let less = c.if-counter-ge-MOST_STEPS.false in
    let is = c.counter.ensures in
    let within : suc c.args.cluster.now.counter ≤ MOST_STEPS = omega (arith, less, is) in
    IfOk-weaker c.pieces_at.result _ _
    (λ ps e. to_decode c.args.cluster.now c.args.name.now c.args.call c.register_at.result.now c.args.k c.args.len ps.items
    c.register_at.ensures
    c.soundness.ensures.sound c.requires.wanted within e)
    c.pieces_at.ensures.pieces
