use Rattle.std.proofs.Common.{[], ◌∷◌}
use Rattle.example_runs.proofs.GrowthLemmas.{carried_more}
use Rattle.example_runs.proofs.steps.carry_out.Goals as goal

pub loop-output-preserved : goal.loop-output-preserved
loop-output-preserved c =
    carried_more c.args.number c.args.member.now c.loop-output.member c.carry_out_one.new.member c.args.sent.now.items
    c.loop-output.sent.items c.carry_out_one.new.sent.items c.loop-output.yielded (c.in-Some.output ∷ []) c.loop-output.invariant
    c.in_ok-carry_out_one.ensures.grown c.in_ok-carry_out_one.ensures.sent
