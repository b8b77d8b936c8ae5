use Rattle.std.proofs.Common.{◌<◌, length, arith}
use Rattle.player.proofs.ScriptRunLemmas.{nothing_played, one_more, last_line, line_at, stopped}
use Rattle.player.proofs.run.play_lines.Goals as goal

pub loop-index-init : goal.loop-index-init
loop-index-init g c = nothing_played _ _

pub loop-index-preserved : goal.loop-index-preserved
loop-index-preserved g c =
    let within : c.loop-index.index < length c.args.lines.now = omega arith in
    one_more _ c.loop-index.index _
    (line_at c.args.lines.now c.loop-index.index _ within) c.loop-index.cluster c.play_line.new.cluster _ _ _
    c.loop-index.invariant c.in_ok-play_line.ensures.played

pub returns-in_err-play_line : goal.returns-in_err-play_line
returns-in_err-play_line g c script is =
    let within : c.loop-index.index < length c.args.lines.now = omega arith in
    stopped _ c.in_err-play_line.field-0.0 _ _ c.from_residual.ensures.1
    (last_line _ c.loop-index.index _ (line_at c.args.lines.now c.loop-index.index _ within) script c.loop-index.cluster _ _ _ _ is
    c.loop-index.invariant c.in_err-play_line.ensures.played)
