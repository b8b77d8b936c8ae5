use Rattle.std.proofs.Common.{ℕ, ◌<◌, List, None, map, Bor, length, arith}
use Rattle.std.proofs.lemmas.List.{length-map}
use Rattle.std.proofs.lemmas.Result.{err_from_is_err_and}
use Rattle.player.proofs.ScriptRunLemmas.{nothing_played, one_more, line_at}
use Rattle.trace.proofs.PlayedScriptLemmas.{ends_before, leads_through}
use Rattle.trace.proofs.play.play_lines.Goals as goal

pub loop-index-init : goal.loop-index-init
loop-index-init c = nothing_played _ None

pub loop-index-preserved : goal.loop-index-preserved
loop-index-preserved c =
    let within : c.loop-index.index < length c.args.lines.now = omega arith in
    one_more _ c.loop-index.index _ (line_at c.args.lines.now c.loop-index.index _ within) c.loop-index.cluster
    c.play_numbered.new.cluster None None None c.loop-index.invariant c.in_ok-play_numbered.ensures

pub returns-in_err-play_numbered : goal.returns-in_err-play_numbered
returns-in_err-play_numbered c = λ script is.
    let p = err_from_is_err_and c.from_residual.result c.from_residual.ensures.1 in
    let within : c.loop-index.index < length c.args.lines.now = omega arith in
    rw (p.1, p.2) (ends_before _ c.loop-index.index _ (line_at c.args.lines.now c.loop-index.index _ within) script c.loop-index.cluster
    c.in_err-play_numbered.field-0.0 is c.loop-index.invariant c.in_err-play_numbered.ensures)

pub returns : goal.returns
returns c = λ script is.
    let all = map (λ (line : Bor (List ℕ)). line.now) c.args.lines.now in
    let same = length-map c.args.lines.now (λ (line : Bor (List ℕ)). line.now) in
    leads_through all c.loop-index.index script c.loop-index.cluster is (omega (arith, same)) c.loop-index.invariant
