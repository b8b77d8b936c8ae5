use Rattle.std.proofs.Common.{Option, arith, rules, sym, ◌∙◌}
use Rattle.std.specs.Io.Buffered.{reader_remaining}
use Rattle.node_store.specs.declared.end.LogEnd.{LogEnd}
use Rattle.casd.proofs.LogFaultLemmas.{told_ended, told_same, told_then}
use Rattle.casd.proofs.SessionLemmas.{at, served_badly, served_half, served_last, served_on}
use Rattle.casd.proofs.serving.serve_once.Goals as goal

pub returns-in-Ok-clause-serves : goal.returns-in-Ok-clause-serves
returns-in-Ok-clause-serves g c =
    let known = reader_remaining g.I.Read.remaining in
    served_on
    (at c.args.end c.args.node.now (known c.args.input.now) (g.L.Log.kept c.args.log.now)
    (g.O.Write.contents c.args.output.now))
    c.serve_frames.new.machine (known c.serve_frames.new.input) (g.L.Log.kept c.serve_frames.new.log)
    (g.L.Log.kept c.write_anew.new.log) (g.O.Write.contents c.serve_frames.new.output) c.in-Ok-Some.now c.in-Ok.then
    (rw c.in-Ok-Some.field-0-is at c.in-Ok-Some.ensures.rounds) c.in-Ok.ensures.rewritten

pub returns-in-Err-write_anew-clause-serves : goal.returns-in-Err-write_anew-clause-serves
returns-in-Err-write_anew-clause-serves g c =
    let known = reader_remaining g.I.Read.remaining in
    served_half
    (at c.args.end c.args.node.now (known c.args.input.now) (g.L.Log.kept c.args.log.now)
    (g.O.Write.contents c.args.output.now))
    c.serve_frames.new.machine (known c.serve_frames.new.input) (g.L.Log.kept c.serve_frames.new.log)
    (g.L.Log.kept c.write_anew.new.log) (g.O.Write.contents c.serve_frames.new.output) c.in-Ok-Some.now
    c.in-Err-write_anew.fault (rw c.in-Ok-Some.field-0-is at c.in-Ok-Some.ensures.rounds)
    c.in-Err-write_anew.ensures.rewritten

pub returns-in-Ok-None-clause-serves : goal.returns-in-Ok-None-clause-serves
returns-in-Ok-None-clause-serves g c =
    let known = reader_remaining g.I.Read.remaining in
    served_last
    (at c.args.end c.args.node.now (known c.args.input.now) (g.L.Log.kept c.args.log.now)
    (g.O.Write.contents c.args.output.now))
    c.serve_frames.new.machine (known c.serve_frames.new.input) (g.L.Log.kept c.serve_frames.new.log)
    (g.O.Write.contents c.serve_frames.new.output) (rw c.in-Ok-None.field-0-is at c.in-Ok-None.ensures.rounds)

pub returns-in-Err-clause-serves : goal.returns-in-Err-clause-serves
returns-in-Err-clause-serves g c =
    let known = reader_remaining g.I.Read.remaining in
    served_badly
    (at c.args.end c.args.node.now (known c.args.input.now) (g.L.Log.kept c.args.log.now)
    (g.O.Write.contents c.args.output.now))
    c.serve_frames.new.machine (known c.serve_frames.new.input) (g.L.Log.kept c.serve_frames.new.log)
    (g.O.Write.contents c.serve_frames.new.output) c.in-Err.error c.in-Err.ensures.rounds

pub returns-in-Ok-clause-failure : goal.returns-in-Ok-clause-failure
returns-in-Ok-clause-failure g c =
    told_then _ _ _ _ (λ failed. sym c.in-Ok-Some.ensures.failure ∙ failed) c.in-Ok.ensures.failure

pub returns-in-Err-write_anew-clause-failure : goal.returns-in-Err-write_anew-clause-failure
returns-in-Err-write_anew-clause-failure g c =
    told_then _ _ _ _ (λ failed. sym c.in-Ok-Some.ensures.failure ∙ failed) c.in-Err-write_anew.ensures.failure

pub returns-in-Ok-None-clause-failure : goal.returns-in-Ok-None-clause-failure
returns-in-Ok-None-clause-failure g c = told_same _ _ _ c.in-Ok-None.ensures.failure (λ three. omega (arith, three))

pub returns-in-Err-clause-failure : goal.returns-in-Err-clause-failure
returns-in-Err-clause-failure g c = told_ended (Option LogEnd) _ _ c.in-Err.error c.in-Err.ensures.failure
