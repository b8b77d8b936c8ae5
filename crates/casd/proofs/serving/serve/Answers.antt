use Rattle.std.proofs.Common.{arith}
use Rattle.std.specs.Io.Buffered.{reader_remaining}
use Rattle.node_store.specs.declared.stop.ServeError.TheVariants.{NoInput}
use Rattle.casd.proofs.LogFaultLemmas.{told_going, told_since, told_then}
use Rattle.casd.proofs.SessionLemmas.{at, broken, ended, gone_on, tired}
use Rattle.casd.proofs.serving.serve.Goals as goal

pub returns-in-Ok-None-clause-serves : goal.returns-in-Ok-None-clause-serves
returns-in-Ok-None-clause-serves g c =
    let known = reader_remaining g.I.Read.remaining in
    ended (Unit {0}) tt
    (at c.args.end c.args.node.now (known c.args.input.now) (g.L.Log.kept c.args.log.now)
    (g.O.Write.contents c.args.output.now))
    (at c.loop.end c.loop.node (known c.loop.input) (g.L.Log.kept c.loop.log) (g.O.Write.contents c.loop.output))
    c.serve_once.new.node (known c.serve_once.new.input) (g.L.Log.kept c.serve_once.new.log)
    (g.O.Write.contents c.serve_once.new.output)
    c.loop.invariant.0 (rw c.in-Ok-None.field-0-is at c.in-Ok-None.ensures.serves)

pub returns-in-Err-clause-serves : goal.returns-in-Err-clause-serves
returns-in-Err-clause-serves g c =
    let known = reader_remaining g.I.Read.remaining in
    broken (Unit {0})
    (at c.args.end c.args.node.now (known c.args.input.now) (g.L.Log.kept c.args.log.now)
    (g.O.Write.contents c.args.output.now))
    (at c.loop.end c.loop.node (known c.loop.input) (g.L.Log.kept c.loop.log) (g.O.Write.contents c.loop.output))
    c.serve_once.new.node (known c.serve_once.new.input) (g.L.Log.kept c.serve_once.new.log)
    (g.O.Write.contents c.serve_once.new.output)
    c.in-Err.fault c.loop.invariant.0 c.in-Err.ensures.serves

pub loop-preserved : goal.loop-preserved
loop-preserved g c =
    let known = reader_remaining g.I.Read.remaining in (
      gone_on
          (at c.args.end c.args.node.now (known c.args.input.now) (g.L.Log.kept c.args.log.now)
          (g.O.Write.contents c.args.output.now))
          (at c.loop.end c.loop.node (known c.loop.input) (g.L.Log.kept c.loop.log) (g.O.Write.contents c.loop.output))
          c.serve_once.new.node (known c.serve_once.new.input) (g.L.Log.kept c.serve_once.new.log)
          (g.O.Write.contents c.serve_once.new.output)
          c.in-Ok-Some.now c.loop.invariant.0 (rw c.in-Ok-Some.field-0-is at c.in-Ok-Some.ensures.serves),
      c.in-Ok-Some.ensures.synced,
      c.in-Ok-Some.ensures.sound,
      λ failed. c.loop.invariant.3 (told_going _ _ c.in-Ok-Some.ensures.failure failed),
    )

pub returns-clause-serves : goal.returns-clause-serves
returns-clause-serves g c =
    let known = reader_remaining g.I.Read.remaining in
    tired (Unit {0})
    (at c.args.end c.args.node.now (known c.args.input.now) (g.L.Log.kept c.args.log.now)
    (g.O.Write.contents c.args.output.now))
    c.loop.end c.loop.node (known c.loop.input) (g.L.Log.kept c.loop.log) (g.O.Write.contents c.loop.output)
    (NoInput c.from.result) c.loop.invariant.0 (λ bytes. tt)

pub returns-in-Ok-None-clause-failure : goal.returns-in-Ok-None-clause-failure
returns-in-Ok-None-clause-failure g c = told_then _ _ _ _ c.loop.invariant.3 c.in-Ok-None.ensures.failure

pub returns-in-Err-clause-failure : goal.returns-in-Err-clause-failure
returns-in-Err-clause-failure g c = told_then _ _ _ _ c.loop.invariant.3 c.in-Err.ensures.failure

pub returns-clause-failure : goal.returns-clause-failure
returns-clause-failure g c = told_since _ _ _ c.loop.invariant.3 (λ three. omega (arith, three))
