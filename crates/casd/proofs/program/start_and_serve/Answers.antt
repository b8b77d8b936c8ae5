use Rattle.std.proofs.Common.{arith, subst}
use Rattle.std.specs.Io.Buffered.{reader_remaining}
use Rattle.casd.specs.Program.{HasServed}
use Rattle.casd.proofs.LogFaultLemmas.{told_going, told_since, told_then}
use Rattle.casd.proofs.ReaderLemmas.{fresh_reader}
use Rattle.casd.proofs.RunLemmas.{ran}
use Rattle.casd.proofs.SessionLemmas.{at}
use Rattle.casd.proofs.program.start_and_serve.Goals as goal

pub returns-in-Ok-with_capacity-clause-runs : goal.returns-in-Ok-with_capacity-clause-runs
returns-in-Ok-with_capacity-clause-runs g c = λ names number is_new.
    let read = fresh_reader g.I.Read.remaining c.in-Ok-with_capacity.input c.args.input c.in-Ok-with_capacity.ensures.inner
    c.in-Ok-with_capacity.ensures.empty c.in-Ok-with_capacity.ensures.capacity in
    let kept = g.L.Log.kept c.start_with.new.log in
    let held = g.O.Write.contents c.args.output.now in
    ran _ names number _ _ (g.I.Read.remaining c.args.input) held c.start_with.new.node c.serve.new.node
    c.in-Ok.end kept (reader_remaining g.I.Read.remaining c.serve.new.input)
    (g.L.Log.kept c.serve.new.log) (g.O.Write.contents c.serve.new.output) c.serve.result
    (c.in-Ok.ensures.starts names number is_new)
    (subst (λ left. HasServed (at c.in-Ok.end c.start_with.new.node left kept held) c.serve.new.node
    (reader_remaining g.I.Read.remaining c.serve.new.input) (g.L.Log.kept c.serve.new.log)
    (g.O.Write.contents c.serve.new.output) c.serve.result) read c.serve.ensures.serves)

pub returns-in-Ok-with_capacity-clause-failure : goal.returns-in-Ok-with_capacity-clause-failure
returns-in-Ok-with_capacity-clause-failure g c =
    told_then _ _ _ _ (told_going _ _ c.in-Ok.ensures.failure) c.serve.ensures.failure

pub returns-in-Err-with_capacity-clause-failure : goal.returns-in-Err-with_capacity-clause-failure
returns-in-Err-with_capacity-clause-failure g c =
    told_since _ _ _ (told_going _ _ c.in-Ok.ensures.failure) (λ three. omega (arith, three))
