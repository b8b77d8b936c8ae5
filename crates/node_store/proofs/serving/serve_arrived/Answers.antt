use Rattle.std.proofs.Common.{refl}
use Rattle.std.specs.Io.Buffered.{reader_remaining}
use Rattle.std.proofs.lemmas.Result.{err_from_is_err_and}
use Rattle.node_store.proofs.ServingLemmas.{serves_arrived, serves_unhandled, serves_unwritten}
use Rattle.node_store.proofs.StoppingLemmas.{lost_stops, stopped_so, told_none, told_so}
use Rattle.node_store.proofs.serving.serve_arrived.Goals as goal

pub returns-in_err-goes_on-clause-serves : goal.returns-in_err-goes_on-clause-serves
returns-in_err-goes_on-clause-serves g c =
    let p = err_from_is_err_and c.from_residual.result c.from_residual.ensures.1 in
    rw (p.1, p.2) (serves_unhandled g.M.Machine.handles g.M.Machine.notes c.args.batch.now.chain.state c.args.machine.now
    (reader_remaining g.I.Read.remaining c.args.input.now) (g.L.Log.kept c.args.log.now) (g.O.Write.contents c.args.output.now)
    c.in_err-goes_on.field-0.0 c.in_err-goes_on.ensures.handles)

pub returns-in_err-write_batch-clause-serves : goal.returns-in_err-write_batch-clause-serves
returns-in_err-write_batch-clause-serves g c =
    let p = err_from_is_err_and c.from_residual-in_err-write_batch.result c.from_residual-in_err-write_batch.ensures.1 in
    let known = reader_remaining g.I.Read.remaining in
    rw (p.1, p.2) (serves_unwritten g.M.Machine.handles g.M.Machine.notes c.args.batch.now.chain.state c.args.machine.now
    c.handle_arrived.new.machine
    (known c.args.input.now) (known c.handle_arrived.new.input) c.args.batch.now c.handle_arrived.new.batch
    (g.L.Log.kept c.args.log.now) (g.L.Log.kept c.write_batch.new.log) (g.O.Write.contents c.args.output.now)
    (g.O.Write.contents c.write_batch.new.output) c.in_ok-goes_on.goes_on c.in_err-write_batch.field-0.0
    c.in_ok-goes_on.ensures.handles c.requires.empty c.in_err-write_batch.ensures.writes)

pub returns-clause-serves : goal.returns-clause-serves
returns-clause-serves g c =
    let known = reader_remaining g.I.Read.remaining in
    serves_arrived g.M.Machine.handles g.M.Machine.notes c.args.batch.now.chain.state c.args.machine.now c.handle_arrived.new.machine
    (known c.args.input.now) (known c.handle_arrived.new.input) c.args.batch.now c.handle_arrived.new.batch
    (g.L.Log.kept c.args.log.now) (g.L.Log.kept c.write_batch.new.log) (g.O.Write.contents c.args.output.now)
    (g.O.Write.contents c.write_batch.new.output) c.in_ok-goes_on.goes_on
    c.in_ok-goes_on.ensures.handles c.requires.empty c.in_ok-write_batch.ensures.writes

pub returns-in_err-goes_on-clause-stopped : goal.returns-in_err-goes_on-clause-stopped
returns-in_err-goes_on-clause-stopped g c =
    stopped_so g.M.Machine.handles g.M.Machine.notes g.M.Machine.fails c.args.machine.now
    (reader_remaining g.I.Read.remaining c.args.input.now) c.from_residual.result c.in_err-goes_on.field-0.0
    c.from_residual.ensures.1 c.in_err-goes_on.ensures.stopped

pub returns-in_err-write_batch-clause-stopped : goal.returns-in_err-write_batch-clause-stopped
returns-in_err-write_batch-clause-stopped g c =
    let error = c.in_err-write_batch.field-0.0 in
    let had = reader_remaining g.I.Read.remaining c.args.input.now in
    stopped_so g.M.Machine.handles g.M.Machine.notes g.M.Machine.fails c.args.machine.now had
    c.from_residual-in_err-write_batch.result error c.from_residual-in_err-write_batch.ensures.1
    (lost_stops g.M.Machine.handles g.M.Machine.notes g.M.Machine.fails c.args.machine.now had error c.in_err-write_batch.ensures.lost)

pub returns-in_err-goes_on-clause-failure : goal.returns-in_err-goes_on-clause-failure
returns-in_err-goes_on-clause-failure g c =
    told_none _ c.from_residual.result c.in_err-goes_on.field-0.0 c.from_residual.ensures.1 c.in_err-goes_on.ensures.kind

pub returns-in_err-write_batch-clause-failure : goal.returns-in_err-write_batch-clause-failure
returns-in_err-write_batch-clause-failure g c =
    let residual = c.from_residual-in_err-write_batch in
    told_so (Unit {0}) _ _ _ residual.result c.in_err-write_batch.field-0.0 residual.ensures.1 refl c.in_err-write_batch.ensures.failure
