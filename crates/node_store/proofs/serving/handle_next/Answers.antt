use Rattle.std.proofs.Common.{◌≡◌, rules}
use Rattle.frames.specs.declared.error.Fault.TheVariants.{UnexpectedEnd}
use Rattle.node_store.specs.declared.stop.ServeError.TheVariants.{NoFrame}
use Rattle.node_store.proofs.FrameReadingLemmas.{found_frame, end_from, no_frame_from, none_left}
use Rattle.node_store.proofs.ServingLemmas.{arrived_one, arrived_end, arrived_stop}
use Rattle.node_store.proofs.StoppingLemmas.{stops_here}
use Rattle.node_store.proofs.serving.handle_next.Goals as goal

pub returns-in-Ok-clause-handles : goal.returns-in-Ok-clause-handles
returns-in-Ok-clause-handles g c =
    let had = g.R.Read.remaining c.args.input.now in
    let left = g.R.Read.remaining c.read_frame.new.reader in
    arrived_one g.M.Machine.handles g.M.Machine.notes c.args.machine.now c.handle.new.machine c.in-Ok-Some.frame had left
    c.args.batch.now c.handle.new.batch
    (found_frame had left c.in-Ok-Some.field-0 c.in-Ok-Some.frame c.in-Ok-Some.field-0-is c.in-Ok-Some.ensures.found)
    c.in-Ok.ensures.handled

pub returns-in-Ok-None-clause-handles : goal.returns-in-Ok-None-clause-handles
returns-in-Ok-None-clause-handles g c =
    let had = g.R.Read.remaining c.args.input.now in
    let left = g.R.Read.remaining c.read_frame.new.reader in
    arrived_end g.M.Machine.handles g.M.Machine.notes c.args.machine.now had left c.args.batch.now
    (none_left had left c.in-Ok-None.field-0 c.in-Ok-None.field-0-is c.in-Ok-None.ensures.found)

pub returns-in-Err-Fault-UnexpectedEnd-clause-handles : goal.returns-in-Err-Fault-UnexpectedEnd-clause-handles
returns-in-Err-Fault-UnexpectedEnd-clause-handles g c =
    let had = g.R.Read.remaining c.args.input.now in
    let left = g.R.Read.remaining c.read_frame.new.reader in
    let arm = c.in-Err-Fault-UnexpectedEnd in
    arrived_end g.M.Machine.handles g.M.Machine.notes c.args.machine.now had left c.args.batch.now
    (end_from had left arm.field-0 arm.field-0-0 arm.field-0-is arm.field-0-0-is arm.ensures.exact)

pub returns-in-Err-Fault-clause-handles : goal.returns-in-Err-Fault-clause-handles
returns-in-Err-Fault-clause-handles g c =
    let had = g.R.Read.remaining c.args.input.now in
    let left = g.R.Read.remaining c.read_frame.new.reader in
    let arm = c.in-Err-Fault in
    let late : arm.fault ≡ UnexpectedEnd → ⊥ = search rules in
    arrived_stop g.M.Machine.handles g.M.Machine.notes c.args.machine.now had (NoFrame arm.fault)
    (no_frame_from had left arm.field-0 arm.fault arm.field-0-is late arm.ensures.exact)

pub returns-in-Err-clause-stopped : goal.returns-in-Err-clause-stopped
returns-in-Err-clause-stopped g c =
    let had = g.R.Read.remaining c.args.input.now in
    let left = g.R.Read.remaining c.read_frame.new.reader in
    stops_here g.M.Machine.handles g.M.Machine.notes g.M.Machine.fails c.args.machine.now had left c.in-Ok-Some.frame c.in-Err.error
    (found_frame had left c.in-Ok-Some.field-0 c.in-Ok-Some.frame c.in-Ok-Some.field-0-is c.in-Ok-Some.ensures.found)
    c.in-Err.ensures.refused
