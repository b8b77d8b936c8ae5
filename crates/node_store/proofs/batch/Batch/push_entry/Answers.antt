use Rattle.std.proofs.Common.{refl}
use Rattle.node_store.specs.declared.batch.Batch.{Batch}
use Rattle.node_store.proofs.WaitingLemmas.{gathers_entry}
use Rattle.node_store.proofs.batch.Batch.push_entry.Goals as goal

pub returns : goal.returns
returns c =
    let old = c.args.self.now in
    let new : Batch = record old { log = c.push_entry.new.bytes; chain = c.pass.new.self } in
    gathers_entry old new c.args.entry.now refl c.in_ok-push_entry.ensures refl c.pass.ensures
