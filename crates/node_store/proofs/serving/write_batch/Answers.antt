use Rattle.node_store.proofs.OutputLemmas.{early_unsent, late_unsent, unlogged_first}
use Rattle.node_store.proofs.serving.write_batch.Goals as goal

pub returns-in-Err-write_out-clause-writes : goal.returns-in-Err-write_out-clause-writes
returns-in-Err-write_out-clause-writes g c =
    let kept = g.L.Log.kept c.args.log.now in
    let keeps = g.L.Log.kept c.append_bytes.new.log in
    let held = g.O.Write.contents c.args.output.now in
    let middle = g.O.Write.contents c.write_out.new.output in
    let holds = g.O.Write.contents c.write_out-2.new.output in
    λ chain outputs has. (
      late_unsent chain c.args.batch.now outputs has kept keeps held middle holds c.in-Err-write_out.error
          c.in_default.ensures
          c.in_default-append_bytes.ensures.kept
          c.in-Err-write_out.ensures,
      λ bytes. tt,
    )

pub returns-in-Err-clause-writes : goal.returns-in-Err-clause-writes
returns-in-Err-clause-writes g c =
    λ chain outputs has. (
      early_unsent chain c.args.batch.now outputs has _ _ _ c.in-Err.error c.in-Err.ensures,
      λ bytes. tt,
    )

pub returns-in-Err-append_bytes-clause-writes : goal.returns-in-Err-append_bytes-clause-writes
returns-in-Err-append_bytes-clause-writes g c =
    λ chain outputs has. (
      unlogged_first chain c.args.batch.now outputs has _ _ _ _ c.in-Err-append_bytes.error c.in_default.ensures
          c.in-Err-append_bytes.ensures.kept,
      λ bytes. tt,
    )
