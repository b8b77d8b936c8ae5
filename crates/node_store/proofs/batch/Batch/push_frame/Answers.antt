use Rattle.std.proofs.Common.{length, refl, sym, ◌∙◌}
use Rattle.node_store.proofs.WaitingLemmas.{early_added, late_added, no_bytes, some_bytes}
use Rattle.node_store.proofs.batch.Batch.push_frame.Goals as goal

pub returns-then-is_empty : goal.returns-then-is_empty
returns-then-is_empty c =
    let log = c.args.self.now.log in
    early_added c.push_frame.result c.args.self.now _ c.args.frame.now
    (no_bytes log (length log) refl (sym c.is_empty.ensures ∙ c.if-is_empty.true)) c.push_frame.ensures refl refl refl

pub returns-else-is_empty : goal.returns-else-is_empty
returns-else-is_empty c =
    let log = c.args.self.now.log in
    late_added c.push_frame-else-is_empty.result c.args.self.now _ c.args.frame.now
    (some_bytes log (length log) refl (sym c.is_empty.ensures ∙ c.if-is_empty.false)) c.push_frame-else-is_empty.ensures refl refl refl
