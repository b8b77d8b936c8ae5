use Rattle.std.proofs.Common.{arith}
use Rattle.std.proofs.lemmas.Grind.{common_steps}
use Rattle.std.specs.List.{AllByRecursion}
use Rattle.recoveries.specs.RewrittenRecords.{epoch_records}
use Rattle.node_keeper.specs.Objects.{heard_names}
use Rattle.node_keeper.specs.Anew.{anew_records, object_records_of}
use Rattle.node_keeper.specs.Fitting.{IsLoggable}
use Rattle.node_keeper.specs.Keeping.{kept_of}
use Rattle.node_keeper.proofs.AnewLemmas.{all_first, on_map, writes_rest}
use Rattle.node_keeper.proofs.AnewReadLemmas.{anew_read}
use Rattle.node_keeper.proofs.FittingLemmas.{unwritten_more}
use Rattle.node_keeper.proofs.ResultLemmas.{fails_same, writes_ok}
use Rattle.node_keeper.proofs.keeper.Keeper.log_anew.Goals as goal

pub returns-in_err-log_epochs-clause-writes : goal.returns-in_err-log_epochs-clause-writes
returns-in_err-log_epochs-clause-writes c =
    let keeper = c.args.self.now in
    let fits = IsLoggable keeper.digest in
    let epochs = epoch_records keeper.ids.epoch in
    let error = c.in_err-log_epochs.field-0.0 in
    fails_same _ c.from_residual.result error c.from_residual.ensures.1
    (unwritten_more (AllByRecursion fits epochs) (AllByRecursion fits (anew_records keeper))
    (λ all. all_first fits epochs (object_records_of keeper) all) error c.in_err-log_epochs.ensures.writes)

pub returns-clause-read : goal.returns-clause-read
returns-clause-read c =
    let keeper = c.args.self.now in
    on_map c.log_objects.result
    (writes_ok (AllByRecursion (IsLoggable keeper.digest) (object_records_of keeper)) c.log_objects.result
    c.log_objects.ensures.writes)
    (λ fits. anew_read keeper.digest (kept_of keeper) (heard_names keeper.objects) fits)

pub returns-clause-writes : goal.returns-clause-writes
returns-clause-writes c =
    let keeper = c.args.self.now in
    writes_rest keeper.digest (epoch_records keeper.ids.epoch) (object_records_of keeper) c.log_objects.result
    c.in_ok-log_epochs.ensures.writes c.log_objects.ensures.writes

pub returns-clause-appended : goal.returns-clause-appended
returns-clause-appended c = grind (arith, common_steps)
