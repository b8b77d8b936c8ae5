use Rattle.std.proofs.Common.{sym, subst}
use Rattle.std.specs.List.{AllByRecursion}
use Rattle.local_object.specs.Local.{Place}
use Rattle.recoveries.specs.RewrittenRecords.{close_records, closes_records}
use Rattle.node_keeper.specs.Fitting.{IsLoggable}
use Rattle.node_keeper.proofs.ClosedRecordLemmas.{closes_part, closes_step}
use Rattle.node_keeper.proofs.FittingLemmas.{unwritten_more}
use Rattle.node_keeper.proofs.ResultLemmas.{fails_same}
use Rattle.node_keeper.proofs.keeper.Keeper.log_closes.Goals as goal

pub loop-place-preserved : goal.loop-place-preserved
loop-place-preserved c =
    closes_step c.args.self.now.digest c.args.name.now c.args.places.now c.loop-place.place-index c.place-item.result
    c.loop-place-test.true c.place-item.is c.args.entries.now.items c.loop-place.entries.items c.log_closed.new.entries.items
    c.loop-place.invariant c.in_ok-log_closed.ensures.appended c.in_ok-log_closed.ensures.writes

pub returns-in_err-log_closed-clause-writes : goal.returns-in_err-log_closed-clause-writes
returns-in_err-log_closed-clause-writes c =
    let fits = IsLoggable c.args.self.now.digest in
    let name = c.args.name.now in
    let places = c.args.places.now in
    let i = c.loop-place.place-index in
    let place = c.place-item.result in
    let error = c.in_err-log_closed.field-0.0 in
    fails_same _ c.from_residual.result error c.from_residual.ensures.1
    (unwritten_more (AllByRecursion fits (close_records name place)) (AllByRecursion fits (closes_records name places))
    (λ all. subst (λ (p : Place). AllByRecursion fits (close_records name p)) (sym c.place-item.is)
    (closes_part fits name places i place c.loop-place-test.true all)) error c.in_err-log_closed.ensures.writes)
