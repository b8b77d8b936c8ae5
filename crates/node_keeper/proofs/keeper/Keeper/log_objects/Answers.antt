use Rattle.std.proofs.Common.{◌≡◌, ◌<◌, [], Some, length, get_or, slice_get, arith}
use Rattle.std.proofs.lemmas.Option.{slice_get-get_or}
use Rattle.std.specs.List.{AllByRecursion}
use Rattle.node_keeper.specs.Objects.{heard_names}
use Rattle.node_keeper.specs.Anew.{name_records, object_records_of}
use Rattle.node_keeper.specs.Fitting.{IsLoggable}
use Rattle.node_keeper.specs.Keeping.{kept_of}
use Rattle.node_keeper.proofs.AnewLemmas.{object_part, objects_fit, objects_step}
use Rattle.node_keeper.proofs.HeardNameLemmas.{heard_of}
use Rattle.node_keeper.proofs.FittingLemmas.{unwritten_more}
use Rattle.node_keeper.proofs.ResultLemmas.{fails_same}
use Rattle.node_keeper.proofs.keeper.Keeper.log_objects.Goals as goal

pub loop-index-preserved : goal.loop-index-preserved
loop-index-preserved c =
    let keeper = c.args.self.now in
    let names = heard_names keeper.objects in
    let i = c.loop-index.index in
    let name = get_or names i [] in
    let less : i < length names = omega (arith, c.count-index-end.ensures.count, c.loop-index-test.true) in
    let at : slice_get names i ≡ Some name = slice_get-get_or names i [] less in (
      objects_step keeper i name c.args.entries.now.items c.loop-index.entries.items c.log_named.new.entries.items at
          c.loop-index.invariant.0 (c.in_ok-log_named.ensures.appended name at),
      objects_fit keeper i name at c.loop-index.invariant.1 (c.in_ok-log_named.ensures.writes name at),
    )

pub returns-in_err-log_named-clause-writes : goal.returns-in_err-log_named-clause-writes
returns-in_err-log_named-clause-writes c =
    let keeper = c.args.self.now in
    let names = heard_names keeper.objects in
    let fits = IsLoggable keeper.digest in
    let i = c.loop-index.index in
    let name = get_or names i [] in
    let error = c.in_err-log_named.field-0.0 in
    let less : i < length names = omega (arith, c.count-index-end.ensures.count, c.loop-index-test.true) in
    let at : slice_get names i ≡ Some name = slice_get-get_or names i [] less in
    fails_same _ c.from_residual.result error c.from_residual.ensures.1
    (unwritten_more (AllByRecursion fits (name_records name keeper)) (AllByRecursion fits (object_records_of keeper))
    (λ all. object_part fits (kept_of keeper) names i name at all) error (c.in_err-log_named.ensures.writes name at))

pub returns-clause-names : goal.returns-clause-names
returns-clause-names c own = heard_of c.args.self.now c.count-index-end.ensures.unique own
