use Rattle.std.proofs.Common.{◌≡◌, ◌++◌, ◌∙◌, List, OnOk, ap, map, subst}
use Rattle.std.specs.List.{AllByRecursion}
use Rattle.letter.specs.declared.letter.Letter.{Letter}
use Rattle.local_object.specs.Local.{Place}
use Rattle.object_letters.specs.Letters.{letters_as}
use Rattle.recoveries.specs.Records.{LogRecord}
use Rattle.recoveries.specs.RewrittenRecords.{closes_records, places_records, records_of_name}
use Rattle.node_effects.specs.Errors.{IsUnwritten, WritesOrFails}
use Rattle.node_keeper.specs.Fitting.{IsLoggable}
use Rattle.node_keeper.specs.Logging.{log_entry_of}
use Rattle.node_keeper.proofs.AnewLemmas.{all_first, all_second, writes_rest}
use Rattle.node_keeper.proofs.PlaceRecordLemmas.{object_appended}
use Rattle.node_keeper.proofs.FittingLemmas.{unwritten_more}
use Rattle.node_keeper.proofs.ResultLemmas.{fails_same}
use Rattle.node_keeper.proofs.keeper.Keeper.log_object.Goals as goal

pub returns-in_err-log_places-clause-writes : goal.returns-in_err-log_places-clause-writes
returns-in_err-log_places-clause-writes c =
    let fits = IsLoggable c.args.self.now.digest in
    let name = c.args.name.now in
    let local = c.args.object.now in
    let node = c.args.self.now.ids.node in
    let places = places_records name local.places in
    let rest = map (LogRecord.Serves name) (letters_as node local) ++ closes_records name local.places in
    let error = c.in_err-log_places.field-0.0 in
    fails_same _ c.from_residual.result error c.from_residual.ensures.1
    (unwritten_more (AllByRecursion fits places) (AllByRecursion fits (records_of_name node name local))
    (λ all. all_first fits places rest all) error
    (subst (λ (ps : List Place). IsUnwritten (AllByRecursion fits (places_records name ps)) error) c.places.ensures
    c.in_err-log_places.ensures.writes))

pub returns-in_err-log_letters-clause-writes : goal.returns-in_err-log_letters-clause-writes
returns-in_err-log_letters-clause-writes c =
    let fits = IsLoggable c.args.self.now.digest in
    let name = c.args.name.now in
    let local = c.args.object.now in
    let node = c.args.self.now.ids.node in
    let places = places_records name local.places in
    let letters = map (LogRecord.Serves name) (letters_as node local) in
    let closes = closes_records name local.places in
    let error = c.in_err-log_letters.field-0.0 in
    fails_same _ c.from_residual-in_err-log_letters.result error c.from_residual-in_err-log_letters.ensures.1
    (unwritten_more (AllByRecursion fits letters) (AllByRecursion fits (records_of_name node name local))
    (λ all. all_first fits letters closes (all_second fits places (letters ++ closes) all)) error
    (subst (λ (ls : List Letter). IsUnwritten (AllByRecursion fits (map (LogRecord.Serves name) ls)) error)
    (c.in_ok-letters.ensures.letters ∙ ap (λ n. letters_as n c.args.object.now) c.number.ensures.number)
    c.in_err-log_letters.ensures.writes))

pub returns-clause-writes : goal.returns-clause-writes
returns-clause-writes c =
    let digest = c.args.self.now.digest in
    let fits = IsLoggable digest in
    let name = c.args.name.now in
    let local = c.args.object.now in
    let letters = map (LogRecord.Serves name) (letters_as c.args.self.now.ids.node local) in
    let closes = closes_records name local.places in
    writes_rest digest (places_records name local.places) (letters ++ closes) c.log_closes.result
    (subst (λ (ps : List Place). AllByRecursion fits (places_records name ps)) c.places.ensures
    c.in_ok-log_places.ensures.writes)
    (writes_rest digest letters closes c.log_closes.result
    (subst (λ (ls : List Letter). AllByRecursion fits (map (LogRecord.Serves name) ls))
    (c.in_ok-letters.ensures.letters ∙ ap (λ n. letters_as n c.args.object.now) c.number.ensures.number)
    c.in_ok-log_letters.ensures.writes)
    (subst (λ (ps : List Place). WritesOrFails (AllByRecursion fits (closes_records name ps)) c.log_closes.result)
    c.places-2.ensures c.log_closes.ensures.writes))

pub returns-clause-appended : goal.returns-clause-appended
returns-clause-appended c =
    let digest = c.args.self.now.digest in
    let name = c.args.name.now in
    object_appended digest name c.args.self.now.ids.node c.args.object.now c.args.entries.now.items
    c.log_places.new.entries.items c.log_letters.new.entries.items c.log_closes.new.entries.items c.log_closes.result
    (subst (λ (ps : List Place). c.log_places.new.entries.items
    ≡ c.args.entries.now.items ++ map (log_entry_of digest) (places_records name ps)) c.places.ensures
    c.in_ok-log_places.ensures.appended)
    (subst (λ (letters : List Letter). c.log_letters.new.entries.items
    ≡ c.log_places.new.entries.items ++ map (log_entry_of digest) (map (LogRecord.Serves name) letters))
    (c.in_ok-letters.ensures.letters ∙ ap (λ n. letters_as n c.args.object.now) c.number.ensures.number)
    c.in_ok-log_letters.ensures.appended)
    (subst (λ (ps : List Place). OnOk c.log_closes.result (c.log_closes.new.entries.items
    ≡ c.log_letters.new.entries.items ++ map (log_entry_of digest) (closes_records name ps)))
    c.places-2.ensures c.log_closes.ensures.appended)
