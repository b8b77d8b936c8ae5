use Rattle.std.proofs.Common.{◌≡◌, ◌∙◌, ◌∷◌, ◌++◌, [], length, map, subst}
use Rattle.std.proofs.lemmas.Iterator.Adapters.{YieldsList-from_vec}
use Rattle.std.proofs.lemmas.Iterator.Consumers.{YieldsList-turn}
use Rattle.std.specs.List.{AllByRecursion}
use Rattle.recoveries.specs.Records.{LogRecord}
use Rattle.node_effects.specs.Errors.{IsUnwritten}
use Rattle.node_keeper.specs.Fitting.{IsLoggable}
use Rattle.node_keeper.specs.Logging.{log_entry_of}
use Rattle.node_keeper.proofs.AnewLemmas.{letter_at, letters_push}
use Rattle.node_keeper.proofs.FittingLemmas.{unwritten_more}
use Rattle.node_keeper.proofs.ResultLemmas.{fails_same}
use Rattle.node_keeper.proofs.keeper.Keeper.log_letters.Goals as goal

pub returns-in_err-log_letter-clause-writes : goal.returns-in_err-log_letter-clause-writes
returns-in_err-log_letter-clause-writes c =
    let digest = c.args.self.now.digest in
    let name = c.args.name.now in
    let letter = c.in-Some.letter in
    let error = c.in_err-log_letter.field-0.0 in
    let iterator = c.into_iter-letter-iterator.result in
    let items : iterator.rest.items ≡ c.args.letters.items = c.into_iter-letter-iterator.ensures.into_iter_gives.0 in
    let len : iterator.rest.len ≡ length c.args.letters.items =
    c.into_iter-letter-iterator.ensures.into_iter_gives.1 ∙ c.args.letters.ok.0 in
    let at = YieldsList-turn (YieldsList-from_vec c.args.letters.items items len) c.loop-letter.yielded
    c.loop-letter.letter-iterator c.loop-letter.yielded_by c.next.result c.next.new.self letter c.in-Some.is c.next.ensures.steps in
    fails_same _ c.from_residual-in_err-log_letter.result error c.from_residual-in_err-log_letter.ensures.1
    (unwritten_more (IsLoggable digest (LogRecord.Serves name letter))
    (AllByRecursion (IsLoggable digest) (map (LogRecord.Serves name) c.args.letters.items))
    (λ all. letter_at digest name c.args.letters.items (length c.loop-letter.yielded) letter at all) error
    (subst (λ s. IsUnwritten (IsLoggable digest (LogRecord.Serves s letter)) error) c.in_ok-name.ensures.cases
    c.in_err-log_letter.ensures.writes))

pub loop-letter-preserved : goal.loop-letter-preserved
loop-letter-preserved c =
    let digest = c.args.self.now.digest in
    let name = c.args.name.now in
    let letter = c.in-Some.letter in
    letters_push digest name c.args.entries.now.items c.loop-letter.entries.items c.log_letter.new.entries.items
    c.loop-letter.yielded letter c.loop-letter.invariant
    (subst (λ s. c.log_letter.new.entries.items
    ≡ c.loop-letter.entries.items ++ log_entry_of digest (LogRecord.Serves s letter) ∷ []) c.in_ok-name.ensures.cases
    c.in_ok-log_letter.ensures.appended)
    (subst (λ s. IsLoggable digest (LogRecord.Serves s letter)) c.in_ok-name.ensures.cases c.in_ok-log_letter.ensures.writes)
