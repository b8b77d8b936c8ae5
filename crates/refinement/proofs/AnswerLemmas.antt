-- The answers of calls, by the history of all nodes.
use Rattle.std.proofs.Common.{◌≡◌, ℕ, suc, true, List, [], ◌∷◌, map, Option, Some, is_some, sym, subst, ap, ◌∙◌}
use Rattle.record.specs.declared.call.CallKind.TheVariants.{Read}
use Rattle.record.specs.declared.call.Entry.{Entry}
use Rattle.record.specs.Fragments.{Code}
use Rattle.record.specs.Journals.{entry_value, operation_of}
use Rattle.network.specs.Worlds.{World}
use Rattle.open_calls.specs.OpenCalls.{NodeCall}
use Rattle.network.specs.Events.{Event, answered_entry, world_after}
use Rattle.network.specs.Laws.{KeepsValues}
use Rattle.open_calls.proofs.OpenCallLemmas.{found}
use Rattle.network.proofs.WorldLawLemmas.{values_kept}
use Rattle.local_object.specs.Ended.{told_early, told_of}
use Rattle.told_replies.specs.Tellings.{world_of}
use Rattle.told_queries.specs.Courses.{run_of}
use Rattle.refinement.specs.Laws.{AnsweredReadsHaveValues, AnswersAreInHistory, EarlyAnswersAreInHistory}
use Rattle.refinement.specs.Refined.{early_entry, with_answer, with_early_answer}
use Rattle.refinement.specs.SystemValues.{HasAnswer, HasEarlyAnswer, told_value}
use Rattle.refinement.specs.WellFormed.{HasEntry}
use Rattle.refinement.proofs.ChangedCallLemmas.{carried}
use Rattle.refinement.proofs.LeftCallLemmas.{answer_refined}
use Rattle.refinement.proofs.SystemLawLemmas.{reached_with}
use Rattle.refinement.proofs.EarlyRunLemmas.{is_reached}
use Rattle.refinement.proofs.EventRunLemmas.{reached_later}
use Rattle.refinement.proofs.SystemRunLemmas.{open_entry}
use Rattle.refinement.proofs.ToldEntryLemmas.{answer_of, early_of, told_answer, told_there}

-- the history has the answer of a call that was open, with what its client is told
pub answer_there : (history : List Entry) (call : NodeCall) (now : ℕ) → HasEntry history call →
    HasAnswer (map (answered_entry call now) history) call now
answer_there history call now has =
    let told = told_there history call (told_of call) now has (answer_of call) in
    subst (λ history. HasAnswer history call now) (sym (told_answer call now history)) (record {
      place = told.place;
      entry = told.entry;
      at = told.at;
      same_id = told.call;
      kind = told.kind;
      answered = told.answered;
      value = told.value;
      each = told.each;
    })

pub answers_kept : AnswersAreInHistory
answers_kept fragment system node id call reached open_here =
    let has = open_entry fragment system node id call reached open_here in
    subst (λ o. HasAnswer (with_answer o (suc system.now) system.history) call (suc system.now)) (sym open_here)
    (answer_there system.history call (suc system.now) has)

early_there : (history : List Entry) (call : NodeCall) (value : Option (List ℕ)) (now : ℕ) → HasEntry history call →
    HasEarlyAnswer (map (early_entry call value now) history) call value now
early_there history call value now has =
    let told = told_there history call (told_early call value) now has (early_of call value) in record {
      place = told.place;
      entry = told.entry;
      at = told.at;
      same_id = told.call;
      kind = told.kind;
      answered = told.answered;
      value = told.value;
      each = told.each;
    }

pub early_answers_kept : EarlyAnswersAreInHistory
early_answers_kept fragment system node id call value reached open_here =
    let has = open_entry fragment system node id call reached open_here in
    subst (λ o. HasEarlyAnswer (with_early_answer o value (suc system.now) system.history) call value (suc system.now)) (sym open_here)
    (early_there system.history call value (suc system.now) has)

-- A read that is answered

-- what is told of a read is what it settled
read_told : (call : NodeCall) → call.kind ≡ Read → told_value call ≡ call.settled
read_told call e = ap (λ k. entry_value k (Some 0) call.settled) e

-- and so the answer of a read has a value, where answered reads return values
read_settled : (fragment : Code) (world : World) (call : NodeCall) (now : ℕ) → KeepsValues fragment world →
    HasAnswer world.history call now → call.kind ≡ Read → is_some call.settled ≡ true
read_settled fragment world call now keeps answer kind =
    let read = keeps.reads answer.place answer.entry answer.at (answer.kind ∙ ap operation_of kind) (ap is_some answer.answered) in
    some_value call.settled read.1 (sym (read_told call kind) ∙ sym answer.value ∙ read.2)
  where
    some_value : (o : Option (List ℕ)) (value : List ℕ) → o ≡ Some value → is_some o ≡ true
    some_value o value e = ap is_some e

pub answered_values : AnsweredReadsHaveValues
answered_values fragment system node id call code reached may open_here kind =
    let with_run = reached_with fragment system reached in
    let world = world_of fragment (run_of with_run.course) in
    let local = system.objects node in
    let part = with_run.is.parts.parts node in
    let formed = with_run.formed in
    let led = answer_refined id fragment world local formed part may tt in
    let carries = carried fragment world local id call formed part open_here in
    let has = (found (HasEntry world.history) world.calls id call formed.entries carries.open_there).0 in
    let later = world_after fragment (Event.Answer id ∷ []) world in
    let answer : HasAnswer later.history call (suc world.now) =
    subst (λ history. HasAnswer history call (suc world.now))
    (sym (led.1 ∙ ap (λ o. with_answer o (suc world.now) world.history) open_here)) (answer_there world.history call (suc world.now) has) in
    read_settled fragment later call (suc world.now)
    (values_kept fragment later code
    (reached_later fragment world (Event.Answer id ∷ []) (is_reached fragment with_run.course with_run.reached) led.0.may)) answer kind
