-- What happens at a node, in the run of the world, and the early answers that there are then.
use Rattle.std.proofs.Common.{◌≡◌, ℕ, suc, false, List, [], ◌∷◌, ◌++◌, Option, None, Some}
use Rattle.std.proofs.Common.{refl, ap, ◌∙◌}
use Rattle.std.specs.List.{AllByRecursion}
use Rattle.record.specs.declared.call.CallKind.TheVariants.{Read, Write, Move}
use Rattle.record.specs.declared.call.Entry.{Entry}
use Rattle.record.specs.Fragments.{Code}
use Rattle.open_calls.specs.OpenCalls.{NodeCall, open_call}
use Rattle.network.specs.Worlds.{World, opened_world}
use Rattle.network.specs.Premises.{IsUnused, MayHappenInTurn}
use Rattle.local_object.specs.Events.{LocalEvent, done_here}
use Rattle.local_object.specs.Local.{LocalObject}
use Rattle.local_object.specs.May.{MayHappenHere}
use Rattle.told_replies.specs.EarlyAnswers.{EarlyAnswer, early_answer_to, early_history}
use Rattle.told_replies.specs.Tellings.{Run, world_of}
use Rattle.refinement.specs.Parts.{IsPartOf}
use Rattle.refinement.specs.Refined.{IsPremisedHere, begun_entry, history_after, with_answer, world_history}
use Rattle.refinement.specs.Starting.{HasEvents, event_count, is_querying}
use Rattle.refinement.specs.Systems.{AreEarlyAnswers}
use Rattle.refinement.specs.ToldLetters.{AreApart}
use Rattle.refinement.specs.WellFormed.{IsWellFormed}
use Rattle.refinement.proofs.EarlyAnswerLemmas.{HasActed, answers_later, ended_early, no_answer}
use Rattle.refinement.proofs.EarlyHistoryLemmas.{seen_answered, seen_push}
use Rattle.refinement.proofs.EarlyRunLemmas.{IsReportOf}
use Rattle.refinement.proofs.LocalEventLemmas.{each_refined}
use Rattle.refinement.proofs.PlainEventLemmas.{each_plain}
use Rattle.refinement.proofs.ToldLetterLemmas.{AreServedBy}

module _ (fragment : Code) (run : Run) (answers : List EarlyAnswer) (history : List Entry) (local : LocalObject)
    (happened : MayHappenInTurn fragment run.events (opened_world run.files)) (formed : IsWellFormed fragment (world_of fragment run))
    (part : IsPartOf (world_of fragment run) local) (is : AreEarlyAnswers fragment run answers history) where
  abbrev world : World
  world = world_of fragment run

  -- the history after an event that comes next
  abbrev after : LocalEvent → List Entry
  after event = history_after local event (suc world.now) history

  -- an event after which there are no more early answers
  goes_on : (event : LocalEvent) → (led : HasEvents fragment world (done_here fragment local event)
      (world_history local event (suc world.now) world.history) (event_count local event)) → AreServedBy local event led.events →
      early_history answers (world_history local event (suc world.now) world.history) ≡ after event →
      HasActed fragment run local event (after event)
  goes_on event led served same = record {
    events = led.events;
    number = led.number;
    refined = led.refined;
    served = served;
    answers = answers;
    early = answers_later fragment run led.events answers history (after event) is led.refined.may
        (ap (early_history answers) led.entries ∙ same);
  }

  begins : (id : ℕ) (entry : Entry) → entry.call ≡ id → IsUnused world id →
      early_history answers (world.history ++ entry ∷ []) ≡ history ++ entry ∷ []
  begins id entry same unused =
      seen_push answers world.history entry (ap (early_answer_to answers) same ∙ is.used id unused)
      ∙ ap (λ entries. entries ++ entry ∷ []) is.same

  none : (id : ℕ) (call : NodeCall) → open_call local.calls id ≡ Some call → early_answer_to answers call.id ≡ None
  none = no_answer fragment run answers history local happened formed part is

  answers_one : (id now : ℕ) (o : Option NodeCall) → open_call local.calls id ≡ o →
      early_history answers (with_answer o now world.history) ≡ with_answer o now history
  answers_one id now None open_here = is.same
  answers_one id now (Some call) open_here =
      seen_answered answers call (none id call open_here) now world.history ∙ ap (with_answer (Some call) now) is.same

  -- an event with the history of the world
  each : (event : LocalEvent) → is_querying event ≡ false → MayHappenHere fragment local event → IsPremisedHere world local event →
      HasEvents fragment world (done_here fragment local event) (world_history local event (suc world.now) world.history)
      (event_count local event)
  each event plain may premised = each_refined event plain fragment world local formed part may premised

  pub acted_here : (event : LocalEvent) → is_querying event ≡ false → MayHappenHere fragment local event →
      IsPremisedHere world local event → AllByRecursion (IsReportOf fragment run) local.reports → AreApart local.reports →
      HasActed fragment run local event (after event)
  acted_here (LocalEvent.BeginRead id) plain may premised are apart =
      goes_on (LocalEvent.BeginRead id) (each (LocalEvent.BeginRead id) plain may premised) tt
      (begins id (begun_entry id Read (suc world.now)) refl premised)
  acted_here (LocalEvent.BeginWrite id value) plain may premised are apart =
      goes_on (LocalEvent.BeginWrite id value) (each (LocalEvent.BeginWrite id value) plain may premised) tt
      (begins id (begun_entry id (Write value) (suc world.now)) refl premised)
  acted_here (LocalEvent.BeginMove id layout) plain may premised are apart =
      goes_on (LocalEvent.BeginMove id layout) (each (LocalEvent.BeginMove id layout) plain may premised) tt
      (begins id (begun_entry id Move (suc world.now)) refl premised.0)
  acted_here (LocalEvent.Serve letter) plain may premised are apart =
      let done = each_plain (LocalEvent.Serve letter) refl fragment world local formed part may premised in
      goes_on (LocalEvent.Serve letter) (record {
        events = _;
        number = refl;
        refined = done.0;
        entries = done.1;
      }) refl is.same
  acted_here (LocalEvent.Answer id) plain may premised are apart =
      goes_on (LocalEvent.Answer id) (each (LocalEvent.Answer id) plain may premised) tt
      (answers_one id (suc world.now) (open_call local.calls id) refl)
  acted_here (LocalEvent.EndEarly id returned) plain may premised are apart =
      ended_early fragment run answers history local happened formed part is id returned may are apart
  acted_here event plain may premised are apart = goes_on event (each event plain may premised) tt is.same
