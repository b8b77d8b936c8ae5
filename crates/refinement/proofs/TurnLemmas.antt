-- What a node does is a turn of the world: the events by which it happens, and then waits in reserve.
use Rattle.std.proofs.Common.{◌≡◌, ◌+◌, List, length, refl, sym, subst, ap, ◌∙◌}
use Rattle.std.proofs.lemmas.List.{length-append}
use Rattle.record.specs.declared.call.Entry.{Entry}
use Rattle.record.specs.Fragments.{Code}
use Rattle.network.specs.Worlds.{World}
use Rattle.network.specs.Events.{world_after}
use Rattle.network.specs.Premises.{MayHappenInTurn}
use Rattle.local_object.specs.Events.{LocalEvent, done_here}
use Rattle.local_object.specs.Local.{LocalObject}
use Rattle.local_object.specs.Outcomes.{Outcome}
use Rattle.told_replies.specs.EarlyAnswers.{EarlyAnswer, early_history}
use Rattle.told_replies.specs.Tellings.{Run, world_of}
use Rattle.told_queries.specs.Courses.{AreWaits, Course, Turn, run_of, spare_events, turn_events}
use Rattle.refinement.specs.Refined.{IsRefined}
use Rattle.refinement.specs.Starting.{about, event_count}
use Rattle.refinement.specs.Systems.{AreEarlyAnswers}
use Rattle.refinement.proofs.EarlyAnswerLemmas.{HasActed, answers_later}
use Rattle.refinement.proofs.EarlyRunLemmas.{course_longer, longer, longer_twice, run_course_longer, world_longer}
use Rattle.refinement.proofs.RefinedEventLemmas.{both_refined}
use Rattle.refinement.proofs.ToldLetterLemmas.{AreServedBy}
use Rattle.refinement.proofs.WaitingLemmas.{WaitsLong, waits_long}

-- the turn that an event at a node is, and the early answers then
pub record HasTurn (fragment : Code) (course : Course) (local : LocalObject) (event : LocalEvent) (history : List Entry) : Type 0 where
  pub turn : Turn
  pub is_about : turn.call ≡ about event
  pub number : length (turn_events turn) ≡ event_count local event + spare_events
  pub acted : IsRefined fragment (world_of fragment (run_of course)) turn.acts (done_here fragment local event)
  pub refined : IsRefined fragment (world_of fragment (run_of course)) (turn_events turn) (done_here fragment local event)
  pub waits : AreWaits (world_after fragment turn.acts (world_of fragment (run_of course))) turn.spare
  pub enough : length turn.spare ≡ spare_events
  pub served : AreServedBy local event turn.acts
  pub answers : List EarlyAnswer
  pub early : AreEarlyAnswers fragment (run_of (course_longer course turn)) answers history

module _ (fragment : Code) (course : Course) (local : LocalObject) (event : LocalEvent) (history : List Entry)
    (led : HasActed fragment (run_of course) local event history) where
  abbrev run : Run
  run = run_of course

  abbrev world : World
  world = world_of fragment run

  abbrev later : World
  later = world_after fragment led.events world

  abbrev done : Outcome
  done = done_here fragment local event

  abbrev long : WaitsLong fragment later done spare_events
  long = waits_long fragment spare_events later done led.refined.formed led.refined.part led.refined.sent

  abbrev turn : Turn
  turn = record { call = about event; acts = led.events; spare = long.events }

  there : world_of fragment (longer run led.events) ≡ later
  there = world_longer fragment run led.events

  -- waits leave the history as it is
  same_history : early_history led.answers (world_after fragment long.events (world_of fragment (longer run led.events))).history ≡ history
  same_history =
      ap (λ w. early_history led.answers (world_after fragment long.events w).history) there
      ∙ ap (λ (w : World). early_history led.answers w.history) long.later
      ∙ ap (λ (w : World). early_history led.answers w.history) (sym there) ∙ led.early.same

  pub with_spare : HasTurn fragment course local event history
  with_spare = record {
    turn = turn;
    is_about = refl;
    number = length-append led.events long.events ∙ ap (λ n. n + length long.events) led.number
        ∙ ap (λ n. event_count local event + n) long.number;
    acted = led.refined;
    refined = both_refined fragment world led.events long.events done done refl led.refined long.refined;
    waits = long.are_waits;
    enough = long.number;
    served = led.served;
    answers = led.answers;
    early = subst (λ r. AreEarlyAnswers fragment r led.answers history)
        (longer_twice run led.events long.events ∙ sym (run_course_longer course turn))
        (answers_later fragment (longer run led.events) long.events led.answers history history led.early
        (subst (MayHappenInTurn fragment long.events) (sym there) long.refined.may) same_history);
  }
