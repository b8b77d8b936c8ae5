-- Early answers in the run of the world: they stay, and a call that ends early has one more.
use Rattle.std.proofs.Common.{◌≡◌, ◌⊎◌, ℕ, suc, cond, List, [], ◌∷◌, ◌++◌, length, Option, None, Some}
use Rattle.std.proofs.Common.{append_assoc, inl, inr, refl, sym, subst, ap, ◌∙◌, arith}
use Rattle.std.specs.List.{AllByRecursion}
use Rattle.record.specs.declared.call.Entry.{Entry}
use Rattle.record.specs.Fragments.{Code}
use Rattle.soundness.proofs.ListLemmas.{all_get, all_weaker}
use Rattle.open_calls.specs.OpenCalls.{NodeCall, open_call}
use Rattle.open_calls.proofs.CallsOfNodeLemmas.{differs}
use Rattle.open_calls.proofs.OpenCallLemmas.{found}
use Rattle.network.specs.Worlds.{World, opened_world}
use Rattle.network.specs.Events.{Event, happens, world_after}
use Rattle.network.specs.Premises.{IsUnused, MayHappenInTurn}
use Rattle.local_object.specs.Early.{EndsAtOnceHere, EndsHeldHere}
use Rattle.local_object.specs.Events.{LocalEvent, done_here}
use Rattle.local_object.specs.Local.{LocalObject}
use Rattle.local_object.specs.May.{MayHappenHere}
use Rattle.told_replies.specs.EarlyAnswers.{EarlyAnswer, EndsAtOnce, EndsHeld, IsEarly, early_answer_to, early_history}
use Rattle.told_replies.specs.Tellings.{Run, world_of}
use Rattle.refinement.specs.Parts.{IsPartOf}
use Rattle.refinement.specs.Refined.{IsRefined, history_after, with_early_answer}
use Rattle.refinement.specs.Starting.{event_count}
use Rattle.refinement.specs.Systems.{AreEarlyAnswers}
use Rattle.refinement.specs.ToldLetters.{AreApart}
use Rattle.refinement.specs.WellFormed.{HasEntry, IsWellFormed}
use Rattle.refinement.proofs.ChangedCallLemmas.{IsCarried, carried}
use Rattle.refinement.proofs.EarlyHistoryLemmas.{IsOwn, ending, seen_ended}
use Rattle.refinement.proofs.EarlyRunLemmas.{IsReportOf, early_later, longer, run_report_later, world_longer}
use Rattle.refinement.proofs.EndedEarlyLemmas.{EndsInTwo, ends_in_two}
use Rattle.refinement.proofs.LeftCallLemmas.{all_left}
use Rattle.refinement.proofs.ToldCallLemmas.{at_once_there, held_there}
use Rattle.refinement.proofs.ToldLetterLemmas.{AreServedBy}
use Rattle.refinement.proofs.WorldIdLemmas.{HasNot, IdsDiffer, differ_later, ids_later, ids_of, only_entry}

-- the answers stay early, to calls that are open no more, as the run goes on by events that may happen
pub answers_later : (fragment : Code) (run : Run) (more : List Event) (answers : List EarlyAnswer) (history after : List Entry) →
    AreEarlyAnswers fragment run answers history → MayHappenInTurn fragment more (world_of fragment run) →
    early_history answers (world_after fragment more (world_of fragment run)).history ≡ after →
    AreEarlyAnswers fragment (longer run more) answers after
answers_later fragment run more answers history after is may same =
    let there = world_longer fragment run more in
    let left = ids_later (λ id. early_answer_to answers id ≡ None) fragment more (world_of fragment run) may is.ended is.used in record {
      early = all_weaker (IsEarly fragment run) (IsEarly fragment (longer run more)) (early_later fragment run more) answers is.early;
      ended = subst (λ (w : World). AllByRecursion (λ (call : NodeCall). early_answer_to answers call.id ≡ None) w.calls) (sym there)
          left.0;
      used = λ id unused. left.1 id (subst (λ w. IsUnused w id) there unused);
      same = ap (λ (w : World). early_history answers w.history) there ∙ same;
    }

-- the events of the world that an event at a node is, and the early answers then
pub record HasActed (fragment : Code) (run : Run) (local : LocalObject) (event : LocalEvent) (history : List Entry) : Type 0 where
  pub events : List Event
  pub number : length events ≡ event_count local event
  pub refined : IsRefined fragment (world_of fragment run) events (done_here fragment local event)
  pub served : AreServedBy local event events
  pub answers : List EarlyAnswer
  pub early : AreEarlyAnswers fragment (longer run events) answers history

module _ (fragment : Code) (run : Run) (answers : List EarlyAnswer) (history : List Entry) (local : LocalObject)
    (happened : MayHappenInTurn fragment run.events (opened_world run.files)) (formed : IsWellFormed fragment (world_of fragment run))
    (part : IsPartOf (world_of fragment run) local) (is : AreEarlyAnswers fragment run answers history) where
  abbrev world : World
  world = world_of fragment run

  -- the history after an event that comes next
  abbrev after : LocalEvent → List Entry
  after event = history_after local event (suc world.now) history

  -- a call that the node carries out was not answered early
  pub no_answer : (id : ℕ) (call : NodeCall) → open_call local.calls id ≡ Some call → early_answer_to answers call.id ≡ None
  no_answer id call open_here =
      (found (λ (c : NodeCall). early_answer_to answers c.id ≡ None) world.calls id call is.ended
      (carried fragment world local id call formed part open_here).open_there).0

  -- the call ends early
  module _ (id : ℕ) (returned : Option (List ℕ)) (may : MayHappenHere fragment local (LocalEvent.EndEarly id returned))
      (are : AllByRecursion (IsReportOf fragment run) local.reports) (apart : AreApart local.reports) where
    abbrev two : EndsInTwo fragment world local id
    two = ends_in_two id returned fragment world local formed part may

    abbrev call : NodeCall
    call = may.0

    abbrev more : List Event
    more = two.wait ∷ Event.GiveUp id ∷ []

    -- the run until the call is given up
    abbrev waited : Run
    waited = longer run (two.wait ∷ [])

    there : world_of fragment waited ≡ world_after fragment (two.wait ∷ []) world
    there = world_longer fragment run (two.wait ∷ [])

    part_there : IsPartOf (world_of fragment waited) local
    part_there = subst (λ w. IsPartOf w local) (sym there) two.between.part

    is_carried : IsCarried (world_of fragment waited) local id call
    is_carried =
        carried fragment (world_of fragment waited) local id call (subst (IsWellFormed fragment) (sym there) two.between.formed) part_there
        may.1

    reports : AllByRecursion (IsReportOf fragment waited) local.reports
    reports =
        all_weaker (IsReportOf fragment run) (IsReportOf fragment waited) (run_report_later fragment run (two.wait ∷ [])) local.reports
        are

    ends : EndsHeldHere fragment local call returned ⊎ EndsAtOnceHere fragment local call returned →
        EndsHeld fragment waited call returned ⊎ EndsAtOnce fragment waited call returned
    ends (inl here) = inl (held_there fragment waited local call returned part_there is_carried.node reports apart here)
    ends (inr here) = inr (at_once_there fragment waited local call returned part_there is_carried.node reports apart here)

    none : early_answer_to answers call.id ≡ None
    none = no_answer id call may.1

    -- the answer
    abbrev answer : EarlyAnswer
    answer = ending answers call none returned (suc world.now)

    one_more : (world_of fragment waited).now ≡ suc world.now
    one_more = let e = ap (λ (w : World). w.now) there in let f = two.between.now in omega arith

    is_early : IsEarly fragment (longer run more) answer
    is_early = record {
      before = run.events ++ two.wait ∷ [];
      after = Event.GiveUp id ∷ [];
      until = sym (append_assoc run.events (two.wait ∷ []) (Event.GiveUp id ∷ []));
      now = sym one_more;
      call = call;
      carried = ap (open_call (world_of fragment waited).calls) is_carried.same_id ∙ is_carried.open_there;
      ends = ends may.2;
    }

    has_entry : HasEntry world.history call
    has_entry =
        (found (HasEntry world.history) world.calls id call formed.entries
        (carried fragment world local id call formed part may.1).open_there).0

    ids_differ : IdsDiffer (ids_of world.history)
    ids_differ = differ_later fragment run.events _ happened tt

    own : AllByRecursion (IsOwn answers call none returned (suc world.now)) world.history
    own =
        all_weaker (λ (other : Entry). other.call ≡ has_entry.entry.call → other ≡ has_entry.entry)
        (IsOwn answers call none returned (suc world.now))
        (λ other one same.
        let is_it = one (same ∙ sym has_entry.same_id) in
        (ap (λ (e : Entry). e.kind) is_it ∙ has_entry.kind, ap (λ (e : Entry). e.value) is_it ∙ has_entry.value))
        world.history (only_entry world.history has_entry.place has_entry.entry ids_differ has_entry.at)

    -- other ids have the answers from before
    other_answer : (other : ℕ) → (call.id ≡ other → ⊥) → early_answer_to answers other ≡ None →
        early_answer_to (answer ∷ answers) other ≡ None
    other_answer other differ before =
        ap (λ b. cond b (Some answer) (early_answer_to answers other)) (differs call.id other differ) ∙ before

    pub ended_early : HasActed fragment run local (LocalEvent.EndEarly id returned) (after (LocalEvent.EndEarly id returned))
    ended_early =
        let same = world_longer fragment run more in
        let left = ids_later (λ id. early_answer_to answers id ≡ None) fragment (two.wait ∷ []) world two.between.may is.ended is.used in
        let later = ids_later (λ id. early_answer_to answers id ≡ None) fragment more world two.ended.may is.ended is.used in record {
          events = more;
          number = refl;
          refined = two.ended;
          served = tt;
          answers = answer ∷ answers;
          early = record {
            early = (
              is_early,
              all_weaker (IsEarly fragment run) (IsEarly fragment (longer run more)) (early_later fragment run more) answers is.early,
            );
            ended = subst (λ (w : World). AllByRecursion (λ (c : NodeCall). early_answer_to (answer ∷ answers) c.id ≡ None) w.calls)
                (sym same)
                (all_left (λ (c : NodeCall). early_answer_to answers c.id ≡ None)
                (λ (c : NodeCall). early_answer_to (answer ∷ answers) c.id ≡ None) id
                (λ other differ before. other_answer other.id (λ e. differ (sym e ∙ is_carried.same_id)) before)
                (happens fragment world two.wait).calls left.0);
            used = λ other unused.
                let there = subst (λ w. IsUnused w other) same unused in
                other_answer other
                (λ e. all_get (λ (entry : Entry). entry.call ≡ other → ⊥) world.history has_entry.place has_entry.entry
                (subst (HasNot other) two.waited there) has_entry.at (has_entry.same_id ∙ e)) (later.1 other there);
            same = ap (λ (w : World). early_history (answer ∷ answers) w.history) same
                ∙ ap (early_history (answer ∷ answers)) two.waited
                ∙ seen_ended answers call none returned (suc world.now) world.history own
                ∙ ap (with_early_answer (Some call) returned (suc world.now)) is.same
                ∙ ap (λ o. with_early_answer o returned (suc world.now) history) (sym may.1);
          };
        }
