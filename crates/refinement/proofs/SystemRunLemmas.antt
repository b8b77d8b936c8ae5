-- All nodes for one object: one event more, and the entries of open calls.
use Rattle.std.proofs.Common.{◌≡◌, ℕ, List, [], ◌∷◌, ◌++◌, None, Some, refl, sym, subst, ap, ◌∙◌}
use Rattle.record.specs.Fragments.{Code}
use Rattle.open_calls.specs.OpenCalls.{NodeCall, open_call}
use Rattle.open_calls.proofs.OpenCallLemmas.{found}
use Rattle.told_replies.specs.EarlyAnswers.{early_answer_to}
use Rattle.told_replies.specs.Tellings.{world_of}
use Rattle.told_queries.specs.Courses.{run_of}
use Rattle.refinement.specs.Systems.{IsReachedSystem, MayHappenIn, MayRunIn, System, SystemEvent, opened_system, system_after, system_run}
use Rattle.refinement.specs.WellFormed.{HasEntry}
use Rattle.refinement.proofs.ChangedCallLemmas.{carried}
use Rattle.refinement.proofs.EarlyHistoryLemmas.{open_seen}
use Rattle.refinement.proofs.SystemLawLemmas.{reached_with}

run_push : (fragment : Code) (events : List SystemEvent) (event : SystemEvent) (system : System) →
    system_run fragment (events ++ event ∷ []) system ≡ system_after fragment (system_run fragment events system) event
run_push fragment [] event system = refl
run_push fragment (first ∷ events) event system = run_push fragment events event (system_after fragment system first)

may_push : (fragment : Code) (events : List SystemEvent) (event : SystemEvent) (system : System) →
    MayRunIn fragment events system → MayHappenIn fragment (system_run fragment events system) event →
    MayRunIn fragment (events ++ event ∷ []) system
may_push fragment [] event system may last = (last, tt)
may_push fragment (first ∷ events) event system may last =
    (may.0, may_push fragment events event (system_after fragment system first) may.1 last)

pub reached_next : (fragment : Code) (system : System) (event : SystemEvent) → IsReachedSystem fragment system →
    MayHappenIn fragment system event → IsReachedSystem fragment (system_after fragment system event)
reached_next fragment system event reached may = record {
  files = reached.files;
  one = reached.one;
  lawful = reached.lawful;
  events = reached.events ++ event ∷ [];
  may = may_push fragment reached.events event (opened_system reached.files) reached.may
      (subst (λ s. MayHappenIn fragment s event) (sym reached.result) may);
  result = run_push fragment reached.events event (opened_system reached.files)
      ∙ ap (λ s. system_after fragment s event) reached.result;
}

-- a call that a node carries out has an entry with no answer
pub open_entry : (fragment : Code) (system : System) (node id : ℕ) (call : NodeCall) → IsReachedSystem fragment system →
    open_call (system.objects node).calls id ≡ Some call → HasEntry system.history call
open_entry fragment system node id call reached open_here =
    let has = reached_with fragment system reached in
    let world = world_of fragment (run_of has.course) in
    let carries = carried fragment world (system.objects node) id call has.formed (has.is.parts.parts node) open_here in
    subst (λ history. HasEntry history call) has.is.early.same
    (open_seen has.answers world.history call
    (found (λ (c : NodeCall). early_answer_to has.answers c.id ≡ None) world.calls id call has.is.early.ended carries.open_there).0
    (found (HasEntry world.history) world.calls id call has.formed.entries carries.open_there).0)
