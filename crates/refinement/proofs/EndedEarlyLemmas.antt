-- A call ends early. In the world it is given up, after the world has waited for one event.
use Rattle.std.proofs.Common.{◌≡◌, ◌⊎◌, inl, inr, ℕ, true, false, List, [], ◌∷◌, Option, refl, sym, ap, ◌∙◌}
use Rattle.record.specs.declared.call.CallKind.TheVariants.{Move, Read}
use Rattle.record.specs.Fragments.{Code}
use Rattle.record.specs.Legal.{is_move}
use Rattle.open_calls.specs.OpenCalls.{NodeCall}
use Rattle.network.specs.Worlds.{World}
use Rattle.network.specs.Events.{Event, world_after}
use Rattle.local_object.specs.Early.{EndsAtOnceHere, EndsHeldHere}
use Rattle.local_object.specs.Events.{LocalEvent, ended_here}
use Rattle.local_object.specs.Local.{LocalObject}
use Rattle.local_object.specs.May.{MayHappenHere}
use Rattle.local_object.specs.Outcomes.{silent}
use Rattle.refinement.specs.Laws.{IsEventOfWorld}
use Rattle.refinement.specs.Parts.{IsPartOf}
use Rattle.refinement.specs.Refined.{IsRefined}
use Rattle.refinement.specs.WellFormed.{IsWellFormed}
use Rattle.refinement.proofs.BegunCallLemmas.{ticked}
use Rattle.refinement.proofs.LeftCallLemmas.{given_up}
use Rattle.refinement.proofs.RefinedEventLemmas.{both_refined}
use Rattle.refinement.proofs.WaitingLemmas.{waits}

-- after an event that changes only the number of events, the world gives the call up
pub record EndsInTwo (fragment : Code) (world : World) (local : LocalObject) (id : ℕ) : Type 0 where
  pub wait : Event
  pub between : IsRefined fragment world (wait ∷ []) (silent local)
  pub later : world_after fragment (wait ∷ []) world ≡ ticked world
  pub waited : (world_after fragment (wait ∷ []) world).history ≡ world.history
  pub ended : IsRefined fragment world (wait ∷ Event.GiveUp id ∷ []) (silent (ended_here local id))
  pub entries : (world_after fragment (wait ∷ Event.GiveUp id ∷ []) world).history ≡ world.history

-- a call that may end early is not a move
no_move : (fragment : Code) (local : LocalObject) (call : NodeCall) (value : Option (List ℕ)) →
    EndsHeldHere fragment local call value ⊎ EndsAtOnceHere fragment local call value → call.kind ≡ Move → ⊥
no_move fragment local call value (inl held) move =
    absurd (let wrong : true ≡ false = ap is_move (sym move) ∙ held.client in cc)
no_move fragment local call value (inr at_once) move = absurd (let wrong : Read ≡ Move = sym at_once.reads ∙ move in cc)

pub ends_in_two : (id : ℕ) (value : Option (List ℕ)) (fragment : Code) (world : World) (local : LocalObject) →
    IsWellFormed fragment world → IsPartOf world local → MayHappenHere fragment local (LocalEvent.EndEarly id value) →
    EndsInTwo fragment world local id
ends_in_two id value fragment world local formed part may =
    let one = waits fragment world (silent local) formed part tt in
    let later = world_after fragment (one.event ∷ []) world in
    let done = given_up fragment later local id may.0 one.refined.formed one.refined.part may.1
    (no_move fragment local may.0 value may.2) in
    let same = ap (λ (w : World). w.history) one.later in record {
      wait = one.event;
      between = one.refined;
      later = one.later;
      waited = same;
      ended = both_refined fragment world (one.event ∷ []) (Event.GiveUp id ∷ []) (silent local) (silent (ended_here local id)) refl
          one.refined done.0;
      entries = done.1 ∙ same;
    }

pub early_has_events : (id : ℕ) (value : Option (List ℕ)) → IsEventOfWorld (LocalEvent.EndEarly id value)
early_has_events id value fragment world local formed part may premised =
    let two = ends_in_two id value fragment world local formed part may in
    record { events = two.wait ∷ Event.GiveUp id ∷ []; number = refl; refined = two.ended; entries = two.entries }
