-- A call that has just begun to read at position 0 goes on at a start.
use Rattle.std.proofs.Common.{◌≡◌, ℕ, suc, ◌+◌, ◌*◌, ◌-◌, ◌<◌, List, [], ◌∷◌, length, Some, refl, sym, subst, ap, ◌∙◌, arith}
use Rattle.layout.specs.Layout.{IsLawful, Layout, quorum_of}
use Rattle.bank.specs.declared.kind.Kind.TheVariants.{Next}
use Rattle.mail.specs.Phase.{Phase}
use Rattle.record.specs.declared.call.Entry.{Entry}
use Rattle.record.specs.declared.stage.Stage.TheVariants.{ReadNext}
use Rattle.record.specs.Fragments.{Code}
use Rattle.record.specs.Steps.{new_phase}
use Rattle.soundness.proofs.ListLemmas.{all_get}
use Rattle.open_calls.specs.OpenCalls.{NodeCall}
use Rattle.network.specs.Worlds.{World, known_layouts}
use Rattle.network.specs.Events.{Event, happens, world_after}
use Rattle.starts.specs.Reading.{most_events}
use Rattle.starts.specs.Starts.{IsStart}
use Rattle.starts.proofs.FinalPointerLemmas.{finals_stay_final}
use Rattle.starts.proofs.FinalPositionLemmas.{lawful_quorum}
use Rattle.local_object.specs.Local.{LocalObject, layout_here}
use Rattle.local_object.specs.Outcomes.{Outcome}
use Rattle.local_object.specs.May.{IsCarriedOut}
use Rattle.local_object.specs.Starting.{IsReadingHere, number_at, reads_at}
use Rattle.refinement.specs.Parts.{IsPartOf}
use Rattle.refinement.specs.Refined.{IsRefined}
use Rattle.refinement.specs.Starting.{HasEvents}
use Rattle.refinement.specs.WellFormed.{IsWellFormed}
use Rattle.refinement.proofs.LearntPartLemmas.{known_by_all}
use Rattle.refinement.proofs.ReadOnLemmas.{reads_on_there}
use Rattle.refinement.proofs.RefinedEventLemmas.{then_refined}

-- position 0 has a quorum of at least one
pub first_quorum : (fragment : Code) (world : World) (local : LocalObject) (first : Layout) → IsWellFormed fragment world →
    IsPartOf world local → layout_here local 0 ≡ Some first → 0 < quorum_of first
first_quorum fragment world local first formed part known =
    lawful_quorum first (all_get IsLawful (known_layouts world 0) 0 first formed.lawful
    (known_by_all world formed.one local.node 0 first (part.layouts 0 first known)))

-- the call reads at position 0
pub reads_new : (local : LocalObject) (call : NodeCall) (number : ℕ) (first : Layout) → layout_here local 0 ≡ Some first →
    0 < quorum_of first → call.stage ≡ ReadNext 0 0 → call.phase ≡ new_phase call.id number Next 0 first 0 → IsReadingHere local call
reads_new local call number first known few stage phase = record {
  finalized = 0;
  stage = stage ∙ ap (λ (p : Phase). ReadNext p.position 0) (sym phase);
  kind = ap (λ (p : Phase). p.kind) phase;
  own = ap (λ (p : Phase). p.call) phase;
  layout = first;
  known = ap (λ (p : Phase). layout_here local p.position) phase ∙ known;
  quorum = ap (λ (p : Phase). p.quorum) phase;
  few = subst (λ (p : Phase). length p.replies < p.quorum) (sym phase) few;
  unended = ap (λ (p : Phase). p.end) phase;
}

one_more : (n : ℕ) → 1 + n ≡ suc n
one_more n = omega arith

-- an event by which the call reads at position 0, and then those that lead it to the start
pub then_reads_on : (fragment : Code) (world : World) (id : ℕ) (event : Event) (between : Outcome) (call : NodeCall)
    (history : List Entry) → IsRefined fragment world (event ∷ []) between → (happens fragment world event).history ≡ history →
    IsCarriedOut between.local id call → IsReadingHere between.local call → call.phase.position ≡ 0 → (start : ℕ) →
    IsStart world (suc start) → (layout : Layout) → layout_here between.local (suc start) ≡ Some layout →
    HasEvents fragment world (reads_at between.local call (number_at call (suc start)) (suc start) (Some layout)) history
    (suc (suc start * most_events))
then_reads_on fragment world id event between call history one entries open_here reads at_first start starts layout there =
    let later = world_after fragment (event ∷ []) world in
    let after = reads_at between.local call (number_at call (suc start)) (suc start) (Some layout) in
    let whole : suc start - call.phase.position ≡ suc start = omega (arith, at_first) in
    let less : call.phase.position < suc start = omega (arith, at_first) in
    subst (HasEvents fragment world after history) (one_more (suc start * most_events))
    (then_refined fragment world (event ∷ []) between after history (suc start * most_events) refl one
    (subst (λ h. HasEvents fragment later after h (suc start * most_events)) entries
    (subst (λ n. HasEvents fragment later after later.history (n * most_events)) whole
    (reads_on_there fragment later between.local id call one.formed one.part open_here reads (suc start) less
    (λ position below. finals_stay_final fragment world (event ∷ []) position one.may (starts position below)) layout there))))
