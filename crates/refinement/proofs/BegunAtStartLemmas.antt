-- A node begins a read or a write at a start.
use Rattle.std.proofs.Common.{◌≡◌, ℕ, zero, suc, ◌*◌, false, cond, eqb, eq-eqb, List, [], ◌∷◌, ◌++◌, None, Some}
use Rattle.std.proofs.Common.{refl, sym, subst, ap, ◌∙◌, arith}
use Rattle.std.specs.List.{AllByRecursion}
use Rattle.layout.specs.Layout.{Layout}
use Rattle.bank.specs.Bank.{empty_piece}
use Rattle.bank.specs.declared.kind.Kind.TheVariants.{Next}
use Rattle.record.specs.declared.call.CallKind.{CallKind}
use Rattle.record.specs.declared.call.Entry.{Entry}
use Rattle.record.specs.declared.stage.Stage.TheVariants.{ReadNext}
use Rattle.record.specs.Fragments.{Code}
use Rattle.record.specs.Steps.{new_phase}
use Rattle.soundness.proofs.ListLemmas.{all_weaker}
use Rattle.open_calls.specs.OpenCalls.{NodeCall, with_open}
use Rattle.open_calls.proofs.CallsOfNodeLemmas.{differs}
use Rattle.open_calls.proofs.OpenCallLemmas.{all_filter, found_last}
use Rattle.network.specs.Worlds.{World}
use Rattle.network.specs.Events.{Event, happens}
use Rattle.network.specs.Premises.{IsUnused}
use Rattle.starts.specs.Reading.{most_events}
use Rattle.starts.specs.Starts.{IsStart}
use Rattle.local_object.specs.Local.{LocalObject, layout_here}
use Rattle.local_object.specs.Outcomes.{Outcome, begun_here, is_read, phase_letters}
use Rattle.local_object.specs.Starting.{IsReadingHere, called_at, first_number, number_at, reads_at}
use Rattle.refinement.specs.Parts.{IsPartOf}
use Rattle.refinement.specs.Refined.{IsRefined}
use Rattle.refinement.specs.Starting.{HasEvents}
use Rattle.refinement.specs.WellFormed.{IsWellFormed}
use Rattle.refinement.proofs.CallEntryLemmas.{unused_apart}
use Rattle.refinement.proofs.FirstReadingLemmas.{first_quorum, reads_new, then_reads_on}

-- the last call is changed
with_last : (calls : List NodeCall) (old new : NodeCall) → new.id ≡ old.id →
    AllByRecursion (λ call. eqb call.id new.id ≡ false) calls → with_open new (calls ++ old ∷ []) ≡ calls ++ new ∷ []
with_last [] old new same all = ap (λ b. cond b new old ∷ []) (eq-eqb old.id new.id (sym same))
with_last (first ∷ calls) old new same all =
    ap (λ b. cond b new first ∷ with_open new (calls ++ old ∷ [])) all.0 ∙ ap (λ l. first ∷ l) (with_last calls old new same all.1)

-- A call begins

-- the call of a node as it begins to read at a start in a phase with this number
abbrev new_call : (node id : ℕ) → CallKind → (number start : ℕ) → Layout → NodeCall
new_call node id kind number start layout = record {
  node = node;
  id = id;
  kind = kind;
  settled = None;
  stage = ReadNext start start;
  phase = new_phase id number Next start layout 0;
}

module _ (fragment : Code) (world : World) (local : LocalObject) (id : ℕ) (kind : CallKind) (formed : IsWellFormed fragment world)
    (part : IsPartOf world local) (unused : IsUnused world id) where
  -- no call that the node carries out has its id
  others : AllByRecursion (λ call. eqb call.id id ≡ false) local.calls
  others = subst (AllByRecursion (λ call. eqb call.id id ≡ false)) (sym part.calls)
      (all_filter (λ call. eqb call.id id ≡ false) (λ call. eqb call.node local.node) world.calls
      (all_weaker (λ (call : NodeCall). call.id ≡ id → ⊥) (λ call. eqb call.id id ≡ false) (λ call apart. differs call.id id apart)
      world.calls (unused_apart world.history id unused world.calls formed.entries)))

  module _ (first : Layout) (known : layout_here local 0 ≡ Some first) where
    -- the call as it begins at position 0, and what the node keeps then
    abbrev begun : NodeCall
    begun = new_call local.node id kind 1 0 first

    abbrev between : Outcome
    between = begun_here local id kind (ReadNext 0 0) Next 1 0 (Some first)

    reads : IsReadingHere between.local begun
    reads = reads_new between.local begun 1 first known (first_quorum fragment world local first formed part known) refl refl

    -- the node goes on as if the call had begun at the start
    goes_on : (start : ℕ) (layout : Layout) → reads_at between.local begun (number_at begun start) start (Some layout)
        ≡ called_at local id kind start (Some layout)
    goes_on start layout =
        ap outcome numbers ∙ ap (λ calls. let after : Outcome = record {
          local = record local { calls = calls };
          sent = phase_letters local (is_read kind) id (first_number start) Next start layout empty_piece;
        } in after) (with_last local.calls begun (new_call local.node id kind (first_number start) start layout) refl others)
      where
        outcome : ℕ → Outcome
        outcome number = record {
          local = record local { calls = with_open (new_call local.node id kind number start layout) (local.calls ++ begun ∷ []) };
          sent = phase_letters local (is_read kind) id number Next start layout empty_piece;
        }

        numbers : number_at begun start ≡ first_number start
        numbers = omega arith

    pub begins : (event : Event) (history : List Entry) → IsRefined fragment world (event ∷ []) between →
        (happens fragment world event).history ≡ history → (start : ℕ) (layout : Layout) → layout_here local start ≡ Some layout →
        IsStart world start → HasEvents fragment world (called_at local id kind start (Some layout)) history (suc (start * most_events))
    begins event history one entries zero layout there starts =
        let same : Some first ≡ Some layout = sym known ∙ there in
        subst (λ o. HasEvents fragment world (called_at local id kind zero o) history (suc (zero * most_events))) same
        (record { events = event ∷ []; number = refl; refined = one; entries = entries })
    begins event history one entries (suc start) layout there starts =
        subst (λ after. HasEvents fragment world after history (suc (suc start * most_events))) (goes_on (suc start) layout)
        (then_reads_on fragment world id event between begun history one entries (found_last local.calls begun others) reads refl start
        starts layout there)
