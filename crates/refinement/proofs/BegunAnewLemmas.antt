-- A read whose complete fetch lacks pieces begins anew at a start.
use Rattle.std.proofs.Common.{◌≡◌, inr, ℕ, zero, suc, ◌*◌, false, [], ◌∷◌, Some, IsSome, refl, sym, subst, ap, ◌∙◌, arith, map}
use Rattle.std.proofs.lemmas.Option.{same_Some}
use Rattle.layout.specs.Layout.{Layout}
use Rattle.bank.specs.Bank.{empty_piece}
use Rattle.bank.specs.declared.kind.Kind.{Kind}
use Rattle.bank.specs.declared.kind.Kind.TheVariants.{Next}
use Rattle.record.specs.declared.stage.Stage.{Stage}
use Rattle.record.specs.declared.stage.Stage.TheVariants.{ReadBegin}
use Rattle.record.specs.Fragments.{Code}
use Rattle.record.specs.PhaseOrder.{begun_at, due}
use Rattle.record.specs.Sending.{requests}
use Rattle.record.specs.Steps.{new_phase}
use Rattle.open_calls.specs.OpenCalls.{IsLacking, NodeCall, due_phase, open_call, stage_reached, with_open}
use Rattle.network.specs.Worlds.{World}
use Rattle.network.specs.Events.{Event, happens}
use Rattle.starts.specs.Reading.{most_events}
use Rattle.starts.specs.Starts.{IsStart}
use Rattle.starts.proofs.LeadingLemmas.{found_changed, with_twice}
use Rattle.local_object.specs.Local.{LocalObject, layout_here}
use Rattle.local_object.specs.Events.{LocalEvent, advanced_at, advanced_here, done_here, pieces_here}
use Rattle.local_object.specs.Outcomes.{Outcome, is_read, letter_of, on_open_call, phase_letters}
use Rattle.local_object.specs.May.{IsCarriedOut}
use Rattle.local_object.specs.Starting.{anew_number, number_at, reading_call, reads_at}
use Rattle.local_object.proofs.LastPositionLemmas.{some_layout}
use Rattle.refinement.specs.Laws.{IsEventOfWorld}
use Rattle.refinement.specs.Parts.{IsPartOf}
use Rattle.refinement.specs.Refined.{IsRefined}
use Rattle.refinement.specs.Starting.{HasEvents}
use Rattle.refinement.specs.WellFormed.{IsWellFormed}
use Rattle.refinement.proofs.AdvancedCallLemmas.{advance_refined}
use Rattle.refinement.proofs.BegunCallLemmas.{same_requests}
use Rattle.refinement.proofs.ChangedCallLemmas.{carried}
use Rattle.refinement.proofs.FirstReadingLemmas.{first_quorum, reads_new, then_reads_on}
use Rattle.refinement.proofs.LetterLemmas.{sent_asking}

position_of : (one other : Kind × ℕ) → Some one ≡ Some other → one.1 ≡ other.1
position_of one other e = ap (λ (n : Kind × ℕ). n.1) (same_Some one other e)

module _ (fragment : Code) (world : World) (local : LocalObject) (id : ℕ) (formed : IsWellFormed fragment world)
    (part : IsPartOf world local) (call : NodeCall) (open_here : IsCarriedOut local id call) (lacking : IsLacking call)
    (anew : stage_reached call ≡ ReadBegin) (first : Layout) (known : layout_here local 0 ≡ Some first) where
  due_is : due_phase call ≡ Some (Next, 0)
  due_is = ap (λ s. due (begun_at s 0)) anew

  -- the call as it begins anew at position 0, and what the node keeps then
  abbrev begun : NodeCall
  begun = reading_call call (suc call.phase.number) 0 first

  abbrev between : Outcome
  between = record {
    local = record local { calls = with_open begun local.calls };
    sent = phase_letters local false call.id (suc call.phase.number) Next 0 first (pieces_here fragment first call);
  }

  known_next : (kind : Kind) (position : ℕ) → due_phase call ≡ Some (kind, position) → IsSome (layout_here local position)
  known_next kind position e =
      subst (λ p. IsSome (layout_here local p)) (position_of (Next, 0) (kind, position) (sym due_is ∙ e))
      part.first

  advanced : done_here fragment local (LocalEvent.Advance id) ≡ between
  advanced =
      ap (λ o. on_open_call local o (λ c. advanced_here fragment local c (due_phase c))) open_here
      ∙ ap (advanced_here fragment local call) due_is
      ∙ ap (advanced_at fragment local call (Next, 0)) known
      ∙ ap outcome anew
    where
      outcome : Stage → Outcome
      outcome stage = record {
        local = record local {
          calls = with_open
              (record call { stage = begun_at stage 0; phase = new_phase call.id (suc call.phase.number) Next 0 first 0 }) local.calls;
        };
        sent = phase_letters local false call.id (suc call.phase.number) Next 0 first (pieces_here fragment first call);
      }

  one : IsRefined fragment world (Event.Advance id ∷ []) (done_here fragment local (LocalEvent.Advance id))
      × ((happens fragment world (Event.Advance id)).history ≡ world.history)
  one = advance_refined id fragment world local formed part (call, open_here, inr lacking, known_next) tt

  refined_between : IsRefined fragment world (Event.Advance id ∷ []) between
  refined_between = subst (IsRefined fragment world (Event.Advance id ∷ [])) advanced one.0

  same_id : call.id ≡ id
  same_id = (carried fragment world local id call formed part open_here).same_id

  open_between : IsCarriedOut between.local id begun
  open_between = subst (λ n. open_call (with_open begun local.calls) n ≡ Some begun) same_id
      (found_changed local.calls call begun (subst (λ n. open_call local.calls n ≡ Some call) (sym same_id) open_here))

  -- what the node keeps after it reads in a phase of this number
  abbrev reads_in : (number start : ℕ) → Layout → Outcome
  reads_in number start layout = reads_at local call number start (Some layout)

  goes_on : (start : ℕ) (layout : Layout) → reads_at between.local begun (number_at begun start) start (Some layout)
      ≡ reads_in (anew_number call start) start layout
  goes_on start layout =
      ap (λ number. reads_at between.local begun number start (Some layout)) numbers
      ∙ ap (λ calls. let after : Outcome = record {
        local = record local { calls = calls };
        sent = phase_letters local (is_read call.kind) call.id (anew_number call start) Next start layout empty_piece;
      } in after) (with_twice begun (reading_call call (anew_number call start) start layout) local.calls refl)
    where
      numbers : number_at begun start ≡ anew_number call start
      numbers = omega arith

  -- at position 0, a read also asks for pieces
  abbrev asking_too : Outcome
  asking_too = record {
    local = between.local;
    sent = phase_letters local (is_read call.kind) call.id (suc call.phase.number) Next 0 first (pieces_here fragment first call);
  }

  refined_first : IsRefined fragment world (Event.Advance id ∷ []) asking_too
  refined_first =
      let is = refined_between in
      record {
        may = is.may;
        formed = is.formed;
        part = is.part;
        sent = sent_asking (happens fragment world (Event.Advance id)) local false (is_read call.kind) first
            (requests call.id (suc call.phase.number) Next 0 first.members 0 (pieces_here fragment first call)) is.sent;
        others = is.others;
        kept = is.kept;
        files = is.files;
        now = is.now;
      }

  at_first : asking_too ≡ reads_in (anew_number call 0) 0 first
  at_first =
      ap (λ messages. let after : Outcome = record {
        local = record local { calls = with_open begun local.calls };
        sent = map (letter_of local (is_read call.kind) first) messages;
      } in after)
      (same_requests call.id (suc call.phase.number) Next 0 first.members 0 (pieces_here fragment first call) empty_piece (λ p q. refl))
      ∙ ap (λ number. reads_in number 0 first) numbers
    where
      numbers : suc call.phase.number ≡ anew_number call 0
      numbers = omega arith

  begins_anew : (start : ℕ) (layout : Layout) → layout_here local start ≡ Some layout → IsStart world start →
      HasEvents fragment world (reads_in (anew_number call start) start layout) world.history (suc (start * most_events))
  begins_anew zero layout there starts =
      let same : first ≡ layout = same_Some first layout (sym known ∙ there) in
      subst (λ l. HasEvents fragment world (reads_in (anew_number call 0) 0 l) world.history (suc (zero * most_events))) same
      (subst (λ after. HasEvents fragment world after world.history (suc (zero * most_events))) at_first
      (record { events = Event.Advance id ∷ []; number = refl; refined = refined_first; entries = one.1 }))
  begins_anew (suc start) layout there starts =
      subst (λ after. HasEvents fragment world after world.history (suc (suc start * most_events))) (goes_on (suc start) layout)
      (then_reads_on fragment world id (Event.Advance id) between begun world.history refined_between one.1 open_between
      (reads_new between.local begun (suc call.phase.number) first known (first_quorum fragment world local first formed part known)
      refl refl) refl start starts layout there)

pub anew_has_events : (id : ℕ) → IsEventOfWorld (LocalEvent.BeginAnew id)
anew_has_events id fragment world local formed part may premised =
    let start = local.start in
    let call = may.0 in
    let first = some_layout (layout_here local 0) part.first in
    let there = some_layout (layout_here local start) may.4 in
    subst (λ after. HasEvents fragment world after world.history (suc (start * most_events)))
    (ap (reads_at local call (anew_number call start) start) (sym there.1)
    ∙ ap (λ o. on_open_call local o (λ c. reads_at local c (anew_number c start) start (layout_here local start))) (sym may.1))
    (begins_anew fragment world local id formed part call may.1 may.2 may.3 first.0 first.1 start there.0 there.1 part.start)
