-- A call of a node has queried, by what it was told: what nodes keep stays their part of the world.
use Rattle.std.proofs.Common.{◌≡◌, ℕ, ◌+◌, List, [], Some, refl, sym, ap, ◌∙◌, slice_get}
use Rattle.std.proofs.lemmas.Option.{get_or_from_slice_get}
use Rattle.layout.specs.Layout.{Layout}
use Rattle.bank.specs.Bank.{empty_piece}
use Rattle.bank.specs.declared.kind.Kind.TheVariants.{Query}
use Rattle.mail.specs.declared.message.Message.{Message}
use Rattle.record.specs.Fragments.{Code}
use Rattle.record.specs.Records.{no_layout}
use Rattle.record.specs.Sending.{requests}
use Rattle.network.specs.Worlds.{World, known_layout, known_layouts}
use Rattle.network.specs.Events.{phase_requests}
use Rattle.network.specs.Premises.{WasSent}
use Rattle.open_calls.specs.OpenCalls.{NodeCall, with_open}
use Rattle.open_calls.specs.Queries.{ToldTag, queried}
use Rattle.starts.specs.Reading.{HasSent}
use Rattle.local_object.specs.Local.{LocalObject, layout_here}
use Rattle.local_object.specs.Events.{pieces_here}
use Rattle.local_object.specs.Outcomes.{silent}
use Rattle.refinement.specs.Parts.{IsPartOf}
use Rattle.refinement.specs.WellFormed.{HasAsked, IsWellFormed, current_requests}
use Rattle.refinement.proofs.BegunCallLemmas.{same_requests}
use Rattle.refinement.proofs.ChangedCallLemmas.{IsCarried, changed_kept, changed_to}
use Rattle.refinement.proofs.LearntPartLemmas.{known_by_all, known_to_all}
use Rattle.refinement.proofs.PartLemmas.{IsKept, changed_world, kept_after}

module _ (fragment : Code) (world : World) (local : LocalObject) (id : ℕ) (call : NodeCall) (formed : IsWellFormed fragment world)
    (part : IsPartOf world local) (is : IsCarried world local id call) (layout : Layout)
    (known : layout_here local call.phase.position ≡ Some layout) (told : List ToldTag) where
  -- the call after the query
  abbrev new : NodeCall
  new = queried call layout told

  -- the world with it, with these messages, and after this many more events
  abbrev pub queried_world : (sent : List Message) → (count : ℕ) → World
  queried_world sent count = changed_world world (with_open new world.calls) sent world.history (world.now + count)

  at : slice_get (known_layouts world 0) call.phase.position ≡ Some layout
  at = known_by_all world formed.one local.node call.phase.position layout (part.layouts call.phase.position layout known)

  there : known_layout world call.node call.phase.position ≡ layout
  there = get_or_from_slice_get (known_layouts world call.node) call.phase.position layout no_layout
      (known_to_all world formed.one call.node call.phase.position layout at)

  -- the requests of the query carry no pieces
  query_requests : current_requests fragment layout new
      ≡ phase_requests world new.node new.id new.phase.number new.phase.kind new.phase.position empty_piece
  query_requests =
      same_requests new.id new.phase.number Query new.phase.position layout.members 0 (pieces_here fragment layout new) empty_piece
      (λ p q. refl)
      ∙ ap (λ (l : Layout). requests new.id new.phase.number Query new.phase.position l.members 0 empty_piece) (sym there)

  module _ (sent : List Message) (count : ℕ) (grows : (message : Message) → WasSent world message →
      (place : ℕ) × (slice_get sent place ≡ Some message)) (asked : HasSent (queried_world sent count) new) where
    -- the same world after one event
    abbrev changed : World
    changed = changed_to fragment world local id call new formed part is refl refl refl sent

    asked_there : HasAsked fragment changed new
    asked_there = record {
      layout = layout;
      at = at;
      asked = λ place message e. asked place message (ap (λ l. slice_get l place) (sym query_requests) ∙ e);
    }

    pub queried_kept : IsKept fragment world (queried_world sent count)
        (silent (record local { calls = with_open new local.calls })) count world.history
    queried_kept =
        kept_after fragment world changed (silent (record local { calls = with_open new local.calls })) 1 count world.history
        (changed_kept fragment world local id call new formed part is refl refl refl sent [] grows tt (λ had. asked_there))
