-- A node begins a call: a read, a write, or the first phase of a move.
use Rattle.std.proofs.Common.{◌≡◌, ℕ, suc, true, false, eqb, eq-eqb, List, [], ◌∷◌, ◌++◌, Some, None}
use Rattle.std.proofs.Common.{refl, sym, subst, ap, ◌∙◌, slice_get, arith}
use Rattle.std.proofs.lemmas.Option.{get_or_from_slice_get}
use Rattle.layout.specs.Layout.{Layout}
use Rattle.piece.specs.declared.piece.Piece.{Piece}
use Rattle.bank.specs.Bank.{empty_piece}
use Rattle.bank.specs.declared.kind.Kind.{Kind}
use Rattle.bank.specs.declared.kind.Kind.TheVariants.{Next}
use Rattle.bank.specs.declared.request.Request.{Request}
use Rattle.mail.specs.declared.message.Body.TheVariants as body
use Rattle.mail.specs.declared.message.Message.{Message}
use Rattle.record.specs.declared.call.CallKind.{CallKind}
use Rattle.record.specs.declared.call.CallKind.TheVariants.{Read, Write}
use Rattle.record.specs.declared.call.Entry.{Entry}
use Rattle.record.specs.declared.stage.Stage.{Stage}
use Rattle.record.specs.declared.stage.Stage.TheVariants.{ReadNext}
use Rattle.record.specs.Records.{no_layout}
use Rattle.record.specs.Sending.{request_to, requests}
use Rattle.record.specs.Steps.{new_phase}
use Rattle.soundness.proofs.ListLemmas.{all_push, all_weaker}
use Rattle.record.specs.Fragments.{Code, IsValue}
use Rattle.network.specs.Worlds.{World, known_layout, known_layouts}
use Rattle.open_calls.specs.OpenCalls.{NodeCall}
use Rattle.network.specs.Events.{Event, begun_world, called_world}
use Rattle.network.specs.Premises.{IsUnused}
use Rattle.local_object.specs.Local.{LocalObject, layout_here}
use Rattle.local_object.specs.Events.{pieces_here}
use Rattle.local_object.specs.Outcomes.{begun_here, is_read}
use Rattle.refinement.specs.Parts.{IsPartOf}
use Rattle.refinement.specs.Refined.{IsRefined, begun_entry}
use Rattle.refinement.specs.WellFormed.{HasAsked, HasEntry, IsWellFormed}
use Rattle.open_calls.proofs.CallsOfNodeLemmas.{append_nothing, calls_of, differs, filter_push}
use Rattle.open_calls.proofs.DistinctCallLemmas.{distinct_push}
use Rattle.refinement.proofs.CallEntryLemmas.{entry_new, entry_push, unused_apart}
use Rattle.refinement.proofs.PartLemmas.{IsKept, asked_still, changed_world, formed_still}
use Rattle.refinement.proofs.PartLemmas.{part_still, part_with, refined, sent_still, start_still}
use Rattle.refinement.proofs.LetterLemmas.{behind, in_front, letters_were_sent, requests_speak}
use Rattle.refinement.proofs.LearntPartLemmas.{known_by_all}

-- requests that carry no pieces are the same whatever the pieces are
pub same_requests : (call phase : ℕ) (kind : Kind) (position : ℕ) (servers : List ℕ) (member : ℕ) (f g : ℕ → Piece) →
    ((p q : Piece) → request_to kind p ≡ request_to kind q) →
    requests call phase kind position servers member f ≡ requests call phase kind position servers member g
same_requests call phase kind position [] member f g same = refl
same_requests call phase kind position (server ∷ servers) member f g same =
    let request_of : Request → Message =
    λ asked. record { call = call; phase = phase; position = position; member = member; body = body.Request asked } in
    ap (λ asked. request_of asked ∷ requests call phase kind position servers (suc member) f) (same (f member) (g member))
    ∙ ap (λ l. request_of (request_to kind (g member)) ∷ l) (same_requests call phase kind position servers (suc member) f g same)

-- the world one event later
abbrev pub ticked : World → World
ticked world = record world { now = suc world.now }

module _ (fragment : Code) (world : World) (local : LocalObject) (id : ℕ) (kind : CallKind) (stage : Stage) (first : Kind) (position : ℕ)
    (pieceless : (p q : Piece) → request_to first p ≡ request_to first q) where
  -- the call that begins, where the position has this layout
  abbrev begun_call : Layout → NodeCall
  begun_call layout = record {
    node = local.node;
    id = id;
    kind = kind;
    settled = None;
    stage = stage;
    phase = new_phase id 1 first position layout 0;
  }

  -- its requests
  abbrev first_requests : Layout → List Message
  first_requests layout = requests id 1 first position layout.members 0 empty_piece

  abbrev begun_history : List Entry
  begun_history = world.history ++ begun_entry id kind (suc world.now) ∷ []

  abbrev begun_to : Layout → World
  begun_to layout =
      changed_world world (world.calls ++ begun_call layout ∷ []) (world.sent ++ first_requests layout) begun_history (suc world.now)

  begun_with : (layout : Layout) → IsWellFormed fragment world → IsPartOf world local → IsUnused world id →
      slice_get (known_layouts world local.node) position ≡ Some layout →
      IsKept fragment world (begun_to layout) (begun_here local id kind stage first 1 position (Some layout)) 1 begun_history
  begun_with layout formed part unused at =
      let new = begun_call layout in
      let calls = world.calls ++ new ∷ [] in
      let messages = first_requests layout in
      let sent = world.sent ++ messages in record {
        formed = formed_still world calls sent begun_history (suc world.now) fragment formed
            (distinct_push world.calls new formed.ids (unused_apart world.history id unused world.calls formed.entries))
            (all_push (HasEntry begun_history) world.calls new
            (all_weaker (HasEntry world.history) (HasEntry begun_history)
            (λ call has. entry_push world.history (begun_entry id kind (suc world.now)) call has) world.calls formed.entries)
            (entry_new world.history new (suc world.now)))
            (all_push (HasAsked fragment (begun_to layout)) world.calls new
            (all_weaker (HasAsked fragment world) (HasAsked fragment (begun_to layout))
            (asked_still world calls sent begun_history (suc world.now) fragment
            (λ message was. (was.0, in_front world.sent messages was.0 message was.1))) world.calls formed.asked)
            (record {
              layout = layout;
              at = known_by_all world formed.one local.node position layout at;
              asked = λ place message is. behind world.sent messages place message
                  (ap (λ l. slice_get l place)
                  (same_requests id 1 first position layout.members 0 empty_piece (pieces_here fragment layout new)
                  pieceless) ∙ is);
            }));
        part = part_with world calls sent begun_history (suc world.now) local (local.calls ++ new ∷ []) part
            (ap (λ l. l ++ new ∷ []) part.calls
            ∙ sym (filter_push (λ call. eqb call.node local.node) new true (eq-eqb local.node local.node refl) world.calls));
        sent = letters_were_sent (begun_to layout) local (is_read kind) layout messages
            (λ place message is. behind world.sent messages place message is)
            (requests_speak (λ p. slice_get (known_layouts world 0) p ≡ Some layout) id 1 first position layout.members 0 empty_piece
            (known_by_all world formed.one local.node position layout at))
            (start_still world calls sent begun_history (suc world.now) local.start part.start)
            (λ p other e. known_by_all world formed.one local.node p other (part.layouts p other e));
        others = λ other apart is. part_still world calls sent begun_history (suc world.now) other is
            (filter_push (λ call. eqb call.node other.node) new false (differs local.node other.node (λ e. apart (sym e))) world.calls
            ∙ append_nothing (calls_of other.node world.calls));
        kept = sent_still world calls sent begun_history (suc world.now)
            (λ message was. (was.0, in_front world.sent messages was.0 message was.1));
        files = refl;
        now = omega arith;
        entries = refl;
      }

  pub begun_kept : (layout : Layout) → IsWellFormed fragment world → IsPartOf world local → IsUnused world id →
      layout_here local position ≡ Some layout →
      IsKept fragment world (begun_world (ticked world) local.node id kind stage first position)
      (begun_here local id kind stage first 1 position (Some layout)) 1 begun_history
  begun_kept layout formed part unused known =
      let at = part.layouts position layout known in
      let is : known_layout world local.node position ≡ layout =
      get_or_from_slice_get (known_layouts world local.node) position layout no_layout at in
      subst (λ l. IsKept fragment world (begun_to l) (begun_here local id kind stage first 1 position (Some layout)) 1 begun_history)
      (sym is) (begun_with layout formed part unused at)

-- The events

-- a node begins a read at position 0
pub read_begun : (fragment : Code) (world : World) (local : LocalObject) (id : ℕ) → IsWellFormed fragment world → IsPartOf world local →
    IsUnused world id → (layout : Layout) → layout_here local 0 ≡ Some layout →
    IsRefined fragment world (Event.BeginRead local.node id ∷ []) (begun_here local id Read (ReadNext 0 0) Next 1 0 (Some layout))
    × ((called_world (ticked world) local.node id Read).history ≡ world.history ++ begun_entry id Read (suc world.now) ∷ [])
read_begun fragment world local id formed part unused layout known =
    let after = begun_here local id Read (ReadNext 0 0) Next 1 0 (Some layout) in
    refined fragment world (Event.BeginRead local.node id ∷ []) (called_world (ticked world) local.node id Read) after after
    (world.history ++ begun_entry id Read (suc world.now) ∷ []) refl refl
    (tt, record { network = tt; log = tt; ids = unused }, tt)
    (begun_kept fragment world local id Read (ReadNext 0 0) Next 0 (λ p q. refl) layout formed part unused known)

-- and a write
pub write_begun : (fragment : Code) (world : World) (local : LocalObject) (id : ℕ) (value : List ℕ) → IsValue value →
    IsWellFormed fragment world → IsPartOf world local → IsUnused world id → (layout : Layout) → layout_here local 0 ≡ Some layout →
    IsRefined fragment world (Event.BeginWrite local.node id value ∷ [])
    (begun_here local id (Write value) (ReadNext 0 0) Next 1 0 (Some layout))
    × ((called_world (ticked world) local.node id (Write value)).history
    ≡ world.history ++ begun_entry id (Write value) (suc world.now) ∷ [])
write_begun fragment world local id value is_value formed part unused layout known =
    let after = begun_here local id (Write value) (ReadNext 0 0) Next 1 0 (Some layout) in
    refined fragment world (Event.BeginWrite local.node id value ∷ []) (called_world (ticked world) local.node id (Write value)) after after
    (world.history ++ begun_entry id (Write value) (suc world.now) ∷ []) refl refl
    (is_value, record { network = tt; log = tt; ids = unused }, tt)
    (begun_kept fragment world local id (Write value) (ReadNext 0 0) Next 0 (λ p q. refl) layout formed part unused known)
