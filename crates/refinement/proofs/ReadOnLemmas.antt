-- A call that reads before a start goes on there.
use Rattle.std.proofs.Common.{◌≡◌, ℕ, suc, ◌+◌, ◌*◌, ◌-◌, ◌<◌, List, ◌++◌, length, Some}
use Rattle.std.proofs.Common.{refl, sym, subst, ap, ◌∙◌, slice_get}
use Rattle.std.proofs.lemmas.Option.{get_or_from_slice_get}
use Rattle.layout.specs.Layout.{Layout, quorum_of}
use Rattle.piece.specs.declared.piece.Piece.{Piece}
use Rattle.bank.specs.Bank.{empty_piece}
use Rattle.bank.specs.declared.kind.Kind.TheVariants.{Next}
use Rattle.mail.specs.declared.message.Message.{Message}
use Rattle.record.specs.Fragments.{Code}
use Rattle.record.specs.Records.{no_layout}
use Rattle.record.specs.Sending.{request_to, requests}
use Rattle.open_calls.specs.OpenCalls.{NodeCall, open_call, with_open}
use Rattle.open_calls.proofs.OpenCallLemmas.{found}
use Rattle.network.specs.Worlds.{World, known_layout, known_layouts}
use Rattle.network.specs.Events.{phase_requests, world_after}
use Rattle.starts.specs.Reading.{IsReading, LeadsTo, most_events, reading_at, world_with}
use Rattle.starts.specs.Starts.{IsStart}
use Rattle.starts.proofs.LeadingLemmas.{sent_there}
use Rattle.starts.proofs.ReadingLemmas.{reads_to}
use Rattle.local_object.specs.Local.{LocalObject, layout_here}
use Rattle.local_object.specs.Events.{LocalEvent, done_here, pieces_here}
use Rattle.local_object.specs.Outcomes.{is_read, on_open_call}
use Rattle.local_object.specs.May.{IsCarriedOut}
use Rattle.local_object.specs.Starting.{IsReadingHere, number_at, reading_call, reads_at}
use Rattle.local_object.proofs.LastPositionLemmas.{some_layout}
use Rattle.refinement.specs.Laws.{IsEventOfWorld}
use Rattle.refinement.specs.Parts.{IsPartOf}
use Rattle.refinement.specs.Starting.{HasEvents, left_behind}
use Rattle.refinement.specs.WellFormed.{HasAsked, IsWellFormed, current_requests}
use Rattle.refinement.proofs.BegunCallLemmas.{same_requests}
use Rattle.refinement.proofs.ChangedCallLemmas.{IsCarried, carried, changed_kept, changed_to}
use Rattle.refinement.proofs.EventCountLemmas.{count_after}
use Rattle.refinement.proofs.LearntPartLemmas.{known_by_all, known_to_all}
use Rattle.refinement.proofs.LetterLemmas.{in_front, letters_were_sent, requests_speak}
use Rattle.refinement.proofs.PartLemmas.{kept_after, refined, start_still}
use Rattle.refinement.proofs.WaitingLemmas.{filled}

module _ (fragment : Code) (world : World) (local : LocalObject) (id : ℕ) (call : NodeCall) (formed : IsWellFormed fragment world)
    (part : IsPartOf world local) (open_here : IsCarriedOut local id call) (reads : IsReadingHere local call) where
  is : IsCarried world local id call
  is = carried fragment world local id call formed part open_here

  -- the layouts of which the node has heard are the world's
  known_as : (position : ℕ) (layout : Layout) → layout_here local position ≡ Some layout →
      known_layout world call.node position ≡ layout
  known_as position layout known =
      ap (λ node. known_layout world node position) is.node
      ∙ get_or_from_slice_get (known_layouts world local.node) position layout no_layout (part.layouts position layout known)

  has : HasAsked fragment world call
  has = (found (HasAsked fragment world) world.calls id call formed.asked is.open_there).0

  asked_layout : known_layout world call.node call.phase.position ≡ has.layout
  asked_layout = get_or_from_slice_get (known_layouts world call.node) call.phase.position has.layout no_layout
      (known_to_all world formed.one call.node call.phase.position has.layout has.at)

  pieceless : (p q : Piece) → request_to call.phase.kind p ≡ request_to call.phase.kind q
  pieceless p q = subst (λ k. request_to k p ≡ request_to k q) (sym reads.kind) refl

  sent_requests : current_requests fragment has.layout call
      ≡ phase_requests world call.node call.id call.phase.number call.phase.kind call.phase.position empty_piece
  sent_requests =
      same_requests call.id call.phase.number call.phase.kind call.phase.position has.layout.members 0
      (pieces_here fragment has.layout call) empty_piece pieceless
      ∙ ap (λ (l : Layout). requests call.id call.phase.number call.phase.kind call.phase.position l.members 0 empty_piece)
      (sym asked_layout)

  reading : IsReading world call call.phase.position
  reading = record {
    finalized = reads.finalized;
    stage = reads.stage;
    kind = reads.kind;
    at = refl;
    own = reads.own;
    quorum = reads.quorum ∙ ap quorum_of (sym (known_as call.phase.position reads.layout reads.known));
    few = reads.few;
    unended = reads.unended;
    sent = λ place message at. has.asked place message (ap (λ l. slice_get l place) sent_requests ∙ at);
  }

  module _ (start : ℕ) (less : call.phase.position < start) (starts : IsStart world start) (layout : Layout)
      (known : layout_here local start ≡ Some layout) where
    -- the world's call and the node's, as they begin to read at the start
    abbrev there : NodeCall
    there = reading_at world call (number_at call start) start

    abbrev new : NodeCall
    new = reading_call call (number_at call start) start layout

    same_call : there ≡ new
    same_call = ap (λ l. reading_call call (number_at call start) start l) (known_as start layout known)

    leads : LeadsTo fragment world there ((start - call.phase.position) * most_events)
    leads = reads_to fragment world call start formed.one formed.lawful starts
        (subst (λ n. open_call world.calls n ≡ Some call) (sym is.same_id) is.open_there) reading less

    -- the requests of its phase
    abbrev asking : List Message
    asking = requests call.id (number_at call start) Next start layout.members 0 empty_piece

    abbrev sent : List Message
    sent = world.sent ++ leads.sent

    were_sent : (place : ℕ) (message : Message) → slice_get asking place ≡ Some message →
        (at : ℕ) × (slice_get sent at ≡ Some message)
    were_sent place message at =
        sent_there fragment world there ((start - call.phase.position) * most_events) leads place message
        (ap (λ (l : Layout). slice_get (requests call.id (number_at call start) Next start l.members 0 empty_piece) place)
        (known_as start layout known) ∙ at)

    abbrev later : World
    later = changed_to fragment world local id call new formed part is refl refl refl sent

    at_start : slice_get (known_layouts world 0) start ≡ Some layout
    at_start = known_by_all world formed.one local.node start layout (part.layouts start layout known)

    asked_there : HasAsked fragment later new
    asked_there = record {
      layout = layout;
      at = at_start;
      asked = λ place message at. were_sent place message
          (ap (λ l. slice_get l place) (same_requests call.id (number_at call start) Next start layout.members 0 empty_piece
          (pieces_here fragment layout new) (λ p q. refl)) ∙ at);
    }

    counted : leads.now ≡ world.now + length leads.events
    counted = ap (λ (w : World). w.now) (sym leads.result) ∙ count_after fragment leads.events world

    led : world_after fragment leads.events world ≡ world_with world new leads.sent (world.now + length leads.events)
    led = leads.result ∙ ap (λ c. world_with world c leads.sent leads.now) same_call
        ∙ ap (world_with world new leads.sent) counted

    pub reads_on_there : HasEvents fragment world (reads_at local call (number_at call start) start (Some layout)) world.history
        ((start - call.phase.position) * most_events)
    reads_on_there =
        let after = reads_at local call (number_at call start) start (Some layout) in
        let done = refined fragment world leads.events (world_with world new leads.sent (world.now + length leads.events)) after after
        world.history (sym led) refl leads.may
        (kept_after fragment world later after 1 (length leads.events) world.history
        (changed_kept fragment world local id call new formed part is refl refl refl sent after.sent
        (λ message was. (was.0, in_front world.sent leads.sent was.0 message was.1))
        (letters_were_sent later local (is_read call.kind) layout asking were_sent
        (requests_speak (λ p. slice_get (known_layouts world 0) p ≡ Some layout) call.id (number_at call start) Next start
        layout.members 0 empty_piece at_start)
        (start_still world (with_open new world.calls) sent world.history (suc world.now) local.start part.start)
        (λ p other e. known_by_all world formed.one local.node p other (part.layouts p other e)))
        (λ had. asked_there))) in
        filled fragment world after world.history leads.events ((start - call.phase.position) * most_events) done.0 done.1 leads.few

pub read_on_has_events : (id : ℕ) → IsEventOfWorld (LocalEvent.ReadOn id)
read_on_has_events id fragment world local formed part may premised =
    let start = local.start in
    let call = may.0 in
    let known = some_layout (layout_here local start) may.4 in
    subst (λ o. HasEvents fragment world (done_here fragment local (LocalEvent.ReadOn id)) world.history
    (left_behind o start * most_events)) (sym may.1)
    (subst (λ after. HasEvents fragment world after world.history ((start - call.phase.position) * most_events))
    (ap (reads_at local call (number_at call start) start) (sym known.1)
    ∙ ap (λ o. on_open_call local o (λ c. reads_at local c (number_at c start) start (layout_here local start))) (sym may.1))
    (reads_on_there fragment world local id call formed part may.1 may.2 start may.3 part.start known.0 known.1))
