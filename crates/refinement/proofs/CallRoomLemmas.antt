-- After each thing that a node does, there is room for its calls that read first, or their phases have just begun.
use Rattle.std.proofs.Common.{◌≡◌, ◌⊎◌, inl, inr, ◌+◌, ◌*◌, ◌-◌, ◌<◌, ℕ, suc, false, not, eqb, List, Option, None, Some}
use Rattle.std.proofs.Common.{refl, sym, subst, ap, ◌∙◌, arith}
use Rattle.std.proofs.lemmas.Option.{same_Some}
use Rattle.std.specs.List.{AllByRecursion}
use Rattle.layout.specs.Layout.{Layout}
use Rattle.bank.specs.declared.kind.Kind.{Kind}
use Rattle.bank.specs.declared.kind.Kind.TheVariants.{Fetch, Next, Spread}
use Rattle.bank.specs.declared.status.Status.TheVariants.{Pending}
use Rattle.mail.specs.declared.message.Body.{Body}
use Rattle.mail.specs.declared.message.Body.TheVariants as body
use Rattle.mail.specs.declared.message.Message.{Message}
use Rattle.record.specs.declared.call.CallKind.{CallKind}
use Rattle.record.specs.declared.call.CallKind.TheVariants.{Read, Write, Move}
use Rattle.record.specs.declared.stage.Stage.{Stage}
use Rattle.record.specs.declared.stage.Stage.TheVariants.{ReadNext}
use Rattle.record.specs.Fragments.{Code, IsFetch}
use Rattle.record.specs.Legal.{first_stage}
use Rattle.record.specs.declared.call.Entry.{Entry}
use Rattle.soundness.proofs.ListLemmas.{all_get, all_push, all_weaker}
use Rattle.network.specs.Worlds.{World}
use Rattle.network.specs.Premises.{IsUnused}
use Rattle.open_calls.specs.OpenCalls.{NodeCall, due_phase, open_call, taking_open, with_open, without_call}
use Rattle.open_calls.proofs.OpenCallLemmas.{all_filter, all_with, found}
use Rattle.letter.specs.declared.letter.Letter.{Letter}
use Rattle.local_object.specs.Events.{LocalEvent, advanced_at, advanced_here, done_here, served_here, taking_here}
use Rattle.local_object.specs.Local.{LocalObject, last_position, layout_here, with_heard}
use Rattle.local_object.specs.May.{MayHappenHere}
use Rattle.local_object.specs.Outcomes.{Outcome, begun_here, learnt_from, on_open_call, silent}
use Rattle.local_object.specs.Starting.{anew_number, first_number, number_at, reading_call, reads_at, reads_here}
use Rattle.local_object.proofs.HeardLayoutLemmas.{calls_heard}
use Rattle.told_queries.specs.Courses.{Course, as_begun}
use Rattle.refinement.specs.Parts.{IsPartOf}
use Rattle.refinement.specs.Refined.{IsPremisedHere}
use Rattle.refinement.specs.Starting.{about, is_querying}
use Rattle.refinement.specs.Systems.{HasRoomIfReading}
use Rattle.refinement.specs.WellFormed.{HasEntry, IsWellFormed}
use Rattle.refinement.proofs.ChangedCallLemmas.{carried}
use Rattle.refinement.proofs.RoomLemmas.{IsFresh, room_alike}
use Rattle.refinement.proofs.TakenLetterLemmas.{after_taking}

-- a call takes a message in the phase that it had begun
taken_alike : (message : Message) (call : NodeCall) → as_begun call ≡ as_begun (taking_open message call)
taken_alike message call =
    after_taking (λ p. as_begun call ≡ as_begun (record call { phase = p })) (λ p member reply same. same) call.phase message refl

-- a fetch asks for no pointer
fetch_apart : (kind : Kind) → IsFetch kind → kind ≡ Next → ⊥
fetch_apart kind fetch next = absurd (let wrong : Fetch fetch.0 ≡ Next = sym fetch.1 ∙ next in cc)

-- the phase of the call begins with this event, after this world
pub record BeginsWith (world : World) (event : LocalEvent) (call : NodeCall) : Type 0 where
  pub new : as_begun call ≡ call
  pub is_about : call.id ≡ about event
  pub fresh : IsFresh world call.id call.phase.number

-- there is room for the call if it reads first, or its phase begins with this event
abbrev pub HasRoomOrBegins : Code → Course → World → LocalEvent → NodeCall → Type 0
HasRoomOrBegins fragment course world event call = HasRoomIfReading fragment course call ⊎ BeginsWith world event call

-- no call with an unused id is open
unused_fresh : (fragment : Code) (world : World) (id number : ℕ) → IsWellFormed fragment world → IsUnused world id → IsFresh world id number
unused_fresh fragment world id number formed unused earlier open_there same =
    let has = found (HasEntry world.history) world.calls id earlier formed.entries open_there in
    all_get (λ (entry : Entry). entry.call ≡ id → ⊥) world.history has.0.place has.0.entry unused has.0.at (has.0.same_id ∙ has.1)

-- a call of the node is in no other phase
other_fresh : (fragment : Code) (world : World) (local : LocalObject) (id number : ℕ) (call : NodeCall) → IsWellFormed fragment world →
    IsPartOf world local → open_call local.calls id ≡ Some call → (call.phase.number ≡ number → ⊥) → IsFresh world call.id number
other_fresh fragment world local id number call formed part open_here differs earlier open_there same =
    let is = carried fragment world local id call formed part open_here in
    let it = same_Some earlier call (sym open_there ∙ ap (open_call world.calls) is.same_id ∙ is.open_there) in
    differs (ap (λ (c : NodeCall). c.phase.number) (sym it) ∙ same)

-- a later phase has another number
next_differs : (number : ℕ) → number ≡ suc number → ⊥
next_differs number same = absurd (omega arith)

on_differs : (number position start : ℕ) → position < start → number ≡ number + 2 * (start - position) → ⊥
on_differs number position start less same = absurd (omega arith)

anew_differs : (number start : ℕ) → number ≡ number + suc (2 * start) → ⊥
anew_differs number start same = absurd (omega arith)

module _ (fragment : Code) (course : Course) (world : World) where
  abbrev Room : NodeCall → Type 0
  Room = HasRoomIfReading fragment course

  abbrev After : LocalEvent → List NodeCall → Type 0
  After event calls = AllByRecursion (HasRoomOrBegins fragment course world event) calls

  kept : (event : LocalEvent) (calls : List NodeCall) → AllByRecursion Room calls → After event calls
  kept event calls rooms = all_weaker Room (HasRoomOrBegins fragment course world event) (λ call room. inl room) calls rooms

  begun : (event : LocalEvent) (local : LocalObject) (id : ℕ) (call_kind : CallKind) (stage : Stage) (kind : Kind) (number position : ℕ)
      (o : Option Layout) → id ≡ about event → IsFresh world id number → AllByRecursion Room local.calls →
      After event (begun_here local id call_kind stage kind number position o).local.calls
  begun event local id call_kind stage kind number position None same fresh rooms = kept event local.calls rooms
  begun event local id call_kind stage kind number position (Some layout) same fresh rooms =
      all_push (HasRoomOrBegins fragment course world event) local.calls _ (kept event local.calls rooms)
      (inr (record { new = refl; is_about = same; fresh = fresh }))

  with_new : (event : LocalEvent) (new : NodeCall) (calls : List NodeCall) → AllByRecursion Room calls →
      HasRoomOrBegins fragment course world event new → After event (with_open new calls)
  with_new event new calls rooms room =
      all_with Room (HasRoomOrBegins fragment course world event) new calls rooms room (λ other apart there. inl there)

  -- a change of an open call
  on_call : (event : LocalEvent) (local : LocalObject) (id : ℕ) (change : NodeCall → Outcome) → AllByRecursion Room local.calls →
      ((call : NodeCall) → open_call local.calls id ≡ Some call → Room call → call.id ≡ id → After event (change call).local.calls) →
      After event (on_open_call local (open_call local.calls id) change).local.calls
  on_call event local id change rooms each = go (open_call local.calls id) refl
    where
      go : (o : Option NodeCall) → open_call local.calls id ≡ o → After event (on_open_call local o change).local.calls
      go None e = kept event local.calls rooms
      go (Some call) e = let is = found Room local.calls id call rooms e in each call e is.0 is.1

  advanced : (event : LocalEvent) (local : LocalObject) (call : NodeCall) (o : Option (Kind × ℕ)) → call.id ≡ about event →
      IsFresh world call.id (suc call.phase.number) →
      AllByRecursion Room local.calls → After event (advanced_here fragment local call o).local.calls
  advanced event local call None same fresh rooms = kept event local.calls rooms
  advanced event local call (Some next) same fresh rooms = go (layout_here local next.1)
    where
      go : (o : Option Layout) → After event (advanced_at fragment local call next o).local.calls
      go None = kept event local.calls rooms
      go (Some layout) = with_new event _ local.calls rooms (inr (record { new = refl; is_about = same; fresh = fresh }))

  reads : (event : LocalEvent) (local : LocalObject) (call : NodeCall) (number start : ℕ) (o : Option Layout) → call.id ≡ about event →
      IsFresh world call.id number → AllByRecursion Room local.calls → After event (reads_at local call number start o).local.calls
  reads event local call number start None same fresh rooms = kept event local.calls rooms
  reads event local call number start (Some layout) same fresh rooms =
      with_new event (reading_call call number start layout) local.calls rooms
      (inr (record { new = refl; is_about = same; fresh = fresh }))

  served : (event : LocalEvent) (local : LocalObject) (letter : Letter) (b : Body) → AllByRecursion Room local.calls →
      After event (served_here local letter b).local.calls
  served event local letter (body.Request asked) rooms = kept event local.calls rooms
  served event local letter (body.Reply kind made) rooms = kept event local.calls rooms

  left : (event : LocalEvent) (id : ℕ) (calls : List NodeCall) → AllByRecursion Room calls → After event (without_call id calls)
  left event id calls rooms = kept event (without_call id calls) (all_filter Room (λ call. not (eqb call.id id)) calls rooms)

  -- the calls of a node that hears of a letter
  heard : (local : LocalObject) (letter : Letter) → AllByRecursion Room local.calls → AllByRecursion Room (learnt_from local letter).calls
  heard local letter rooms = subst (AllByRecursion Room) (sym (calls_heard local letter)) rooms

  -- a call that reads on does so at a position before the start
  before : (local : LocalObject) (id : ℕ) → MayHappenHere fragment local (LocalEvent.ReadOn id) → (call : NodeCall) →
      open_call local.calls id ≡ Some call → call.phase.position < local.start
  before local id may call e =
      subst (λ (c : NodeCall). c.phase.position < local.start) (same_Some may.0 call (sym may.1 ∙ e)) may.3

  -- a call that settles its value does not read first
  settled : (local : LocalObject) (id : ℕ) (value : List ℕ) → MayHappenHere fragment local (LocalEvent.Settle id value) →
      (call : NodeCall) → open_call local.calls id ≡ Some call → Room (record call { settled = Some value })
  settled local id value may call e first =
      let same = same_Some call may.0 (sym e ∙ may.1) in
      absurd (fetch_apart may.0.phase.kind may.2.fetch (ap (λ (c : NodeCall). c.phase.kind) (sym same) ∙ first.kind))

  pub rooms_done : (local : LocalObject) (event : LocalEvent) → is_querying event ≡ false → IsWellFormed fragment world →
      IsPartOf world local → MayHappenHere fragment local event → IsPremisedHere world local event → AllByRecursion Room local.calls →
      After event (done_here fragment local event).local.calls
  rooms_done local (LocalEvent.BeginRead id) plain formed part may premised rooms =
      begun (LocalEvent.BeginRead id) local id Read (ReadNext local.start local.start) Next (first_number local.start) local.start
      (layout_here local local.start) refl
      (unused_fresh fragment world id (first_number local.start) formed premised) rooms
  rooms_done local (LocalEvent.BeginWrite id value) plain formed part may premised rooms =
      begun (LocalEvent.BeginWrite id value) local id (Write value) (ReadNext local.start local.start) Next (first_number local.start)
      local.start (layout_here local local.start) refl
      (unused_fresh fragment world id (first_number local.start) formed premised) rooms
  rooms_done local (LocalEvent.BeginMove id layout) plain formed part may premised rooms =
      let last = last_position local in
      let next = with_heard local (suc last) layout in
      begun (LocalEvent.BeginMove id layout) next id Move (first_stage Move last) (Spread Pending) 1 last (layout_here next last) refl
      (unused_fresh fragment world id 1 formed premised.0) rooms
  rooms_done local (LocalEvent.Advance id) plain formed part may premised rooms =
      on_call (LocalEvent.Advance id) local id (λ call. advanced_here fragment local call (due_phase call)) rooms
      (λ call e room same. advanced (LocalEvent.Advance id) local call (due_phase call) same
      (other_fresh fragment world local id (suc call.phase.number) call formed part e (next_differs call.phase.number)) rooms)
  rooms_done local (LocalEvent.Serve letter) plain formed part may premised rooms =
      served (LocalEvent.Serve letter) (learnt_from local letter) letter letter.message.body (heard local letter rooms)
  rooms_done local (LocalEvent.Take letter) plain formed part may premised rooms =
      let next = learnt_from local letter in
      on_call (LocalEvent.Take letter) next letter.message.call
      (λ call. silent (taking_here next call letter.message letter.told)) (heard local letter rooms)
      (λ call e room same. with_new (LocalEvent.Take letter) (taking_open letter.message call) next.calls (heard local letter rooms)
      (inl (room_alike fragment course call (taking_open letter.message call) (taken_alike letter.message call) room)))
  rooms_done local (LocalEvent.Settle id value) plain formed part may premised rooms =
      on_call (LocalEvent.Settle id value) local id
      (λ call. silent (record local { calls = with_open (record call { settled = Some value }) local.calls })) rooms
      (λ call e room same. with_new (LocalEvent.Settle id value) (record call { settled = Some value }) local.calls rooms
      (inl (settled local id value may call e)))
  rooms_done local (LocalEvent.Answer id) plain formed part may premised rooms = left (LocalEvent.Answer id) id local.calls rooms
  rooms_done local (LocalEvent.GiveUp id) plain formed part may premised rooms = left (LocalEvent.GiveUp id) id local.calls rooms
  rooms_done local (LocalEvent.EndEarly id value) plain formed part may premised rooms =
      left (LocalEvent.EndEarly id value) id local.calls rooms
  rooms_done local (LocalEvent.Close position) plain formed part may premised rooms = kept (LocalEvent.Close position) local.calls rooms
  rooms_done local (LocalEvent.Raise position) plain formed part may premised rooms = kept (LocalEvent.Raise position) local.calls rooms
  rooms_done local (LocalEvent.Grow id) plain formed part may premised rooms = kept (LocalEvent.Grow id) local.calls rooms
  rooms_done local (LocalEvent.Hear letter) plain formed part may premised rooms =
      kept (LocalEvent.Hear letter) (learnt_from local letter).calls (heard local letter rooms)
  rooms_done local (LocalEvent.Redirect letter) plain formed part may premised rooms = kept (LocalEvent.Redirect letter) local.calls rooms
  rooms_done local (LocalEvent.ReadOn id) plain formed part may premised rooms =
      on_call (LocalEvent.ReadOn id) local id (λ call. reads_here local call (number_at call local.start)) rooms
      (λ call e room same. reads (LocalEvent.ReadOn id) local call (number_at call local.start) local.start
      (layout_here local local.start) same
      (other_fresh fragment world local id (number_at call local.start) call formed part e
      (on_differs call.phase.number call.phase.position local.start (before local id may call e))) rooms)
  rooms_done local (LocalEvent.BeginAnew id) plain formed part may premised rooms =
      on_call (LocalEvent.BeginAnew id) local id (λ call. reads_here local call (anew_number call local.start)) rooms
      (λ call e room same. reads (LocalEvent.BeginAnew id) local call (anew_number call local.start) local.start
      (layout_here local local.start) same
      (other_fresh fragment world local id (anew_number call local.start) call formed part e
      (anew_differs call.phase.number local.start)) rooms)
  rooms_done local (LocalEvent.Query id) plain formed part may premised rooms = absurd (cc)
