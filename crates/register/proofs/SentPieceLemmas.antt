-- A call that is to send the pieces of its value.
use Rattle.std.proofs.Common.{◌≡◌, ℕ, pred, ◌<◌, ◌⊎◌, cond, is_some, List, [], length, get_or, Option, Some, None, IsSome, IfSome}
use Rattle.std.proofs.Common.{option_map, sym, ap, subst, ◌∙◌, inl, inr, refl, Result, Ok, Err, IfErr}
use Rattle.std.proofs.lemmas.Option.{slice_get_read, get_or_from_slice_get, same_Some}
use Rattle.tag.specs.declared.refusal.Refusal.{Refusal}
use Rattle.tag.specs.declared.refusal.Refusal.TheVariants.{NotNow, NoMemory}
use Rattle.tag.specs.Refusal.{IsByCause}
use Rattle.bank.specs.declared.kind.Kind.{Kind}
use Rattle.bank.specs.declared.kind.Kind.TheVariants.{PreWrite}
use Rattle.encoder.specs.Fragment.{fragment}
use Rattle.layout.specs.Layout.{Layout}
use Rattle.mail.specs.Phase.{Phase}
use Rattle.record.specs.Records.{Object, layout_at, no_layout}
use Rattle.record.specs.PhaseOrder.{due}
use Rattle.record.specs.Legal.{due_of}
use Rattle.record.specs.Preconditions.{IsPreWrite, WantsPieces, AwaitsPieces}
use Rattle.record.specs.Sending.{sent_value, value_or_empty}
use Rattle.record.specs.Wants.{current_phase, want_of, want_after}
use Rattle.record.specs.declared.stage.Want.{Want}
use Rattle.record.specs.declared.stage.Want.TheVariants as want
use Rattle.soundness.proofs.Sound.SentPieceLemmas.{sent_there}
use Rattle.register.specs.Causes.{value_cause, unless}
use Rattle.register.specs.Coding.{is_pre_write, sending_position, pieces_position, pieces_due}
use Rattle.register.specs.Position.{Position, layouts_of}
use Rattle.register.specs.State.{Contents, object_of, state_of}
use Rattle.register.specs.Tracked.{Tracked, tracked_want}
use Rattle.register.specs.View.{coding_at}
use Rattle.register.proofs.FirstReadingLemmas.{begun_pieces}
use Rattle.register.proofs.FoundCallLemmas.{IsFound, at_number, at_place, caused, below, below_due, due_kept}
use Rattle.register.proofs.ListLemmas.{found_map}

-- the layout that is read at a position
pub layout_read : (ps : List Position) (i : ℕ) (p : Position) → i < length ps → p ≡ get_or ps i p
    → get_or (layouts_of ps) i no_layout ≡ p.layout
layout_read ps i p within read =
    get_or_from_slice_get (layouts_of ps) i p.layout no_layout
    (found_map (λ (p : Position). p.layout) ps i p (slice_get_read ps (length ps) i p refl within read))

-- a phase that sends pieces
pub record IsSending (current : Option Phase) (position : ℕ) : Type 0 where
  pub phase : Phase
  pub is : current ≡ Some phase
  pub kind : IsPreWrite phase.kind
  pub same : phase.position ≡ position

sends_pieces : (kind : Kind) (p position : ℕ) → cond (is_pre_write kind) (Some p) None ≡ Some position → IsPreWrite kind × (p ≡ position)
sends_pieces (PreWrite tag) p position e = ((tag, refl), cc)
sends_pieces _ p position e = absurd (cc)

pub sending_of : (current : Option Phase) (position : ℕ) → sending_position current ≡ Some position → IsSending current position
sending_of None position e = absurd (cc)
sending_of (Some phase) position e =
    let both = sends_pieces phase.kind phase.position position e in
    record { phase = phase; is = refl; kind = both.0; same = both.1 }

due_below : (n position : ℕ) (next : Option (Kind × ℕ)) → IfSome next (λ asked. asked.1 < n)
    → option_map (λ (asked : Kind × ℕ). asked.1) next ≡ Some position → position < n
due_below n position None below e = absurd (cc)
due_below n position (Some asked) below e = let same : asked.1 ≡ position = same_Some asked.1 position e in subst (λ m. m < n) same below

no_none : {X : Type 0} (o : Option X) → IsSome o → None ≡ o → ⊥
no_none None some e = absurd (cc)
no_none (Some x) some e = absurd (cc)

pub or_empty : (o : Option (List ℕ)) (value : List ℕ) → Some value ≡ o → value_or_empty o ≡ value
or_empty None value e = absurd (cc)
or_empty (Some other) value e = cc

-- where there is no cause, memory alone is wanting
pub for_memory : {T : Type 0} (cause : Option Refusal) (r : Result T Refusal) → cause ≡ None → IfErr r (λ e. e ≡ NoMemory)
    → IsByCause cause r
for_memory cause (Ok x) none memory = none
for_memory cause (Err e) none memory = inr (none, memory)

-- the call was read, and its pieces are to go to this position, if any
pub record IsSendingTo (c : Contents) (number index : ℕ) (t : Tracked) (to : Option ℕ) : Type 0 where
  pub found : IsFound c number index t
  pub due : pieces_due (state_of c).object (pred number) t.call ≡ to

pub sending : {c : Contents} {number index : ℕ} {t : Tracked} {positions : List Position} {v to : Option ℕ}
    → IsFound c number index t
    → v ≡ pieces_position (tracked_want (object_of None positions [] []) t) (due t.stage) (current_phase t.call.phases)
    → positions ≡ c.positions → v ≡ to → IsSendingTo c number index t to
sending {c = c} {number = number} {t = t} {positions = positions} f is same matched = record {
  found = f;
  due =
      let current = current_phase t.call.phases in
      sym (begun_pieces (state_of c).object (is_some t.call.answered) t.stage c.base t.call.settled current
      ∙ ap (λ next. pieces_position (cond (is_some t.call.answered) want.Done (want_after (state_of c).object next t.call.settled current))
      next current) (due_kept f))
      ∙ sym (is ∙ ap (λ ps. pieces_position (tracked_want (object_of None ps [] []) t) (due t.stage) current) same)
      ∙ matched;
}

pub value_cause_is : {c : Contents} {number index : ℕ} {t : Tracked} {to : Option ℕ} → IsSendingTo c number index t to
    → value_cause (state_of c).object number ≡ unless (is_some to) NotNow None
value_cause_is s = caused s.found _ ∙ ap (λ (o : Option ℕ). unless (is_some o) NotNow None) s.due

module _ {c : Contents} {number index : ℕ} {t : Tracked} {position : ℕ} (s : IsSendingTo c number index t (Some position)) where
  abbrev object : Object
  object = (state_of c).object

  abbrev next : Option (Kind × ℕ)
  next = due_of object (pred number) t.call

  pub takes : WantsPieces object (pred number) t.call ⊎ AwaitsPieces object (pred number) t.call
  takes = go (want_of object (pred number) t.call) refl s.due
    where
      go : (w : Want) → want_of object (pred number) t.call ≡ w → pieces_position w next (current_phase t.call.phases) ≡ Some position
          → WantsPieces object (pred number) t.call ⊎ AwaitsPieces object (pred number) t.call
      go (want.Supply k n) is e = inl (k, n, (at_place s.found, is))
      go want.Replies is e =
          let here = sending_of (current_phase t.call.phases) position e in
          inr (here.phase, record { wants = (at_place s.found, is); current = here.is }, here.kind)
      go _ is e = absurd (cc)

  pub position_there : position < length c.positions
  position_there = go (want_of object (pred number) t.call) s.due
    where
      go : (w : Want) → pieces_position w next (current_phase t.call.phases) ≡ Some position → position < length c.positions
      go (want.Supply k n) e =
          due_below (length c.positions) position next (below_due s.found) e
      go want.Replies e =
          let here = sending_of (current_phase t.call.phases) position e in
          subst (λ p. p < length c.positions) here.same ((below s.found).current here.phase here.is)
      go _ e = absurd (cc)

  pub sent_value_there : None ≡ sent_value t.call.kind t.call.settled → ⊥
  sent_value_there none =
      no_none (sent_value t.call.kind t.call.settled)
      (sent_there fragment object c.last s.found.kept.sound (pred number) t.call (at_place s.found) takes) none

  pub layout_there : {here : Position} {layout : Layout} → here ≡ get_or c.positions position here → layout ≡ here.layout
      → layout_at object position ≡ layout
  layout_there {here = here} read is = layout_read c.positions position here position_there read ∙ sym is

  pub coding_is : {value : List ℕ} {layout : Layout} → Some value ≡ sent_value t.call.kind t.call.settled
      → layout_at object position ≡ layout
      → coding_at object number ≡ Some (value, layout.k, length layout.members)
  coding_is {value = value} sent layout_is = cc (at_number s.found, s.due, or_empty (sent_value t.call.kind t.call.settled) value sent)

-- a call with no value to send sends no pieces
pub none_sent : {c : Contents} {number index : ℕ} {t : Tracked} → IsFound c number index t
    → None ≡ sent_value t.call.kind t.call.settled → IsSendingTo c number index t None
none_sent {c = c} {number = number} {index = index} {t = t} f none = go (pieces_due (state_of c).object (pred number) t.call) refl
  where
    go : (to : Option ℕ) → pieces_due (state_of c).object (pred number) t.call ≡ to → IsSendingTo c number index t None
    go None is = record { found = f; due = is }
    go (Some position) is = absurd (sent_value_there (record { found = f; due = is }) none)
