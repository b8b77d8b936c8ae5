-- What a change of one call, or one more call, keeps of a register.
use Rattle.std.proofs.Common.{option_map, ◌+◌, ◌^◌, IfSome, nat_lt, ◌≡◌, ℕ, zero, suc, ◌<◌, ◌≤◌, ◌⊎◌, Bool, true, false, ◌||◌}
use Rattle.std.proofs.Common.{List, [], ◌∷◌, ◌++◌, length, set, Option, Some, None, refl, sym, subst, ap, ◌∙◌, inl, inr}
use Rattle.std.proofs.Common.{arith, slice_get}
use Rattle.std.specs.List.{list_any}
use Rattle.std.proofs.lemmas.Bool.Decides.{nat_tests}
use Rattle.std.proofs.lemmas.List.{length_push, map-set}
use Rattle.std.proofs.lemmas.Option.{same_Some, slice_get-map, slice_get_past, get_or_from_slice_get}
use Rattle.std.proofs.lemmas.List.Folds.{list_any-append}
use Rattle.tag.specs.declared.limits.TheConstants.{MOST_PHASES, MOST_POSITIONS}
use Rattle.tag.specs.declared.tag.Tag.{Tag}
use Rattle.layout.specs.Layout.{Layout}
use Rattle.encoder.specs.Fragment.{fragment}
use Rattle.piece.specs.declared.piece.Piece.{Piece}
use Rattle.bank.specs.declared.kind.Kind.{Kind}
use Rattle.bank.specs.declared.kind.Kind.TheVariants.{PreWrite}
use Rattle.mail.specs.declared.message.Message.{Message}
use Rattle.mail.specs.Phase.{Phase, lacks_pieces}
use Rattle.record.specs.declared.call.CallKind.{CallKind}
use Rattle.record.specs.declared.stage.Stage.{Stage}
use Rattle.record.specs.Records.{Object, no_layout, layout_at}
use Rattle.record.specs.PhaseOrder.{begun_at, passed, stage_past, stage_after}
use Rattle.record.specs.Legal.{first_stage, source_of}
use Rattle.soundness.specs.Sound.{IsSound}
use Rattle.record.specs.Steps.{with_phase, new_phase}
use Rattle.record.specs.Sending.{request_to, requests}
use Rattle.register.specs.Position.{Position, layouts_of}
use Rattle.register.specs.Tracked.{Tracked, with_begun}
use Rattle.register.specs.State.{Contents, object_of, state_of}
use Rattle.register.proofs.PieceLengthLemmas.{few_have_room, mail_short}
use Rattle.register.specs.Kept.{HasRoomIfFew, IsKept}
use Rattle.register.specs.Causes.{call_at, unless}
use Rattle.register.proofs.StepInvariantLemmas.{call_kept, open_moves_set}
use Rattle.tag.specs.declared.refusal.Refusal.{Refusal}
use Rattle.tag.specs.declared.refusal.Refusal.TheVariants.{Full}

-- Parts that are read

pub layout_is : (delta : Option ℕ) (positions : List Position) (mail : List Message) (calls : List Tracked) (position : ℕ) (p : Position)
    → slice_get positions position ≡ Some p →
    layout_at (object_of delta positions mail calls) position ≡ p.layout
layout_is delta positions mail calls position p at =
    get_or_from_slice_get (layouts_of positions) position p.layout no_layout
    (slice_get-map (λ p. p.layout) positions position ∙ ap (λ (o : Option Position). option_map (λ p. p.layout) o) at)

pub no_call : (object : Object) (number : ℕ) → (number ≡ 0) ⊎ (length object.calls < number) → call_at object number ≡ None
no_call object zero none = refl
no_call object (suc index) (inl none) = absurd (cc)
no_call object (suc index) (inr past) = slice_get_past object.calls index (omega arith)

-- Requests

request_plain : (kind : Kind) (a b : Piece) → ((tag : Tag) → kind ≡ PreWrite tag → ⊥) → request_to kind a ≡ request_to kind b
request_plain (PreWrite tag) a b plain = absurd (plain tag refl)
request_plain _ a b plain = refl

-- requests that bring no piece
pub requests_plain : (call phase : ℕ) (kind : Kind) (position : ℕ) (servers : List ℕ) (member : ℕ) (f g : ℕ → Piece) →
    ((tag : Tag) → kind ≡ PreWrite tag → ⊥) → requests call phase kind position servers member f
    ≡ requests call phase kind position servers member g
requests_plain call phase kind position [] member f g plain = refl
requests_plain call phase kind position (server ∷ servers) member f g plain =
    cc (request_plain kind (f member) (g member) plain, requests_plain call phase kind position servers (suc member) f g plain)

-- Open moves

pub any_none : {A : Type 0} (p : A → Bool) (xs : List A) → ((i : ℕ) (x : A) → slice_get xs i ≡ Some x → p x ≡ false) → list_any p xs ≡ false
any_none p [] none = refl
any_none p (x ∷ xs) none = ap (λ b. b || list_any p xs) (none 0 x refl) ∙ any_none p xs (λ i y e. none (suc i) y e)

or_false : (a b : Bool) → (a || b) ≡ false → (a ≡ false) × (b ≡ false)
or_false true b e = absurd (cc)
or_false false b e = (refl, e)

pub none_any : {A : Type 0} (p : A → Bool) (xs : List A) (i : ℕ) (x : A) → list_any p xs ≡ false → slice_get xs i ≡ Some x → p x ≡ false
none_any p [] i x none e = absurd (cc)
none_any p (y ∷ ys) zero x none e = ap p (sym (same_Some y x e)) ∙ (or_false (p y) (list_any p ys) none).0
none_any p (y ∷ ys) (suc i) x none e = none_any p ys i x (or_false (p y) (list_any p ys) none).1 e

pub or_none : (b : Bool) → (b || false) ≡ b
or_none true = refl
or_none false = refl

pub any_push : {A : Type 0} (p : A → Bool) (xs : List A) (y : A) → list_any p (xs ++ y ∷ []) ≡ (list_any p xs || p y)
any_push p xs y = list_any-append p xs (y ∷ []) ∙ ap (λ b. list_any p xs || b) (or_none (p y))

-- One call changes

-- a phase that has begun leaves the stage as it is, but that a first reading begins at its position
pub stage_push : (kind : CallKind) (number : ℕ) (phases : List Phase) (stage : Stage) (next : Phase) → next.end ≡ None →
    stage_after kind number stage (phases ++ next ∷ []) ≡ begun_at (stage_after kind number stage phases) next.position
stage_push kind number [] stage next none =
    ap (λ o. passed kind number (begun_at stage next.position) o next.replies (lacks_pieces next)) none
stage_push kind number (phase ∷ phases) stage next none =
    stage_push kind number phases (stage_past kind number stage phase) next none

-- the call begins the phase that is due
abbrev pub with_due : Contents → (index : ℕ) → Tracked → Kind → (position : ℕ) → Layout → (now : ℕ) → (ℕ → Piece) → Contents
with_due c index t kind position layout now piece = record c {
  mail = c.mail ++ requests (suc index) (suc (length t.call.phases)) kind position layout.members 0 piece;
  calls = set c.calls index (with_begun t (suc index) kind position layout now);
  last = now;
}

pub with_due_is : (c : Contents) (index : ℕ) (t : Tracked) (kind : Kind) (position : ℕ) (layout : Layout) (now : ℕ) (piece : ℕ → Piece) →
    layout_at (state_of c).object position ≡ layout → t.call.id ≡ suc index →
    with_phase (state_of c).object index t.call kind position now piece
    ≡ (state_of (with_due c index t kind position layout now piece)).object
with_due_is c index t kind position layout now piece same id =
    let changed = map-set (λ (u : Tracked). u.call) c.calls index (with_begun t (suc index) kind position layout now) in cc

pub with_due_kept : (c : Contents) (index : ℕ) (t : Tracked) (kind : Kind) (position : ℕ) (layout : Layout) (now : ℕ) (piece : ℕ → Piece)
    → IsKept c →
    slice_get c.calls index ≡ Some t → length t.call.phases < MOST_PHASES →
    IsSound fragment (state_of (with_due c index t kind position layout now piece)).object now
    → IsKept (with_due c index t kind position layout now piece)
with_due_kept c index t kind position layout now piece kept at few sound =
    call_kept c index now t (with_begun t (suc index) kind position layout now)
    (c.mail ++ requests (suc index) (suc (length t.call.phases)) kind position layout.members 0 piece) c.is_moving kept at refl refl
    (ap (λ (s : Stage). begun_at s position) (kept.staged index t at) ∙ sym (stage_push t.call.kind t.call.id t.call.phases
    (first_stage t.call.kind (source_of (state_of c).object index)) next refl))
    (subst (λ n. n ≤ MOST_PHASES) (sym (length_push t.call.phases next)) (omega (arith, few)))
    (kept.moving ∙ sym (open_moves_set c.calls index t (with_begun t (suc index) kind position layout now) at refl refl)) sound
  where
    next : Phase
    next = new_phase (suc index) (suc (length t.call.phases)) kind position layout now

-- the phase that is due has a next position in the machine's numbers
pub below_limit : (count : ℕ) (next : Option (Kind × ℕ)) → IfSome next (λ asked. asked.1 < count) → count ≤ MOST_POSITIONS
    → IfSome next (λ asked. asked.1 + 1 < 2 ^ 32)
below_limit count None below few = tt
below_limit count (Some next) below few = omega (arith, below, few)

pub due_below : (count : ℕ) (next : Option (Kind × ℕ)) (kind : Kind) (position : ℕ) → IfSome next (λ asked. asked.1 < count)
    → next ≡ Some (kind, position) →
    position < count
due_below count asked kind position below is = subst (λ o. IfSome o (λ asked. asked.1 < count)) is below

-- where no cause is left there is room
pub room_there : (count most : ℕ) (later : Option Refusal) → unless (nat_lt count most) Full later ≡ None → count < most
room_there count most later none = go (nat_lt count most) refl none
  where
    go : (b : Bool) → nat_lt count most ≡ b → unless b Full later ≡ None → count < most
    go true e none = grind (arith, nat_tests, e)
    go false e none = absurd (cc)

-- the requests of a phase depend on how many servers there are, and not on which ones
pub requests_length : (call phase : ℕ) (kind : Kind) (position : ℕ) (a b : List ℕ) (member : ℕ) (piece : ℕ → Piece) → length a ≡ length b →
    requests call phase kind position a member piece ≡ requests call phase kind position b member piece
requests_length call phase kind position [] [] member piece e = refl
requests_length call phase kind position (x ∷ a) (y ∷ b) member piece e =
    ap (λ ms. record {
      call = call;
      phase = phase;
      position = position;
      member = member;
      body = Rattle.mail.specs.declared.message.Body.TheVariants.Request (request_to kind (piece member));
    } ∷ ms)
    (requests_length call phase kind position a b (suc member) piece (omega (arith, e)))
requests_length call phase kind position _ _ member piece e = absurd (cc)

-- the messages of a sound record have room, where they are not too many
pub sound_room : (object : Object) (step : ℕ) → IsSound fragment object step → HasRoomIfFew object.mail
sound_room object step sound = few_have_room object.mail (mail_short object step sound)
