-- Whether a call may be supplied with its own value, before that is coded.
use Rattle.std.proofs.Common.{◌≡◌, ◌⊎◌, ℕ, suc, pred, ◌+◌, ◌<◌, ◌≤◌, ◌++◌, ◌&&◌, nat_lt, nat_le, Bool, true, false, is_some, List, []}
use Rattle.std.proofs.Common.{◌∷◌, length, get_or, Option, Some, None, option_map, sym, ap, ◌∙◌, inl, inr, refl}
use Rattle.std.proofs.lemmas.Bool.{eq-eqb}
use Rattle.tag.specs.declared.limits.TheConstants.{MOST_MESSAGES, MOST_PHASES, MOST_STEPS}
use Rattle.tag.specs.declared.refusal.Refusal.{Refusal}
use Rattle.tag.specs.declared.refusal.Refusal.TheVariants.{NotNow, WrongCode, Full}
use Rattle.encoder.specs.Coded.{Coding}
use Rattle.encoder.specs.Fragment.{fragment}
use Rattle.piece.specs.declared.piece.Piece.{Piece}
use Rattle.bank.specs.declared.kind.Kind.{Kind}
use Rattle.layout.specs.Layout.{Layout}
use Rattle.mail.specs.Mail.{mail_cause}
use Rattle.mail.specs.Phase.{Phase}
use Rattle.record.specs.Legal.{due_of}
use Rattle.record.specs.Records.{Call, Object, layout_at}
use Rattle.record.specs.Sending.{sent_value, value_or_empty}
use Rattle.record.specs.Steps.{Step, stepped}
use Rattle.record.specs.Preconditions.{WantsPieces}
use Rattle.record.specs.Wants.{current_phase}
use Rattle.register.specs.Causes.{call_at, if_call, unless, is_replied, supply_cause, supplied_cause, supply_room_cause, supplying_cause}
use Rattle.call.specs.Pieces.{piece_from}
use Rattle.register.specs.Coding.{bytes_eq, is_coded_for, pieces_due, pieces_position}
use Rattle.register.specs.Position.{Position}
use Rattle.register.specs.State.{Contents, State, state_of}
use Rattle.register.specs.Tracked.{Tracked, asked_again}
use Rattle.register.proofs.AskAgainLemmas.{IsAsking, again_room, again_by}
use Rattle.register.proofs.BeginPhaseLemmas.{IsBeginning, mail_begun, begin_room, begin_cause}
use Rattle.register.proofs.FoundCallLemmas.{caused}
use Rattle.register.proofs.RoomLemmas.{fits_by, room_by, sum_few}
use Rattle.register.proofs.SentPieceLemmas.{IsSendingTo, sent_value_there, layout_there}
use Rattle.register.proofs.SuppliedPieceLemmas.{IsSupplied, room_is, past_both}
use Rattle.register.proofs.SupplyStepLemmas.{wants_pieces, same_due, begins, asks}

-- a supply is refused for its code, or for what refuses a supply with the call's own value
pub or_wrong : (now : ℕ) (object : Object) (number : ℕ) (coded : Coding) → (supply_cause now object number coded ≡ Some WrongCode)
    ⊎ (supply_cause now object number coded ≡ supplying_cause now object number)
or_wrong now object number coded = go (call_at object number)
  where
    tested : (b : Bool) (room : Option Refusal) → (unless b WrongCode room ≡ Some WrongCode) ⊎ (unless b WrongCode room ≡ room)
    tested true room = inr refl
    tested false room = inl refl

    at : (call : Call) (o : Option ℕ) → (supplied_cause now object (pred number) call coded o ≡ Some WrongCode)
        ⊎ (supplied_cause now object (pred number) call coded o
        ≡ unless (is_some o) NotNow (supply_room_cause now object (pred number) call))
    at call None = inr refl
    at call (Some position) =
        tested (is_coded_for (layout_at object position) (value_or_empty (sent_value call.kind call.settled)) coded)
        (supply_room_cause now object (pred number) call)

    go : (o : Option Call)
        → (if_call o (λ call. supplied_cause now object (pred number) call coded (pieces_due object (pred number) call)) ≡ Some WrongCode)
        ⊎ (if_call o (λ call. supplied_cause now object (pred number) call coded (pieces_due object (pred number) call))
        ≡ if_call o
        (λ call. unless (is_some (pieces_due object (pred number) call)) NotNow (supply_room_cause now object (pred number) call)))
    go None = inr refl
    go (Some call) = at call (pieces_due object (pred number) call)

bytes_same : (xs : List ℕ) → bytes_eq xs xs ≡ true
bytes_same [] = refl
bytes_same (x ∷ xs) = ap (λ b. b && bytes_eq xs xs) (eq-eqb x x refl) ∙ bytes_same xs

own_is_right : (layout : Layout) (value : List ℕ)
    → is_coded_for layout value (record { k = layout.k; n = length layout.members; value = value }) ≡ true
own_is_right layout value =
    all_three _ _ _ (bytes_same value) (eq-eqb layout.k layout.k refl) (eq-eqb (length layout.members) (length layout.members) refl)
  where
    all_three : (a b c : Bool) → a ≡ true → b ≡ true → c ≡ true → (a && (b && c)) ≡ true
    all_three true true true p q r = refl
    all_three _ _ _ p q r = absurd (cc)

value_of : (o : Option (List ℕ)) → (None ≡ o → ⊥) → (value : List ℕ) × (Some value ≡ o)
value_of None some = absurd (some refl)
value_of (Some value) some = (value, refl)

next_of : (o : Option (Kind × ℕ)) (position : ℕ) → option_map (λ (n : Kind × ℕ). n.1) o ≡ Some position
    → (next : Kind × ℕ) × (o ≡ Some next)
next_of None position e = absurd (cc)
next_of (Some next) position e = (next, refl)

-- once the pieces are known to be due, or not
pub permitted_is : {c : Contents} {number index : ℕ} {t : Tracked} {to : Option ℕ} → IsSendingTo c number index t to → (now : ℕ)
    → supplying_cause now (state_of c).object number
    ≡ unless (is_some to) NotNow (supply_room_cause now (state_of c).object (pred number) t.call)
permitted_is {c = c} {number = number} {t = t} s now =
    caused s.found _
    ∙ ap (λ (o : Option ℕ). unless (is_some o) NotNow (supply_room_cause now (state_of c).object (pred number) t.call)) s.due

-- past the limit of steps
pub past_permitted : {c : Contents} {number index position : ℕ} {t : Tracked} → IsSendingTo c number index t (Some position) → (now : ℕ)
    → MOST_STEPS < now → supplying_cause now (state_of c).object number ≡ Some Full
past_permitted {c = c} {number = number} {t = t} s now past =
    let mail = (stepped fragment (Step.Supply (pred number)) now (state_of c).object).mail in
    permitted_is s now
    ∙ past_both now (is_replied (current_phase t.call.phases))
    (unless (nat_lt (length t.call.phases) MOST_PHASES) Full (mail_cause mail)) (mail_cause mail) past

-- the call's own value, coded for the layout that its pieces go to, is no wrong code
module _ {c : Contents} {number index position : ℕ} {t : Tracked} (to : IsSendingTo c number index t (Some position)) {here : Position}
    {layout : Layout} (read : here ≡ get_or c.positions position here) (is_layout : layout ≡ here.layout) where
  abbrev object : Object
  object = (state_of c).object

  value_there : (value : List ℕ) × (Some value ≡ sent_value t.call.kind t.call.settled)
  value_there = value_of (sent_value t.call.kind t.call.settled) (sent_value_there to)

  abbrev own : Coding
  own = record { k = layout.k; n = length layout.members; value = value_there.0 }

  supplied_own : IsSupplied c number index t own position layout value_there.0
  supplied_own = record {
    to = to;
    placed = layout_there to read is_layout;
    sent = value_there.1;
    right = own_is_right layout value_there.0;
  }

  own_is : (now : ℕ) → supplying_cause now object number ≡ supply_cause now object number own
  own_is now = permitted_is to now ∙ sym (room_is supplied_own now)

  module _ (now : ℕ) (within : now ≤ MOST_STEPS) {s : State} (view : state_of c ≡ s) (after : s.last < now) (b : Bool) where
    -- the phase that is due may begin
    pub permits_begin : {phase : Option Phase} {replied : Bool} → phase ≡ current_phase t.call.phases → replied ≡ is_replied phase
        → replied ≡ true → {n : ℕ} → n ≡ length layout.members
        → b ≡ (nat_lt (length t.call.phases) MOST_PHASES && nat_le (length c.mail + n) MOST_MESSAGES)
        → supplying_cause now object number ≡ unless b Full None
    permits_begin current_is asked passed {n = n} members tested =
        own_is now ∙ begin_cause begun now within
        ∙ room_by (nat_lt (length t.call.phases) MOST_PHASES) (nat_le (length c.mail + n) MOST_MESSAGES) b (mail_begun begun now)
        (begin_room begun now view after)
        (sum_few c.mail t.call.id (suc (length t.call.phases)) next.0.0 next.0.1 layout.members (piece_from (Some own)) n
        (nat_le (length c.mail + n) MOST_MESSAGES) members refl)
        tested
      where
        replied_is : is_replied (current_phase t.call.phases) ≡ true
        replied_is = ap is_replied (sym current_is) ∙ sym asked ∙ passed

        wants : WantsPieces object (pred number) t.call
        wants = wants_pieces supplied_own replied_is

        next : (asked : Kind × ℕ) × (due_of object (pred number) t.call ≡ Some asked)
        next = next_of (due_of object (pred number) t.call) position
            (ap (λ w. pieces_position w (due_of object (pred number) t.call) (current_phase t.call.phases)) (sym wants.2.1)
            ∙ to.due)

        begun : IsBeginning c number index t (Step.Supply (pred number)) (λ now. supply_cause now object number own) (Some own)
            next.0.0 next.0.1 layout
        begun = begins supplied_own replied_is (same_due supplied_own wants ∙ next.1)

    -- the current phase may ask again
    pub permits_asking : {phase : Option Phase} {replied : Bool} → phase ≡ current_phase t.call.phases → replied ≡ is_replied phase
        → replied ≡ false
        → ((p : Phase) (servers : List ℕ) (piece : ℕ → Piece) → current_phase t.call.phases ≡ Some p → length servers ≡ p.members
        → b ≡ nat_le (length (c.mail ++ asked_again number p servers c.mail piece)) MOST_MESSAGES)
        → supplying_cause now object number ≡ unless b Full None
    permits_asking current_is asked failed tested =
        own_is now
        ∙ again_by asking now within (λ cause. cause ≡ unless b Full None)
        (λ p servers current count.
        fits_by (c.mail ++ asked_again number p servers c.mail (piece_from (Some own))) b
        (again_room asking now view after p servers current count) (sym (tested p servers (piece_from (Some own)) current count)))
      where
        asking : IsAsking c number index t (Step.Supply (pred number)) (λ now. supply_cause now object number own) (Some own)
        asking = asks supplied_own (ap is_replied (sym current_is) ∙ sym asked ∙ failed)
