-- Why a call does not begin.
use Rattle.std.proofs.Common.{nat_lt, nat_le, ◌≡◌, ℕ, suc, ◌+◌, ◌<◌, ◌≤◌, Bool, true, false, not, length, Some, None, refl, sym}
use Rattle.std.proofs.Common.{subst, ap, ◌∙◌}
use Rattle.tag.specs.declared.limits.TheConstants.{MOST_CALLS, MOST_MESSAGES, MOST_POSITIONS, MOST_STEPS}
use Rattle.tag.specs.declared.refusal.Refusal.TheVariants.{Full, MovePending}
use Rattle.layout.specs.Layout.{Layout}
use Rattle.encoder.specs.Fragment.{fragment}
use Rattle.bank.specs.Bank.{empty_piece}
use Rattle.bank.specs.declared.kind.Kind.TheVariants.{Spread}
use Rattle.bank.specs.declared.status.Status.TheVariants.{Pending}
use Rattle.mail.specs.Mail.{mail_cause}
use Rattle.record.specs.Records.{Object}
use Rattle.record.specs.Steps.{Step, moving_object, stepped}
use Rattle.register.specs.Causes.{unless, new_call_cause, move_cause}
use Rattle.register.specs.Kept.{has_open_move, HasRoomIfFew, IsKept}
use Rattle.register.specs.Position.{Position}
use Rattle.register.specs.State.{Contents, next_id, state_of}
use Rattle.register.specs.Tracked.{Tracked}
use Rattle.register.proofs.ChangedCallLemmas.{sound_room}
use Rattle.register.proofs.ListLemmas.{length_map}
use Rattle.register.proofs.LastPositionLemmas.{IsLast, last_lawful}
use Rattle.register.proofs.NewMoveLemmas.{moving_mail, moved_is, moved_sound}
use Rattle.register.proofs.RoomLemmas.{few_room, many_full, is_lt, lt_of, le_of, not_true, passed, step_within, sum_few}

-- where no move is open, and the limits of the steps, of the positions and of the calls are kept, the messages alone decide
pub moved_cause_is : (c : Contents) (now number from : ℕ) (source layout : Layout) → IsKept c → c.is_moving ≡ false → IsLast c from source
    → number ≡ suc (length c.calls) →
    now ≤ MOST_STEPS → length c.positions < MOST_POSITIONS → length c.calls < MOST_CALLS
    → move_cause layout now (state_of c).object ≡ mail_cause (moving_mail c number from source)
moved_cause_is c now number from source layout kept none is_last is within few_positions few =
    ap (λ b. unless (not b) MovePending (unless (nat_lt (length (state_of c).object.layouts) MOST_POSITIONS) Full
    (new_call_cause (Step.CallMove (next_id (state_of c).object) layout) now (state_of c).object))) (sym kept.moving ∙ none)
    ∙ ap (λ b. unless b Full (new_call_cause (Step.CallMove (next_id (state_of c).object) layout) now (state_of c).object))
    (is_lt (length (state_of c).object.layouts) MOST_POSITIONS
    (subst (λ n. n < MOST_POSITIONS) (sym (length_map (λ (p : Position). p.layout) c.positions)) few_positions))
    ∙ step_within now _ within
    ∙ ap (λ b. unless b Full (mail_cause (moving_object (state_of c).object (next_id (state_of c).object) layout now).mail))
    (is_lt (length (state_of c).object.calls) MOST_CALLS
    (subst (λ n. n < MOST_CALLS) (sym (length_map (λ (u : Tracked). u.call) c.calls)) few))
    ∙ ap (λ (o : Object). mail_cause o.mail) (moved_is c now number from source layout is_last is)

-- the messages of the move have room, where they are not too many; they do not name the layout that it leads to
pub moving_fits : (c : Contents) (now number from : ℕ) (source : Layout) → IsKept c → c.is_moving ≡ false → IsLast c from source
    → number ≡ suc (length c.calls) →
    c.last < now → HasRoomIfFew (moving_mail c number from source)
moving_fits c now number from source kept none is_last is after =
    sound_room _ now (moved_sound c now number from source source kept is_last is after (last_lawful c from source kept is_last) none)

-- whether there is a cause, by the test of the room for messages
module _ (c : Contents) (now from : ℕ) (source layout : Layout) (kept : IsKept c) (none : c.is_moving ≡ false)
    (is_last : IsLast c from source)
    (within : now ≤ MOST_STEPS) (few_positions : length c.positions < MOST_POSITIONS) (few : length c.calls < MOST_CALLS)
    (n : ℕ) (b : Bool) (is : n ≡ length source.members) (room : b ≡ nat_le (length c.mail + n) MOST_MESSAGES) where
  abbrev number : ℕ
  number = suc (length c.calls)

  by_room : nat_le (length (moving_mail c number from source)) MOST_MESSAGES ≡ b
  by_room = sum_few c.mail number 1 (Spread Pending) from source.members empty_piece n b is room

  by_mail : move_cause layout now (state_of c).object ≡ mail_cause (moving_mail c number from source)
  by_mail = moved_cause_is c now number from source layout kept none is_last refl within few_positions few

  pub many_messages : b ≡ false → move_cause layout now (state_of c).object ≡ Some Full
  many_messages many = by_mail ∙ many_full (moving_mail c number from source) (by_room ∙ many)

  pub no_cause : b ≡ true → c.last < now → move_cause layout now (state_of c).object ≡ None
  no_cause fits after = by_mail ∙ few_room (moving_mail c number from source)
      (moving_fits c now number from source kept none is_last refl after) (by_room ∙ fits)

-- what holds where a call may begin
pub record MayCall (c : Contents) (now : ℕ) : Type 0 where
  pub within : now ≤ MOST_STEPS
  pub few : length c.calls < MOST_CALLS

pub may_call : (c : Contents) (step : Step) (now : ℕ) → new_call_cause step now (state_of c).object ≡ None → MayCall c now
may_call c step now free =
    let object = (state_of c).object in
    let mail = mail_cause (stepped fragment step now object).mail in
    let within = passed (nat_le now MOST_STEPS) Full (unless (nat_lt (length object.calls) MOST_CALLS) Full mail) free in
    let few = passed (nat_lt (length object.calls) MOST_CALLS) Full mail within.1 in
    record {
      within = le_of now MOST_STEPS within.0;
      few = subst (λ n. n < MOST_CALLS) (length_map (λ (u : Tracked). u.call) c.calls) (lt_of (length object.calls) MOST_CALLS few.0);
    }

-- what holds where a move may begin
pub record MayMove (c : Contents) (now : ℕ) : Type 0 where
  pub none : c.is_moving ≡ false
  pub few_positions : length c.positions < MOST_POSITIONS
  pub call : MayCall c now

pub may_move : (c : Contents) (now : ℕ) (layout : Layout) → IsKept c → move_cause layout now (state_of c).object ≡ None → MayMove c now
may_move c now layout kept free =
    let object = (state_of c).object in
    let begun = new_call_cause (Step.CallMove (next_id object) layout) now object in
    let none = passed (not (has_open_move object.calls)) MovePending
    (unless (nat_lt (length object.layouts) MOST_POSITIONS) Full begun) free in
    let few = passed (nat_lt (length object.layouts) MOST_POSITIONS) Full begun none.1 in
    record {
      none = kept.moving ∙ not_true (has_open_move object.calls) none.0;
      few_positions = subst (λ n. n < MOST_POSITIONS) (length_map (λ (p : Position). p.layout) c.positions)
          (lt_of (length object.layouts) MOST_POSITIONS few.0);
      call = may_call c (Step.CallMove (next_id object) layout) now few.1;
    }
