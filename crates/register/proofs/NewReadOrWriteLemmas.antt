-- What the call of a read or a write makes of a register.
use Rattle.std.proofs.Common.{get_or, nat_lt, nat_le, ◌+◌, ◌≡◌, ℕ, suc, ◌<◌, ◌≤◌, ◌⊎◌, Bool, true, false, ◌&&◌, ◌||◌, List, []}
use Rattle.std.proofs.Common.{◌∷◌, ◌++◌, length, take, Option, Some, refl, sym, subst, ap, ◌∙◌, inl, inr, arith, slice_get}
use Rattle.std.specs.List.{AllByRecursion}
use Rattle.std.proofs.lemmas.Option.{slice_get_within}
use Rattle.tag.specs.declared.limits.TheConstants.{LONGEST_VALUE, MOST_CALLS, MOST_MESSAGES, MOST_PHASES, MOST_STEPS}
use Rattle.layout.specs.Layout.{Layout}
use Rattle.encoder.specs.Fragment.{fragment}
use Rattle.bank.specs.Bank.{empty_piece}
use Rattle.bank.specs.declared.kind.Kind.TheVariants.{Next}
use Rattle.soundness.proofs.Sound.NewCallLemmas.{moves_push}
use Rattle.soundness.proofs.Sound.NewPhaseSoundLemmas.{get_pushed}
use Rattle.record.specs.declared.call.CallKind.{CallKind}
use Rattle.record.specs.declared.call.CallKind.TheVariants.{Read, Write}
use Rattle.record.specs.declared.stage.Stage.TheVariants.{ReadBegin}
use Rattle.record.specs.PhaseOrder.{begun_at, stage_after}
use Rattle.record.specs.Fragments.{AreBytes, IsValue}
use Rattle.record.specs.Legal.{is_move, moves_in, first_stage, source_of, stage_of}
use Rattle.record.specs.Records.{Call, Object, layout_at, base_of}
use Rattle.soundness.specs.Sound.{IsSound}
use Rattle.record.specs.Steps.{Step, new_call, called_object}
use Rattle.record.specs.Sending.{requests}
use Rattle.register.specs.Kept.{is_open_move, has_open_move, IsKept}
use Rattle.register.specs.Position.{Position}
use Rattle.register.specs.State.{Contents, HasNumbersAsIds, next_id, state_of}
use Rattle.register.specs.Tracked.{Tracked, calls_of, with_begun}
use Rattle.soundness.proofs.ListLemmas.{all_push}
use Rattle.register.proofs.ListLemmas.{map_push, set_push, length_map, length_push}
use Rattle.register.proofs.StepInvariantLemmas.{steps_on, next_is_new}
use Rattle.register.proofs.ChangedCallLemmas.{any_push, or_none}
use Rattle.register.proofs.RoomLemmas.{le_of, is_lt, not_lt, sum_few, step_within, step_past}
use Rattle.register.specs.Causes.{unless, if_step}
use Rattle.mail.specs.declared.message.Message.{Message}
use Rattle.mail.specs.Mail.{mail_cause}
use Rattle.tag.specs.declared.refusal.Refusal.{Refusal}
use Rattle.tag.specs.declared.refusal.Refusal.TheVariants.{Full}

-- what a call that reads the sequence of layouts may be
abbrev pub IsReading : CallKind → Type 0
IsReading kind = (kind ≡ Read) ⊎ ((value : List ℕ) × (kind ≡ Write value) × IsValue value)

-- a call before its first phase, and with it
abbrev pub fresh : (id : ℕ) → CallKind → (now : ℕ) → Tracked
fresh id kind now = record { call = new_call id kind now; stage = ReadBegin }

abbrev pub reading : CallKind → (number base : ℕ) → Layout → (now : ℕ) → Tracked
reading kind number base layout now = with_begun (fresh number kind now) number Next base layout now

abbrev pub with_reading : Contents → CallKind → (number : ℕ) → Layout → (now : ℕ) → Contents
with_reading c kind number layout now = record c {
  mail = c.mail ++ requests number 1 Next c.base layout.members 0 empty_piece;
  calls = c.calls ++ reading kind number c.base layout now ∷ [];
  last = now;
}

pub called_is : (c : Contents) (kind : CallKind) (now number : ℕ) (layout : Layout) → c.base ≡ base_of (state_of c).object
    → layout_at (state_of c).object c.base ≡ layout → number ≡ suc (length c.calls) →
    called_object (state_of c).object (next_id (state_of c).object) kind now ≡ (state_of (with_reading c kind number layout now)).object
called_is c kind now number layout based same is =
    let count = length_map (λ (u : Tracked). u.call) c.calls in
    let put = set_push (calls_of c.calls) (new_call number kind now) (reading kind number c.base layout now).call in
    let pushed = map_push (λ (u : Tracked). u.call) c.calls (reading kind number c.base layout now) in
    cc

pub calls_pushed : (c : Contents) (new : Tracked) → calls_of (c.calls ++ new ∷ []) ≡ calls_of c.calls ++ new.call ∷ []
calls_pushed c new = map_push (λ (u : Tracked). u.call) c.calls new

-- sources of the calls before one more
pub source_pushed : (c : Contents) (new : Tracked) (i : ℕ) → i ≤ length c.calls
    → moves_in (take i (calls_of (c.calls ++ new ∷ []))) ≡ moves_in (take i (calls_of c.calls))
source_pushed c new i within =
    ap (λ cs. moves_in (take i cs)) (calls_pushed c new)
    ∙ moves_push (calls_of c.calls) new.call i (subst (λ n. i ≤ n) (sym (length_map (λ (u : Tracked). u.call) c.calls)) within)

-- and ids of the calls with one more
pub numbered_push : (c : Contents) (number : ℕ) (new : Call) → HasNumbersAsIds (state_of c).object → number ≡ suc (length c.calls)
    → new.id ≡ number → (i : ℕ) (call : Call) → slice_get (calls_of c.calls ++ new ∷ []) i ≡ Some call → call.id ≡ suc i
numbered_push c number new numbered is id i call e = go (get_pushed (calls_of c.calls) new call i e)
  where
    go : (slice_get (calls_of c.calls) i ≡ Some call) ⊎ ((i ≡ length (calls_of c.calls)) × (new ≡ call)) → call.id ≡ suc i
    go (inl there) = numbered i call there
    go (inr here) =
        sym (ap (λ (d : Call). d.id) here.1) ∙ id ∙ is
        ∙ ap suc (sym (here.0 ∙ length_map (λ (u : Tracked). u.call) c.calls))

pub reading_first : (kind : CallKind) (moves : ℕ) → IsReading kind → ReadBegin ≡ first_stage kind moves
reading_first kind moves (inl is) = ap (λ k. first_stage k moves) (sym is)
reading_first kind moves (inr is) = ap (λ k. first_stage k moves) (sym is.1)

reading_stays : (kind : CallKind) → IsReading kind → is_move kind ≡ false
reading_stays kind (inl is) = ap is_move is
reading_stays kind (inr is) = ap is_move is.1

module _ (c : Contents) (kind : CallKind) (now number : ℕ) (layout : Layout) (kept : IsKept c) (is_reading : IsReading kind)
    (same : layout_at (state_of c).object c.base ≡ layout) (is : number ≡ suc (length c.calls)) (after : c.last < now) where
  pub called_sound : IsSound fragment (state_of (with_reading c kind number layout now)).object now
  called_sound = subst (λ o. IsSound fragment o now) (called_is c kind now number layout kept.based same is) (go is_reading)
    where
      next : ℕ
      next = next_id (state_of c).object

      go : IsReading kind → IsSound fragment (called_object (state_of c).object next kind now) now
      go (inl read) = subst (λ k. IsSound fragment (called_object (state_of c).object next k now) now) (sym read)
          (steps_on c now (Step.CallRead next) after kept (next_is_new c kept))
      go (inr write) =
          subst (λ k. IsSound fragment (called_object (state_of c).object next k now) now) (sym write.1)
          (steps_on c now (Step.CallWrite next write.0) after kept (next_is_new c kept, write.2))

  abbrev new : Tracked
  new = reading kind number c.base layout now

  abbrev later : Object
  later = (state_of (with_reading c kind number layout now)).object

  staged : (i : ℕ) (u : Tracked) → (slice_get c.calls i ≡ Some u) ⊎ ((i ≡ length c.calls) × (new ≡ u)) → u.stage ≡ stage_of later i u.call
  staged i u (inl found) =
      let within = slice_get_within c.calls i u found in
      kept.staged i u found ∙ ap (λ m. stage_after u.call.kind u.call.id (first_stage u.call.kind m) u.call.phases)
      (sym (source_pushed c new i (omega (arith, within))))
  staged i u (inr here) = subst (λ (u : Tracked). u.stage ≡ stage_of later i u.call) here.1
      (ap (λ s. begun_at s c.base) (reading_first kind (source_of later i) is_reading))

  pub called_kept : length c.calls < MOST_CALLS → IsKept (with_reading c kind number layout now)
  called_kept few = record {
    sound = called_sound;
    limits = record {
      positions = kept.limits.positions;
      calls = subst (λ n. n ≤ MOST_CALLS) (sym (length_map (λ (u : Tracked). u.call) (c.calls ++ new ∷ []) ∙ length_push c.calls new))
          (omega (arith, few));
      phases = subst (λ cs. AllByRecursion (λ (call : Call). length call.phases ≤ MOST_PHASES) cs) (sym (calls_pushed c new))
          (all_push (λ (call : Call). length call.phases ≤ MOST_PHASES) (calls_of c.calls) new.call kept.limits.phases (omega arith));
      stored = kept.limits.stored;
    };
    based = kept.based;
    numbered = λ i call e. numbered_push c number new.call kept.numbered is refl i call
        (subst (λ cs. slice_get cs i ≡ Some call) (calls_pushed c new) e);
    staged = λ i u e. staged i u (get_pushed c.calls new u i e);
    moving = kept.moving ∙ sym (ap has_open_move (calls_pushed c new) ∙ any_push is_open_move (calls_of c.calls) new.call
        ∙ ap (λ b. has_open_move (calls_of c.calls) || (b && true)) (reading_stays kind is_reading)
        ∙ or_none (has_open_move (calls_of c.calls)));
    stored = kept.stored;
  }

-- there is a position
pub some_position : (c : Contents) → IsKept c → 0 < length c.positions
some_position c kept =
    let count = kept.sound.shape.positions in
    let same = length_map (λ (p : Position). p.layout) c.positions in
    omega (arith, count, same)

-- why the call is refused
abbrev pub reading_cause : Object → CallKind → (now : ℕ) → Option Refusal
reading_cause object kind now = if_step now (unless (nat_lt (length object.calls) MOST_CALLS) Full
    (mail_cause (called_object object (next_id object) kind now).mail))

-- past the limit of steps
pub reading_past : (object : Object) (kind : CallKind) (now : ℕ) → MOST_STEPS < now → reading_cause object kind now ≡ Some Full
reading_past object kind now past = step_past now _ past

abbrev pub reading_mail : Contents → (number : ℕ) → Layout → List Message
reading_mail c number layout = c.mail ++ requests number 1 Next c.base layout.members 0 empty_piece

pub many_calls : (c : Contents) (kind : CallKind) (now : ℕ) → now ≤ MOST_STEPS → MOST_CALLS ≤ length c.calls
    → reading_cause (state_of c).object kind now ≡ Some Full
many_calls c kind now within many =
    step_within now _ within
    ∙ ap (λ b. unless b Full (mail_cause (called_object (state_of c).object (next_id (state_of c).object) kind now).mail))
    (not_lt (length (calls_of c.calls)) MOST_CALLS (subst (λ n. MOST_CALLS ≤ n) (sym (length_map (λ (u : Tracked). u.call) c.calls)) many))

pub reading_cause_is : (c : Contents) (kind : CallKind) (now number : ℕ) (layout : Layout) → c.base ≡ base_of (state_of c).object
    → layout_at (state_of c).object c.base ≡ layout → number ≡ suc (length c.calls) →
    now ≤ MOST_STEPS → length c.calls < MOST_CALLS → reading_cause (state_of c).object kind now ≡ mail_cause (reading_mail c number layout)
reading_cause_is c kind now number layout based same is within few =
    step_within now _ within
    ∙ ap (λ b. unless b Full (mail_cause (called_object (state_of c).object (next_id (state_of c).object) kind now).mail))
    (is_lt (length (calls_of c.calls)) MOST_CALLS (subst (λ n. n < MOST_CALLS) (sym (length_map (λ (u : Tracked). u.call) c.calls)) few))
    ∙ ap (λ (o : Object). mail_cause o.mail) (called_is c kind now number layout based same is)

pub reading_room : (c : Contents) (number : ℕ) (layout : Layout) (count : ℕ) (b : Bool) → count ≡ length layout.members
    → b ≡ nat_le (length c.mail + count) MOST_MESSAGES →
    nat_le (length (reading_mail c number layout)) MOST_MESSAGES ≡ b
reading_room c number layout count b is room = sum_few c.mail number 1 Next c.base layout.members empty_piece count b is room

-- bytes, by their places
pub bytes_at : (xs : List ℕ) → ((i : ℕ) → get_or xs i 0 < 256) → AreBytes xs
bytes_at [] at = tt
bytes_at (x ∷ xs) at = (at 0, bytes_at xs (λ i. at (suc i)))

-- a value that is short
pub value_of : (value read : List ℕ) (b : Bool) → AreBytes read → b ≡ nat_le (length read) LONGEST_VALUE → b ≡ true → read ≡ value
    → IsValue value
value_of value read b bytes short is same =
    subst IsValue same (bytes, le_of (length read) LONGEST_VALUE (sym short ∙ is))
