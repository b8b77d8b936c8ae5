-- What the call of a move makes of a register.
use Rattle.std.proofs.Common.{get_or, ◌≡◌, ℕ, suc, pred, ◌<◌, ◌≤◌, ◌⊎◌, Bool, true, false, ◌&&◌, ◌||◌, not, is_some, List}
use Rattle.std.proofs.Common.{[], ◌∷◌, ◌++◌, length, take, Option, Some, None, IsSome, refl, sym, subst, ap, ◌∙◌, inl, inr, arith}
use Rattle.std.proofs.Common.{slice_get}
use Rattle.std.specs.List.{AllByRecursion}
use Rattle.std.proofs.lemmas.Option.{slice_get_within, get_or_from_slice_get}
use Rattle.tag.specs.declared.limits.TheConstants.{MOST_BYTES, MOST_CALLS, MOST_PHASES, MOST_POSITIONS}
use Rattle.layout.specs.Layout.{Layout, IsLawful}
use Rattle.encoder.specs.Fragment.{fragment}
use Rattle.bank.specs.Bank.{empty_piece}
use Rattle.bank.specs.declared.kind.Kind.TheVariants.{Spread}
use Rattle.bank.specs.declared.status.Status.TheVariants.{Pending}
use Rattle.mail.specs.declared.message.Message.{Message}
use Rattle.soundness.proofs.Sound.NewCallLemmas.{take_all}
use Rattle.soundness.proofs.Sound.NewPhaseSoundLemmas.{get_pushed}
use Rattle.soundness.proofs.ListLemmas.{get_push, all_push}
use Rattle.record.specs.declared.call.CallKind.TheVariants.{Move}
use Rattle.record.specs.declared.stage.Stage.TheVariants.{MoveSpread}
use Rattle.record.specs.PhaseOrder.{stage_after}
use Rattle.record.specs.Legal.{is_move, moves_in, first_stage, source_of, stage_of}
use Rattle.record.specs.Preconditions.{NoOpenMove}
use Rattle.record.specs.Records.{Call, Object, no_layout, retired_first}
use Rattle.soundness.specs.Sound.{IsSound}
use Rattle.record.specs.Steps.{Step, new_call, opened_banks, moving_object}
use Rattle.record.specs.Sending.{requests}
use Rattle.register.specs.Kept.{is_open_move, has_open_move, IsKept}
use Rattle.register.specs.Position.{Position, layouts_of, banks_of, all_bytes}
use Rattle.register.specs.State.{Contents, next_id, state_of}
use Rattle.register.specs.Tracked.{Tracked, calls_of, with_begun}
use Rattle.register.proofs.ListLemmas.{found_map, map_push, set_push, length_map, length_push}
use Rattle.register.proofs.StepInvariantLemmas.{steps_on, next_is_new}
use Rattle.register.proofs.ChangedCallLemmas.{any_push, none_any}
use Rattle.register.proofs.FirstReadingLemmas.{first_push}
use Rattle.register.proofs.OpenedObjectLemmas.{opened_banks_bytes, bytes_push, opened_unretired}
use Rattle.register.proofs.NewReadOrWriteLemmas.{calls_pushed, source_pushed, numbered_push}
use Rattle.register.proofs.LastPositionLemmas.{IsLast, pred_is}

-- a move before its first phase, and with it
abbrev pub fresh_move : (id from now : ℕ) → Tracked
fresh_move id from now = record { call = new_call id Move now; stage = MoveSpread from }

abbrev pub mover : (number from : ℕ) → Layout → (now : ℕ) → Tracked
mover number from source now = with_begun (fresh_move number from now) number (Spread Pending) from source now

abbrev pub next_position : Layout → (delta : Option ℕ) → (now : ℕ) → Position
next_position layout delta now = record { layout = layout; banks = opened_banks layout.members 0 delta now }

abbrev pub moving_mail : Contents → (number from : ℕ) → Layout → List Message
moving_mail c number from source = c.mail ++ requests number 1 (Spread Pending) from source.members 0 empty_piece

-- a register with these parts, where a move is open
abbrev pub moved_parts : Contents → (now : ℕ) → List Position → List Message → List Tracked → Contents
moved_parts c now positions mail calls = record c { positions = positions; mail = mail; calls = calls; is_moving = true; last = now }

-- `source` is the layout of the last position
abbrev pub with_moving : Contents → (number from : ℕ) → (source layout : Layout) → (now : ℕ) → Contents
with_moving c number from source layout now = moved_parts c now (c.positions ++ next_position layout c.delta now ∷ [])
    (moving_mail c number from source) (c.calls ++ mover number from source now ∷ [])

pub with_moving_is : (c : Contents) (number from : ℕ) (source layout : Layout) (now : ℕ) (next : Position) (begun : Tracked)
    (positions : List Position) (mail : List Message)
    (calls : List Tracked) → next ≡ next_position layout c.delta now → begun ≡ mover number from source now →
    positions ≡ c.positions ++ next ∷ [] →
    mail ≡ moving_mail c number from source → calls ≡ c.calls ++ begun ∷ [] →
    moved_parts c now positions mail calls ≡ with_moving c number from source layout now
with_moving_is c number from source layout now next begun positions mail calls is_next is_begun is_positions is_mail is_calls = cc

pub moved_is : (c : Contents) (now number from : ℕ) (source layout : Layout) → IsLast c from source → number ≡ suc (length c.calls) →
    moving_object (state_of c).object (next_id (state_of c).object) layout now
    ≡ (state_of (with_moving c number from source layout now)).object
moved_is c now number from source layout is_last is =
    let first = from_is in
    let second = source_is in
    let count = length_map (λ (u : Tracked). u.call) c.calls in
    let put = set_push (calls_of c.calls) (new_call number Move now) (mover number from source now).call in
    let pushed = map_push (λ (u : Tracked). u.call) c.calls (mover number from source now) in
    let layouts = map_push (λ (p : Position). p.layout) c.positions (next_position layout c.delta now) in
    let banks = map_push (λ (p : Position). p.banks) c.positions (next_position layout c.delta now) in
    cc
  where
    from_is : pred (length (layouts_of c.positions)) ≡ from
    from_is = pred_is (length (layouts_of c.positions)) from (is_last.last ∙ sym (length_map (λ (p : Position). p.layout) c.positions))

    source_is : get_or (layouts_of c.positions ++ layout ∷ []) from no_layout ≡ source
    source_is =
        get_or_from_slice_get (layouts_of c.positions ++ layout ∷ []) from is_last.position.layout no_layout
        (get_push (layouts_of c.positions) layout is_last.position.layout from
        (found_map (λ (p : Position). p.layout) c.positions from is_last.position is_last.at)) ∙ sym is_last.same

-- where no move is open
pub none_open : (object : Object) → has_open_move object.calls ≡ false → NoOpenMove object
none_open object none index call at kind = go call.answered refl
  where
    closed : is_open_move call ≡ false
    closed = none_any is_open_move object.calls index call none at

    go : (o : Option ℕ) → call.answered ≡ o → IsSome call.answered
    go None e =
        let is_open = ap (λ k. is_move k && not (is_some call.answered)) kind ∙ ap (λ (o : Option ℕ). not (is_some o)) e in
        absurd (let clash : true ≡ false = sym is_open ∙ closed in cc)
    go (Some step) e = ap (λ (o : Option ℕ). is_some o) e

no_open : (c : Contents) → IsKept c → c.is_moving ≡ false → NoOpenMove (state_of c).object
no_open c kept none = none_open (state_of c).object (sym kept.moving ∙ none)

module _ (c : Contents) (now number from : ℕ) (source layout : Layout) (kept : IsKept c) (is_last : IsLast c from source)
    (is : number ≡ suc (length c.calls))
    (after : c.last < now) (lawful : IsLawful layout) (none : c.is_moving ≡ false) where
  pub moved_sound : IsSound fragment (state_of (with_moving c number from source layout now)).object now
  moved_sound =
      subst (λ o. IsSound fragment o now) (moved_is c now number from source layout is_last is)
      (steps_on c now (Step.CallMove (next_id (state_of c).object) layout) after kept
      (next_is_new c kept, lawful, no_open c kept none))

  abbrev new : Tracked
  new = mover number from source now

  abbrev later : Object
  later = (state_of (with_moving c number from source layout now)).object

  count : length (calls_of c.calls) ≡ length c.calls
  count = length_map (λ (u : Tracked). u.call) c.calls

  from_moves : (i : ℕ) → i ≡ length c.calls → from ≡ source_of later i
  from_moves i e =
      let moves = kept.sound.shape.positions in
      let layouts = length_map (λ (p : Position). p.layout) c.positions in
      let last = is_last.last in
      let all = take_all (calls_of c.calls) in
      let here : from ≡ moves_in (calls_of c.calls) = omega (arith, moves, layouts, last) in
      here ∙ sym all ∙ ap (λ n. moves_in (take n (calls_of c.calls))) (count ∙ sym e) ∙ sym (source_pushed c new i (omega (arith, e)))

  staged : (i : ℕ) (u : Tracked) → (slice_get c.calls i ≡ Some u) ⊎ ((i ≡ length c.calls) × (new ≡ u)) → u.stage ≡ stage_of later i u.call
  staged i u (inl found) =
      let within = slice_get_within c.calls i u found in
      kept.staged i u found ∙ ap (λ m. stage_after u.call.kind u.call.id (first_stage u.call.kind m) u.call.phases)
      (sym (source_pushed c new i (omega (arith, within))))
  staged i u (inr here) = subst (λ (u : Tracked). u.stage ≡ stage_of later i u.call) here.1
      (ap MoveSpread (from_moves i here.0))

  stored_same : all_bytes later.banks ≡ all_bytes (state_of c).object.banks
  stored_same =
      ap all_bytes (map_push (λ (p : Position). p.banks) c.positions (next_position layout c.delta now))
      ∙ bytes_push (banks_of c.positions) (opened_banks layout.members 0 c.delta now) (opened_banks_bytes layout.members 0 c.delta now)

  pub moved_kept : length c.positions < MOST_POSITIONS → length c.calls < MOST_CALLS → IsKept (with_moving c number from source layout now)
  moved_kept few_positions few = record {
    sound = moved_sound;
    limits = record {
      positions = subst (λ n. n ≤ MOST_POSITIONS)
          (sym (length_map (λ (p : Position). p.layout) (c.positions ++ next_position layout c.delta now ∷ [])
          ∙ length_push c.positions (next_position layout c.delta now))) (omega (arith, few_positions));
      calls = subst (λ n. n ≤ MOST_CALLS) (sym (length_map (λ (u : Tracked). u.call) (c.calls ++ new ∷ []) ∙ length_push c.calls new))
          (omega (arith, few));
      phases = subst (λ cs. AllByRecursion (λ (call : Call). length call.phases ≤ MOST_PHASES) cs) (sym (calls_pushed c new))
          (all_push (λ (call : Call). length call.phases ≤ MOST_PHASES) (calls_of c.calls) new.call kept.limits.phases (omega arith));
      stored = subst (λ n. n ≤ MOST_BYTES) (sym stored_same) kept.limits.stored;
    };
    based = kept.based ∙ sym (ap retired_first (map_push (λ (p : Position). p.banks) c.positions (next_position layout c.delta now))
        ∙ first_push (banks_of c.positions) (opened_banks layout.members 0 c.delta now)
        (opened_unretired layout.members 0 c.delta now));
    numbered = λ i call e. numbered_push c number new.call kept.numbered is refl i call
        (subst (λ cs. slice_get cs i ≡ Some call) (calls_pushed c new) e);
    staged = λ i u e. staged i u (get_pushed c.calls new u i e);
    moving = sym (ap has_open_move (calls_pushed c new) ∙ any_push is_open_move (calls_of c.calls) new.call
        ∙ or_true (has_open_move (calls_of c.calls)));
    stored = kept.stored ∙ sym stored_same;
  }
    where
      or_true : (b : Bool) → (b || true) ≡ true
      or_true true = refl
      or_true false = refl
