-- Calling a read, a write or a move makes a sound record.
use Rattle.std.proofs.Common.{◌≡◌, ℕ, zero, suc, pred, ◌+◌, ◌<◌, ◌≤◌, ◌⊎◌, Bool, true, false, cond, List, []}
use Rattle.std.proofs.Common.{◌∷◌, ◌++◌, length, get_or, Some, refl, sym, subst, ap, ◌∙◌, inl, inr, arith, le_refl}
use Rattle.std.proofs.lemmas.List.{length_push, get_or_append_left, get_or_at, get_or_past, set_at}
use Rattle.layout.specs.Layout.{Layout, IsLawful}
use Rattle.bank.specs.Bank.{Bank, opened_bank}
use Rattle.record.specs.declared.call.CallKind.{CallKind}
use Rattle.record.specs.Records.{Call, Object, IsNewId, layout_at, bank_at, no_bank, no_layout, retired_at, base_of}
use Rattle.bank.specs.declared.status.Status.TheVariants.{Pending}
use Rattle.bank.specs.declared.kind.Kind.TheVariants.{Next, Spread}
use Rattle.record.specs.declared.call.CallKind.TheVariants.{Write, Move}
use Rattle.record.specs.PhaseOrder.{begun_at, due}
use Rattle.record.specs.Legal.{is_move, moves_in, first_stage, IsOpenedAt}
use Rattle.record.specs.Fragments.{Code, IsValue, IsCode}
use Rattle.record.specs.Preconditions.{NoOpenMove}
use Rattle.soundness.specs.Sound.{IsSound}
use Rattle.record.specs.Steps.{new_call, opened_banks, called_object, moving_object}
use Rattle.soundness.proofs.BaseLemmas.{leading_same}
use Rattle.soundness.proofs.ListLemmas.{all_push}
use Rattle.soundness.proofs.Sound.DuePositionLemmas.{base_there}
use Rattle.soundness.proofs.Sound.GrowthLemmas.{sizes_same}
use Rattle.soundness.proofs.Sound.ItemLemmas.{Sizes, sizes_of, base_later}
use Rattle.soundness.proofs.Sound.NewCallLemmas.{begun}
use Rattle.soundness.proofs.Sound.NewCallSoundLemmas.{added, Wider, added_sound}
use Rattle.soundness.proofs.Sound.OpenedObjectLemmas.{opened_get, opened_at, opened_there, opened_length, either_sound, either_unretired}

get_or_after : {A : Type 0} (xs : List A) (y d : A) (i : ℕ) → length xs ≤ i →
    (get_or (xs ++ y ∷ []) i d ≡ d) ⊎ (get_or (xs ++ y ∷ []) i d ≡ y)
get_or_after [] y d zero h = inr refl
get_or_after [] y d (suc i) h = inl refl
get_or_after (x ∷ xs) y d zero h = absurd (omega arith)
get_or_after (x ∷ xs) y d (suc i) h = get_or_after xs y d i (omega arith)

moves_added : (calls : List Call) (call : Call) →
    moves_in (calls ++ call ∷ []) ≡ cond (is_move call.kind) (suc (moves_in calls)) (moves_in calls)
moves_added [] call = refl
moves_added (c ∷ calls) call = go (is_move c.kind) (is_move call.kind) (moves_added calls call)
  where
    go : (a b : Bool) → moves_in (calls ++ call ∷ []) ≡ cond b (suc (moves_in calls)) (moves_in calls) →
        cond a (suc (moves_in (calls ++ call ∷ []))) (moves_in (calls ++ call ∷ []))
        ≡ cond b (suc (cond a (suc (moves_in calls)) (moves_in calls))) (cond a (suc (moves_in calls)) (moves_in calls))
    go true true e = ap suc e
    go true false e = ap suc e
    go false true e = e
    go false false e = e

-- a read or a write is called
bank_none : (object : Object) (p i : ℕ) → length object.banks ≤ p → bank_at object p i ≡ no_bank
bank_none object p i h = ap (λ banks. get_or banks i no_bank) (get_or_past object.banks p [] h)

pub called_sound : {fragment : Code} {object : Object} {step now : ℕ} → IsCode fragment → IsSound fragment object step → step < now →
    (id : ℕ) → IsNewId object id → (kind : CallKind) → is_move kind ≡ false →
    ((moves position : ℕ) → due (begun_at (first_stage kind moves) position) ≡ Some (Next, position)) →
    ((value : List ℕ) → kind ≡ Write value → IsValue value) → IsSound fragment (called_object object id kind now) now
called_sound {fragment = fragment} {object = object} {now = now} code sound less id is_new kind no_move first bytes =
    rw (set_at object.calls (new_call id kind now) [] call (length object.calls) refl)
    (added_sound sound less object.layouts object.banks id is_new kind Next base wide
    (sizes_same new.mail new.calls (moves_added object.calls call
    ∙ ap (λ b. cond b (suc (moves_in object.calls)) (moves_in object.calls)) no_move) sizes)
    (first (moves_in object.calls) base) (λ _. sym (base_later sound now less)) (base_there object sound.legal sound.shape) refl bytes
    (λ k. absurd (let clash : false ≡ true = sym no_move ∙ ap is_move k in cc)))
  where
    base : ℕ
    base = base_of object

    call : Call
    call = begun kind id now Next base (layout_at object base)

    new : Object
    new = added object object.layouts object.banks id kind now Next base

    sizes : Sizes object
    sizes = sizes_of sound

    wide : Wider fragment now object new
    wide = record {
      more = le_refl (length object.layouts);
      same_layouts = λ p h. refl;
      same_banks = λ p i h. refl;
      same_retired = λ p. refl;
      further = λ p i h. either_sound code new object.delta now p i (bank_at object p i)
          (inl (bank_none object p i (let b = sizes.banks in omega arith)));
    }

-- a move is called
pub moving_sound : {fragment : Code} {object : Object} {step now : ℕ} → IsCode fragment → IsSound fragment object step → step < now →
    (id : ℕ) → IsNewId object id → (layout : Layout) → IsLawful layout → NoOpenMove object →
    IsSound fragment (moving_object object id layout now) now
moving_sound {fragment = fragment} {object = object} {now = now} code sound less id is_new layout lawful no_open =
    rw (set_at object.calls (new_call id Move now) [] call (length object.calls) refl)
    (added_sound sound less layouts banks id is_new Move (Spread Pending) last wide
    (record {
      lawful = all_push IsLawful object.layouts layout sizes.lawful lawful;
      positions = length_push object.layouts layout ∙ more_positions ∙ ap suc (sym (moves_added object.calls call));
      banks = length_push object.banks fresh ∙ same_count ∙ sym (length_push object.layouts layout);
      members = λ p h. members p h (either p (grown_below p h));
      opened = λ p i h k. opened p i (either p (grown_below p h)) k;
      delta = λ p i h k. deltas p i (either p (grown_below p h)) k;
      retired = λ p i h k. retireds p i (either p (grown_below p h)) k;
      leading = leading_same object new same_retired sizes.leading;
    })
    (ap (λ p. Some (Spread Pending, p)) source) (λ first. absurd (cc)) below refl (λ value e. absurd (cc)) (λ k. no_open))
  where
    last : ℕ
    last = pred (length object.layouts)

    fresh : List Bank
    fresh = opened_banks layout.members 0 object.delta now

    layouts : List Layout
    layouts = object.layouts ++ layout ∷ []

    banks : List (List Bank)
    banks = object.banks ++ fresh ∷ []

    new : Object
    new = added object layouts banks id Move now (Spread Pending) last

    call : Call
    call = begun Move id now (Spread Pending) last (layout_at new last)

    sizes : Sizes object
    sizes = sizes_of sound

    source : moves_in object.calls ≡ last
    source = sym (ap pred sizes.positions)

    below : last < length object.layouts
    below = let s = source in let p = sizes.positions in omega arith

    more_positions : length object.layouts + 1 ≡ suc (suc (moves_in object.calls))
    more_positions = let p = sizes.positions in omega arith

    same_count : length object.banks + 1 ≡ length object.layouts + 1
    same_count = let b = sizes.banks in omega arith

    grown_below : (p : ℕ) → p < length new.layouts → p < length object.layouts + 1
    grown_below p h = let l : length new.layouts ≡ length object.layouts + 1 = length_push object.layouts layout in omega arith

    either : (p : ℕ) → p < length object.layouts + 1 → (p < length object.layouts) ⊎ (p ≡ length object.layouts)
    either p h = grind arith

    old_layout : (p : ℕ) → p < length object.layouts → layout_at new p ≡ layout_at object p
    old_layout p h = get_or_append_left object.layouts (layout ∷ []) no_layout p h

    old_banks : (p : ℕ) → p < length object.layouts → get_or new.banks p [] ≡ get_or object.banks p []
    old_banks p h = get_or_append_left object.banks (fresh ∷ []) [] p (let b = sizes.banks in omega arith)

    new_layout : (p : ℕ) → p ≡ length object.layouts → layout_at new p ≡ layout
    new_layout p e = ap (λ q. layout_at new q) e ∙ get_or_at object.layouts layout [] no_layout (length object.layouts) refl

    new_banks : (p : ℕ) → p ≡ length object.layouts → get_or new.banks p [] ≡ fresh
    new_banks p e = let b : p ≡ length object.banks = (let s = sizes.banks in omega arith) in ap (λ q. get_or new.banks q []) b
        ∙ get_or_at object.banks fresh [] [] (length object.banks) refl

    members : (p : ℕ) → p < length new.layouts → (p < length object.layouts) ⊎ (p ≡ length object.layouts) →
        length (get_or new.banks p []) ≡ length (layout_at new p).members
    members p h (inl old) =
        ap length (old_banks p old) ∙ sizes.members p old ∙ sym (ap (λ (l : Layout). length l.members) (old_layout p old))
    members p h (inr end) = ap length (new_banks p end) ∙ opened_length layout.members 0 object.delta now
        ∙ sym (ap (λ (l : Layout). length l.members) (new_layout p end))

    opened : (p i : ℕ) → (p < length object.layouts) ⊎ (p ≡ length object.layouts) → i < length (layout_at new p).members →
        (step : ℕ) × IsOpenedAt (bank_at new p i) step
    opened p i (inl old) k = subst (λ banks. (step : ℕ) × IsOpenedAt (get_or banks i no_bank) step) (sym (old_banks p old))
        (sizes.opened p i old (subst (λ (l : Layout). i < length l.members) (old_layout p old) k))
    opened p i (inr end) k = subst (λ banks. (step : ℕ) × IsOpenedAt (get_or banks i no_bank) step) (sym (new_banks p end)) (
      now,
      subst (λ bank. IsOpenedAt bank now)
          (sym (opened_there layout.members 0 object.delta now i (subst (λ (l : Layout). i < length l.members) (new_layout p end) k)))
          (opened_at (0 + i) object.delta now),
    )

    deltas : (p i : ℕ) → (p < length object.layouts) ⊎ (p ≡ length object.layouts) → i < length (layout_at new p).members →
        (bank_at new p i).delta ≡ object.delta
    deltas p i (inl old) k = subst (λ banks. (get_or banks i no_bank).delta ≡ object.delta) (sym (old_banks p old))
        (sizes.delta p i old (subst (λ (l : Layout). i < length l.members) (old_layout p old) k))
    deltas p i (inr end) k = subst (λ banks. (get_or banks i no_bank).delta ≡ object.delta) (sym (new_banks p end))
        (ap (λ (bank : Bank). bank.delta)
        (opened_there layout.members 0 object.delta now i (subst (λ (l : Layout). i < length l.members) (new_layout p end) k)))

    further : (p i : ℕ) → (get_or new.banks p [] ≡ []) ⊎ (get_or new.banks p [] ≡ fresh) →
        (bank_at new p i ≡ no_bank) ⊎ (bank_at new p i ≡ opened_bank (0 + i) object.delta now)
    further p i (inl none) = inl (ap (λ banks. get_or banks i no_bank) none)
    further p i (inr here) = go (opened_get layout.members 0 object.delta now i)
      where
        go : (get_or fresh i no_bank ≡ no_bank) ⊎ (get_or fresh i no_bank ≡ opened_bank (0 + i) object.delta now) →
            (bank_at new p i ≡ no_bank) ⊎ (bank_at new p i ≡ opened_bank (0 + i) object.delta now)
        go (inl e) = inl (ap (λ banks. get_or banks i no_bank) here ∙ e)
        go (inr e) = inr (ap (λ banks. get_or banks i no_bank) here ∙ e)

    beyond : (p i : ℕ) → length object.layouts ≤ p → (bank_at new p i ≡ no_bank) ⊎ (bank_at new p i ≡ opened_bank (0 + i) object.delta now)
    beyond p i h = further p i (get_or_after object.banks fresh [] p (let b = sizes.banks in omega arith))

    in_both : (p : ℕ) → (p < length object.layouts) ⊎ (length object.layouts ≤ p) → retired_at new p ≡ retired_at object p
    in_both p (inl old) = ap (λ banks. (get_or banks 0 no_bank).retired) (old_banks p old)
    in_both p (inr past) =
        either_unretired object.delta now 0 (bank_at new p 0) (beyond p 0 past)
        ∙ sym (ap (λ (bank : Bank). bank.retired) (bank_none object p 0 (let b = sizes.banks in omega arith)))

    same_retired : (p : ℕ) → retired_at new p ≡ retired_at object p
    same_retired p = in_both p (within p)
      where
        within : (p : ℕ) → (p < length object.layouts) ⊎ (length object.layouts ≤ p)
        within p = grind arith

    retireds : (p i : ℕ) → (p < length object.layouts) ⊎ (p ≡ length object.layouts) → i < length (layout_at new p).members →
        (bank_at new p i).retired ≡ retired_at new p
    retireds p i (inl old) k = subst (λ banks. (get_or banks i no_bank).retired ≡ (get_or banks 0 no_bank).retired) (sym (old_banks p old))
        (sizes.retired p i old (subst (λ (l : Layout). i < length l.members) (old_layout p old) k))
    retireds p i (inr end) k =
        let past : length object.layouts ≤ p = omega arith in
        either_unretired object.delta now i (bank_at new p i) (beyond p i past)
        ∙ sym (either_unretired object.delta now 0 (bank_at new p 0) (beyond p 0 past))

    wide : Wider fragment now object new
    wide = record {
      more = (let l : length new.layouts ≡ length object.layouts + 1 = length_push object.layouts layout in omega arith);
      same_layouts = old_layout;
      same_banks = λ p i h. ap (λ banks. get_or banks i no_bank) (old_banks p h);
      same_retired = same_retired;
      further = λ p i h. either_sound code new object.delta now p i (bank_at new p i) (beyond p i h);
    }
