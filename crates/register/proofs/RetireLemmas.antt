-- The base is retired.
use Rattle.std.proofs.Common.{◌≡◌, ℕ, suc, ◌+◌, ◌-◌, ◌<◌, ◌≤◌, ◌==◌, nat_lt, ◌&&◌, Bool, true, false}
use Rattle.std.proofs.Common.{List, [], ◌∷◌, length, map, get_or, set, slice_get, Some, None, refl, sym, ap, subst, ◌∙◌}
use Rattle.std.proofs.Common.{arith}
use Rattle.std.proofs.Common.{add-one}
use Rattle.std.proofs.lemmas.Bool.Decides.{nat_tests}
use Rattle.std.proofs.lemmas.List.Sums.{sum_by-cons}
use Rattle.std.proofs.lemmas.Option.{slice_get_read, get_or_from_slice_get}
use Rattle.tag.specs.declared.limits.TheConstants.{MOST_BYTES, MOST_POSITIONS, MOST_STEPS}
use Rattle.tag.specs.declared.refusal.Refusal.TheVariants.{NotNow, Full}
use Rattle.layout.specs.Layout.{Layout}
use Rattle.encoder.specs.Fragment.{fragment}
use Rattle.bank.specs.Bank.{Bank}
use Rattle.bank.specs.Bytes.{bank_bytes}
use Rattle.bank.specs.Collect.{retired_bank}
use Rattle.record.specs.Accounts.{base_bytes}
use Rattle.record.specs.Legal.{moves_in, IsMovedOut}
use Rattle.record.specs.Preconditions.{MayStep}
use Rattle.record.specs.Records.{Object, base_of}
use Rattle.soundness.specs.Sound.{IsSound}
use Rattle.record.specs.Steps.{Step, retired_object}
use Rattle.soundness.proofs.Accounting.RetiredBytesLemmas.{retired_bytes}
use Rattle.soundness.proofs.Sound.RetiredBaseSoundLemmas.{raised}
use Rattle.register.specs.Causes.{unless, if_step}
use Rattle.register.specs.Retiring.{is_moved_out, is_retirable, retire_cause}
use Rattle.register.specs.Kept.{IsKept, has_open_move}
use Rattle.register.specs.Position.{Position, layouts_of, banks_of, banks_bytes, all_bytes}
use Rattle.register.specs.State.{Contents, State, made, object_of, state_of}
use Rattle.std.proofs.lemmas.List.{map-set}
use Rattle.soundness.proofs.Sound.TakenReplyLemmas.{set_same}
use Rattle.register.proofs.ListLemmas.{found_map, length_map, sum_at, sum_put}
use Rattle.register.proofs.StepInvariantLemmas.{base_within, steps_on}
use Rattle.register.proofs.RoomLemmas.{step_past, step_within}
use Rattle.register.proofs.AnsweredMoveLemmas.{out_found, in_turn, opens, out_counted, shifted}

-- whether a position may be retired, by what is kept
module _ (c : Contents) (kept : IsKept c) where
  abbrev object : Object
  object = (state_of c).object

  abbrev left : ℕ → Bool
  left position = is_moved_out object.calls 0 position

  -- behind the base there are so many positions
  pub left_is : (behind : ℕ) → behind + c.base + 1 ≡ length c.positions → left c.base ≡ nat_lt (opens c.is_moving) behind
  left_is behind count =
      let positions = kept.sound.shape.positions in
      let same : length object.layouts ≡ length c.positions = length_map (λ (p : Position). p.layout) c.positions in
      let moves : behind + c.base ≡ moves_in object.calls = omega (arith, positions, same, count) in
      let first : 0 + moves_in object.calls ≡ moves_in object.calls = omega arith in
      out_counted object.calls 0 c.base (in_turn object.calls kept.sound.legal.moves) (omega arith)
      ∙ ap (nat_lt (c.base + opens (has_open_move object.calls))) first
      ∙ shifted c.base (opens (has_open_move object.calls)) behind (moves_in object.calls) moves
      ∙ ap (λ b. nat_lt (opens b) behind) (sym kept.moving)

  pub retirable_is : (position : ℕ) (same : Bool) → (position == base_of object) ≡ same
      → is_retirable object position ≡ (same && left position)
  retirable_is position same test = ap (λ b. b && left position) test

  -- another position than the base
  pub other_refused : (position now : ℕ) → (position ≡ c.base → ⊥) → retire_cause now object position ≡ Some NotNow
  other_refused position now other =
      let based = kept.based in
      let test : (position == base_of object) ≡ false = go (position == base_of object) refl in
      ap (λ b. unless b NotNow (if_step now None)) (retirable_is position false test)
    where
      go : (b : Bool) → (position == base_of object) ≡ b → b ≡ false
      go false e = refl
      go true e = let same : position ≡ base_of object = grind (arith, nat_tests, e) in absurd (other (same ∙ sym kept.based))

  -- the base
  at_base : (b : Bool) → left c.base ≡ b → is_retirable object c.base ≡ b
  at_base b is =
      let test : (c.base == base_of object) ≡ true = let based = kept.based in grind (arith, nat_tests, based) in
      retirable_is c.base true test ∙ is

  pub base_refused : (position now : ℕ) → position ≡ c.base → left c.base ≡ false → retire_cause now object position ≡ Some NotNow
  base_refused position now same is =
      ap (retire_cause now object) same ∙ ap (λ b. unless b NotNow (if_step now None)) (at_base false is)

  pub retire_past : (position now : ℕ) → position ≡ c.base → left c.base ≡ true → MOST_STEPS < now
      → retire_cause now object position ≡ Some Full
  retire_past position now same is past =
      ap (retire_cause now object) same ∙ ap (λ b. unless b NotNow (if_step now None)) (at_base true is) ∙ step_past now None past

  pub retire_free : (position now : ℕ) → position ≡ c.base → left c.base ≡ true → now ≤ MOST_STEPS
      → retire_cause now object position ≡ None
  retire_free position now same is within =
      ap (retire_cause now object) same ∙ ap (λ b. unless b NotNow (if_step now None)) (at_base true is) ∙ step_within now None within

  -- where there is no cause the step may be made
  pub may_retire : (position now : ℕ) → retire_cause now object position ≡ None → MayStep fragment object Step.Retire
  may_retire position now free = go (position == base_of object) (left position) refl refl free
    where
      moved : (n : ℕ) → n ≡ base_of object → left n ≡ true → (answered : ℕ) × IsMovedOut object (base_of object) answered
      moved n same is =
          let out = out_found object.calls 0 n is in
          let source = out.source in (
            out.step,
            record {
              index = out.index;
              call = out.call;
              at = out.at;
              kind = out.kind;
              source = omega (arith, source, same);
              was = out.was;
            },
          )

      go : (same is : Bool) → (position == base_of object) ≡ same → left position ≡ is
          → unless (same && is) NotNow (if_step now None) ≡ None → MayStep fragment object Step.Retire
      go true true test is free =
          let here : position ≡ base_of object = grind (arith, nat_tests, test) in moved position here is
      go _ _ test _ free = absurd (cc)

-- What the register holds afterwards

pub none_stored : (banks : List Bank) (now : ℕ) → banks_bytes (map (λ bank. retired_bank bank now) banks) ≡ 0
none_stored [] now = refl
none_stored (bank ∷ banks) now =
    let rest = none_stored banks now in
    let here = retired_bytes bank now in
    omega (arith, rest, here, sum_by-cons bank_bytes (retired_bank bank now) (map (λ bank. retired_bank bank now) banks))

abbrev parts : Object → List Layout → List (List Bank) → Object
parts object layouts banks = record object { layouts = layouts; banks = banks }

-- the base, as it was read, and what it is once its banks are retired
pub record IsRetiring (c : Contents) (now : ℕ) (p new : Position) : Type 0 where
  pub kept : IsKept c
  pub at : slice_get c.positions c.base ≡ Some p
  pub may : MayStep fragment (state_of c).object Step.Retire
  pub layout : new.layout ≡ p.layout
  pub banks : new.banks ≡ map (λ bank. retired_bank bank now) p.banks

-- the base's banks store a part of what all do
pub base_part : {c : Contents} {p : Position} → IsKept c → p ≡ get_or c.positions c.base p → banks_bytes p.banks ≤ c.stored
base_part {c = c} {p = p} kept read =
    let at = slice_get_read c.positions (length c.positions) c.base p refl (base_within c kept) read in
    let part = sum_at banks_bytes (banks_of c.positions) c.base p.banks
    (found_map (λ (p : Position). p.banks) c.positions c.base p at) in
    omega (arith, part, kept.stored)

-- what was read of a register that refuses nothing
pub retiring : {c : Contents} {p new : Position} (position now : ℕ) → IsKept c → {s : State} → state_of c ≡ s
    → retire_cause now s.object position ≡ None → p ≡ get_or c.positions c.base p → new.layout ≡ p.layout
    → new.banks ≡ map (λ bank. retired_bank bank now) p.banks → IsRetiring c now p new
retiring {c = c} {p = p} position now kept view free read layout banks = record {
  kept = kept;
  at = slice_get_read c.positions (length c.positions) c.base p refl (base_within c kept) read;
  may = may_retire c kept position now (subst (λ (s : State). retire_cause now s.object position ≡ None) (sym view) free);
  layout = layout;
  banks = banks;
}

module _ {c : Contents} {now : ℕ} {p new : Position} (r : IsRetiring c now p new) where
  abbrev was : Object
  was = (state_of c).object

  base_banks : get_or (banks_of c.positions) (base_of was) [] ≡ p.banks
  base_banks =
      ap (λ n. get_or (banks_of c.positions) n []) (sym r.kept.based)
      ∙ get_or_from_slice_get (banks_of c.positions) c.base p.banks [] (found_map (λ (p : Position). p.banks) c.positions c.base p r.at)

  -- what is freed is what the base's banks store
  pub freed_is : {freed : ℕ} → freed ≡ banks_bytes p.banks → freed ≡ base_bytes was
  freed_is is = is ∙ ap banks_bytes (sym base_banks)

  layouts_are : layouts_of (set c.positions c.base new) ≡ layouts_of c.positions
  layouts_are =
      map-set (λ (p : Position). p.layout) c.positions c.base new
      ∙ set_same (layouts_of c.positions) c.base new.layout
      (found_map (λ (p : Position). p.layout) c.positions c.base p r.at ∙ ap Some (sym r.layout))

  banks_are : banks_of (set c.positions c.base new) ≡ (retired_object was now).banks
  banks_are = cc (map-set (λ (p : Position). p.banks) c.positions c.base new, r.banks, base_banks, r.kept.based)

  retiring_is : object_of c.delta (set c.positions c.base new) c.mail c.calls ≡ retired_object was now
  retiring_is = cc (layouts_are, banks_are)

  stored_is : c.stored - banks_bytes p.banks ≡ all_bytes (banks_of (set c.positions c.base new))
  stored_is =
      let there = found_map (λ (p : Position). p.banks) c.positions c.base p r.at in
      let put = sum_put banks_bytes (banks_of c.positions) c.base p.banks new.banks there in
      let part = sum_at banks_bytes (banks_of c.positions) c.base p.banks there in
      let list : all_bytes (banks_of (set c.positions c.base new)) ≡ all_bytes (set (banks_of c.positions) c.base new.banks) =
      ap all_bytes (map-set (λ (p : Position). p.banks) c.positions c.base new) in
      let none : banks_bytes new.banks ≡ 0 = ap banks_bytes r.banks ∙ none_stored p.banks now in
      omega (arith, put, part, list, none, r.kept.stored)

  module _ {freed : ℕ} (is : freed ≡ banks_bytes p.banks) where
    -- what is held then
    abbrev held : Contents
    held = record c { positions = set c.positions c.base new; base = c.base + 1; stored = c.stored - freed; last = now }

    pub retire_step : state_of held ≡ made Step.Retire now (state_of c)
    retire_step = ap (λ o. record { object = o; last = now }) retiring_is

    pub retire_kept : {s : State} → state_of c ≡ s → s.last < now → IsKept held
    retire_kept view later =
        let after : c.last < now = subst (λ (s : State). s.last < now) (sym view) later in
        let stored : c.stored - freed ≡ all_bytes (banks_of (set c.positions c.base new)) = ap (λ n. c.stored - n) is ∙ stored_is in
        record {
          sound = subst (λ o. IsSound fragment o now) (sym retiring_is) (steps_on c now Step.Retire after r.kept r.may);
          limits = record {
            positions = subst (λ ls. length ls ≤ MOST_POSITIONS) (sym layouts_are) r.kept.limits.positions;
            calls = r.kept.limits.calls;
            phases = r.kept.limits.phases;
            stored = subst (λ n. n ≤ MOST_BYTES) stored (let few = r.kept.limits.stored in let total = r.kept.stored in
                omega (arith, few, total));
          };
          based = add-one c.base ∙ ap suc r.kept.based
              ∙ sym (ap base_of retiring_is ∙ raised fragment was c.last now after r.kept.sound);
          numbered = r.kept.numbered;
          staged = r.kept.staged;
          moving = r.kept.moving;
          stored = stored;
        }
