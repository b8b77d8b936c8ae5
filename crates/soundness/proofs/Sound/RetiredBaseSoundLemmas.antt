-- Retiring the base keeps a record sound.
use Rattle.std.proofs.Common.{◌≡◌, ℕ, suc, ◌<◌, ◌≤◌, ◌⊎◌, List, [], length, map, get_or, slice_set}
use Rattle.std.proofs.Common.{Some, None, refl, ◌∙◌, inl, inr, arith, le_refl}
use Rattle.std.proofs.lemmas.List.{length-set, length-map, get_or-map, get_or-set_same}
use Rattle.std.proofs.lemmas.Bool.{cases_eq}
use Rattle.bank.specs.Bank.{Bank}
use Rattle.bank.specs.Collect.{retired_bank}
use Rattle.bank.proofs.MonotoneLemmas.{Grows as BankGrows, retired_grows}
use Rattle.bank.proofs.PieceRetentionLemmas.{retired_collected}
use Rattle.record.specs.Records.{Object, layout_at, bank_at, retired_at, base_of}
use Rattle.record.specs.Legal.{IsMovedOut}
use Rattle.record.specs.Fragments.{Code}
use Rattle.record.specs.Steps.{retired_object}
use Rattle.soundness.specs.Sound.{IsSound}
use Rattle.soundness.proofs.Quorums.QuorumMeetingLemmas.{lawful_at}
use Rattle.soundness.proofs.BaseLemmas.{base_raised}
use Rattle.soundness.proofs.Sound.DuePositionLemmas.{base_there}
use Rattle.soundness.proofs.Sound.GrowthLemmas.{Grows, bank_stays, opened_stays, banks_grow, moved_grows}
use Rattle.soundness.proofs.Sound.GrownItemLemmas.{before_later}
use Rattle.soundness.proofs.Sound.GrownItemLemmas.{bank_grows, mail_grows, grown_sound}
use Rattle.soundness.proofs.Sound.ItemLemmas.{BankSound, Sizes, sizes_of, turns_of, call_of, bank_of}
use Rattle.soundness.proofs.Sound.KnownSinceLemmas.{get_or_set}
use Rattle.soundness.proofs.Sound.RetiredBankLemmas.{Cases, retired_cases, retired_caused}
use Rattle.soundness.proofs.Sound.ServedBankLemmas.{retired_past, retired_coded}

module _ (fragment : Code) (object : Object) (step now : ℕ) (less : step < now) (sound : IsSound fragment object step) where
  abbrev pub fresh : Object
  fresh = retired_object object now

  abbrev pub base : ℕ
  base = base_of object

  sizes : Sizes object
  sizes = sizes_of sound

  below : base < length object.layouts
  below = base_there object sound.legal sound.shape

  banks_below : base < length object.banks
  banks_below = let b = sizes.banks in let h = below in omega arith

  abbrev pub changed : List Bank
  changed = map (λ bank. retired_bank bank now) (get_or object.banks base [])

  changed_here : get_or fresh.banks base [] ≡ changed
  changed_here = get_or-set_same object.banks base changed [] banks_below

  -- the banks of the base are retired
  here : (i : ℕ) → i < length (layout_at object base).members → bank_at fresh base i ≡ retired_bank (bank_at object base i) now
  here i h = grind (arith, base, below, changed_here, get_or-map, sizes)

  unretired : (i : ℕ) → i < length (layout_at object base).members → (bank_at object base i).retired ≡ None
  unretired i h = sizes.retired base i below h ∙ sizes.leading base (le_refl base)

  retired_now : (i : ℕ) → i < length (layout_at object base).members → (bank_at fresh base i).retired ≡ Some now
  retired_now i h = grind (arith, here, unretired)

  some_member : 0 < length (layout_at object base).members
  some_member = grind (arith, base, below, lawful_at)

  pub raised : base_of fresh ≡ suc base
  raised = grind (arith, banks_below, base, base_raised, changed, changed_here, retired_now, sizes, some_member)

  -- those of other positions stay
  apart : (p i : ℕ) → (p ≡ base → ⊥) → bank_at fresh p i ≡ bank_at object p i
  apart p i other = grind (arith, fresh, retired_cases)

  retireds : (p i : ℕ) → p < length object.layouts → i < length (layout_at object p).members →
      (bank_at fresh p i).retired ≡ retired_at fresh p
  retireds p i h k = grind (arith, apart, base, cases_eq, fresh, retired_now, sizes, some_member)

  leading : (p : ℕ) → base_of fresh ≤ p → retired_at fresh p ≡ None
  leading p h = grind (arith, apart, raised, sizes)

  grew : (p i : ℕ) → BankGrows now (bank_at object p i) (bank_at fresh p i)
  grew p i = grind (arith, bank_stays, fresh, retired_cases, retired_grows)

  grows : Grows now object fresh
  grows = banks_grow now object object.mail (slice_set object.banks base changed) grew

  members : (p : ℕ) → p < length object.layouts → length (get_or fresh.banks p []) ≡ length (layout_at object p).members
  members p h = grind (arith, base, changed, fresh, get_or_set, length-map, sizes)

  -- each bank of the base is sound, where the move out of it was answered
  banks : (answered : ℕ) → IsMovedOut object base answered → answered < now → (p i : ℕ) → Cases object now p i →
      ((bank_at fresh p i ≡ bank_at object p i) × (layout_at fresh p ≡ layout_at object p))
      ⊎ BankSound fragment fresh now p i (bank_at fresh p i)
  banks answered moved early p i (inl same) = inl (same, refl)
  banks answered moved early p i (inr at_base) =
      let was = bank_grows sound less grows p i refl in
      inr (rw at_base.1 (record {
        caused = rw at_base.0 (retired_caused fresh base answered now (bank_at object base i) (moved_grows grows base answered moved) early
            (rw at_base.0 at was.caused));
        past = retired_past (bank_at object p i) now (before_later less (bank_of sound p i).past);
        coded = retired_coded fragment fresh p i (bank_at object p i) now was.coded;
        next = record { pending = was.next.pending; final = was.next.final };
        collected = retired_collected (bank_at object p i) now;
      }))

  -- The base is retired
  pub retired_base_sound : (answered : ℕ) → IsMovedOut object base answered → IsSound fragment fresh now
  retired_base_sound answered moved =
      let past = (call_of sound moved.index moved.call moved.at).answered answered moved.was in
      grown_sound sound less grows (record {
        lawful = sizes.lawful;
        positions = sizes.positions;
        banks = length-set object.banks base changed ∙ sizes.banks;
        members = members;
        opened = λ p i h k. let o = sizes.opened p i h k in (o.0, opened_stays (grew p i) o.0 o.1);
        delta = λ p i h k. (grew p i).delta ∙ sizes.delta p i h k;
        retired = retireds;
        leading = leading;
      }) (turns_of sound) (λ i c e. inl e) (λ p i. banks answered moved (omega arith) p i (retired_cases object now p i))
      (mail_grows sound less grows)

pub retired_sound : {fragment : Code} {object : Object} {step now : ℕ} → IsSound fragment object step → step < now → (answered : ℕ) →
    IsMovedOut object (base_of object) answered → IsSound fragment (retired_object object now) now
retired_sound {fragment = fragment} {object = object} {step = step} {now = now} sound less answered moved =
    retired_base_sound fragment object step now less sound answered moved
