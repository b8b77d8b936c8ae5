-- A bank of entries in order forgets what is below the least tag of its window, once the window is full.
use Rattle.std.proofs.Common.{◌≡◌, ℕ, ◌+◌, ◌-◌, ◌%◌, ◌^◌, ◌<◌, ◌≤◌, min, Bool, true, false, cond, not, ◌&&◌, ◌==◌, Option, Some, None}
use Rattle.std.proofs.Common.{IsSome}
use Rattle.std.proofs.Common.{is_some, option_map, sum_by, sym, ap, ◌∙◌, subst, refl, arith}
use Rattle.std.specs.FinMap as map
use Rattle.std.proofs.lemmas.Option.{same_Some}
use Rattle.tag.specs.declared.tag.Tag.{Tag}
use Rattle.tag.specs.Tag.{tag_eq, tag_lt, opening_tag}
use Rattle.bank.specs.declared.status.Pointer.{Pointer}
use Rattle.bank.specs.declared.window.Window.{Window}
use Rattle.bank.specs.Bank.{Bank}
use Rattle.bank.specs.Bytes.{entry_bytes, bank_bytes}
use Rattle.bank.specs.Collect.{IsCollected}
use Rattle.bank.specs.Floor.{is_forgotten, remembered, floor_of, is_under}
use Rattle.bank.specs.Kept.{bank_of, IsKeptBank}
use Rattle.bank.specs.Knowledge.{finalized_at, exceeds, finals_above}
use Rattle.bank.specs.Serve.{greatest_final}
use Rattle.bank.specs.Window.{found_in, is_excluded, IsWindowed}
use Rattle.bank.proofs.EntryOrderLemmas.{Rows, Rise, is_final_row, entries-rise, get-rise}
use Rattle.bank.proofs.FinalizedAboveLemmas.{lt-same, is_final_in, above}
use Rattle.bank.proofs.ForgottenCountLemmas.{finals-remembered, remembered_is}
use Rattle.bank.proofs.RememberedBankLemmas.{all_remembered, opening-remembered, collected_left, bytes-remembered}
use Rattle.bank.proofs.RememberedReplyLemmas.{greatest-remembered}
use Rattle.bank.proofs.WindowExclusionLemmas.{above_in, exceeds_is}

-- a full window excludes what is below its least tag
floor_excludes : (w : Option Window) (floor t : Tag) → floor_of w ≡ Some floor → is_excluded w t ≡ tag_lt t floor
floor_excludes None floor t is = absurd (cc)
floor_excludes (Some w) floor t is = pick (w.above == w.delta) is
  where
    pick : (c : Bool) → cond c (Some w.least) None ≡ Some floor → (c && tag_lt t w.least) ≡ tag_lt t floor
    pick true is = ap (tag_lt t) (same_Some w.least floor is)
    pick false is = absurd (cc)

-- and without a floor none is excluded
none_excluded : (w : Option Window) (t : Tag) → floor_of w ≡ None → is_excluded w t ≡ false
none_excluded None t is = refl
none_excluded (Some w) t is = pick (w.above == w.delta) is
  where
    pick : (c : Bool) → cond c (Some w.least) None ≡ None → (c && tag_lt t w.least) ≡ false
    pick true is = absurd (cc)
    pick false is = refl

module _ (es : Rows) (rise : Rise es) (p : Pointer) (w : Option Window) (r : Option ℕ) (windowed : IsWindowed es w) where
  -- what is forgotten, by the window
  forgotten_is : (t : Tag) → is_forgotten (bank_of es p w r) t ≡ (not (tag_eq t opening_tag) && is_excluded w t)
  forgotten_is t =
      ap (λ n. not (tag_eq t opening_tag) && exceeds (option_map (λ (w : Window). w.delta) w) n) (above_in es rise p w r t)
      ∙ ap (λ c. not (tag_eq t opening_tag) && c) (exceeds_is es rise w t windowed)

  -- without a floor the bank forgets nothing
  pub bank_without_floor : floor_of w ≡ None → bank_of es p w r ≡ remembered (bank_of es p w r)
  bank_without_floor is = all_remembered (bank_of es p w r) (λ t. forgotten_is t
      ∙ ap (λ c. not (tag_eq t opening_tag) && c) (none_excluded w t is) ∙ none (not (tag_eq t opening_tag)))
    where
      none : (c : Bool) → (c && false) ≡ false
      none c = grind arith

module _ (es fs : Rows) (p : Pointer) (w : Option Window) (r : Option ℕ) (g : Tag) (n : ℕ) (kept : IsKeptBank es p w r g n)
    (risen : Rise fs) (floor : Tag) (full : floor_of w ≡ Some floor)
    (drops : (q : Tag) → found_in fs q ≡ cond (is_under floor q) None (found_in es q)) where
  -- the bank of the entries that are not below the floor
  pub bank_forgets : bank_of fs p w r ≡ remembered (bank_of es p w r)
  bank_forgets = remembered_is (bank_of es p w r) (map.from_sorted fs) (λ t.
      get-rise fs risen t ∙ drops t
      ∙ ap (λ f. cond f None (found_in es t)) (sym (forgotten_is es kept.sorted p w r kept.windowed t
      ∙ ap (λ c. not (tag_eq t opening_tag) && c) (floor_excludes w floor t full)))
      ∙ ap (cond (is_forgotten (bank_of es p w r) t) None) (sym (get-rise es kept.sorted t)))

  -- has no more bytes
  pub fewer_bytes : bank_bytes (bank_of fs p w r) ≤ bank_bytes (bank_of es p w r)
  fewer_bytes = let same = ap bank_bytes bank_forgets in omega (arith, same, bytes-remembered (bank_of es p w r))

  -- the least tag of the window is still finalized
  still_final : (v : Window) → w ≡ Some v → is_final_in fs v.least ≡ is_final_in es v.least
  still_final v is =
      ap is_final_row (drops v.least
      ∙ ap (λ f. cond f None (found_in es v.least)) (ap (λ c. not (tag_eq v.least opening_tag) && c)
      (sym (floor_excludes w floor v.least full) ∙ ap (λ w. is_excluded w v.least) is ∙ not_below (v.above == v.delta))
      ∙ none (not (tag_eq v.least opening_tag))))
    where
      not_below : (c : Bool) → (c && tag_lt v.least v.least) ≡ false
      not_below true = lt-same v.least
      not_below false = refl

      none : (c : Bool) → (c && false) ≡ false
      none c = grind arith

  -- up to delta + 1, as many finalized tags are above each tag
  count_left : (v : Window) → w ≡ Some v → (t : Tag) → above t fs ≡ min (v.delta + 1) (above t es)
  count_left v is t =
      sym (above_in fs risen p w r t) ∙ ap (λ b. finals_above b t) bank_forgets
      ∙ finals-remembered (bank_of es p w r) v.delta (ap (option_map (λ (w : Window). w.delta)) is) t
      ∙ ap (min (v.delta + 1)) (above_in es kept.sorted p w r t)

  -- what is finalized then was finalized
  final_left : (t : Tag) → is_final_in fs t ≡ true → is_final_in es t ≡ true
  final_left t final = pick (is_under floor t) (sym (ap is_final_row (drops t)) ∙ final)
    where
      pick : (f : Bool) → is_final_row (cond f None (found_in es t)) ≡ true → is_final_in es t ≡ true
      pick true final = absurd (cc)
      pick false final = final

  -- so the window is the same
  windowed_left : IsWindowed fs w
  windowed_left = cases w refl kept.windowed
    where
      fits : (d a n : ℕ) → a ≡ n → a ≤ d → a ≡ min (d + 1) n
      fits d a n is few = omega (arith, is, few)

      cases : (o : Option Window) → w ≡ o → IsWindowed es o → IsWindowed fs o
      cases None is windowed = tt
      cases (Some v) is windowed = record {
        least = still_final v is ∙ windowed.least;
        above = fits v.delta v.above (above v.least es) windowed.above windowed.fits ∙ sym (count_left v is v.least);
        fits = windowed.fits;
        full = λ short t final. windowed.full short t (final_left t final);
      }

  -- and what is left is kept as in any bank
  pub kept_forgets : (freed total : ℕ) → (sum_by entry_bytes fs + freed) % 2 ^ 64 ≡ sum_by entry_bytes es % 2 ^ 64 → freed < 2 ^ 64
      → total ≡ (n + (2 ^ 64 - freed)) % 2 ^ 64 → IsKeptBank fs p w r g total
  kept_forgets freed total off fits falls_by = record {
    sorted = risen;
    opening = subst (λ (b : Bank). IsSome (finalized_at b opening_tag)) (sym bank_forgets)
        (ap is_some (opening-remembered (bank_of es p w r)) ∙ kept.opening);
    greatest = kept.greatest ∙ sym (ap greatest_final bank_forgets ∙ greatest-remembered (bank_of es p w r));
    bytes =
        let old = ap (sum_by entry_bytes) (entries-rise es kept.sorted) in
        let new = ap (sum_by entry_bytes) (entries-rise fs risen) in
        fell n (bank_bytes (bank_of es p w r)) (bank_bytes (bank_of fs p w r)) freed total kept.bytes fits falls_by
        (ap (λ m. (m + freed) % 2 ^ 64) new ∙ off ∙ sym (ap (λ m. m % 2 ^ 64) old));
    collected = subst IsCollected (sym bank_forgets) (collected_left (bank_of es p w r) kept.collected);
    windowed = windowed_left;
  }
    where
      fell : (n old new freed total : ℕ) → n ≡ old % 2 ^ 64 → freed < 2 ^ 64 → total ≡ (n + (2 ^ 64 - freed)) % 2 ^ 64
          → (new + freed) % 2 ^ 64 ≡ old % 2 ^ 64 → total ≡ new % 2 ^ 64
      fell n old new freed total is fits falls_by off = omega (arith, is, fits, falls_by, off)
