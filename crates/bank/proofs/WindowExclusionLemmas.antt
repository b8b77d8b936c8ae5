-- A bank of entries in order: what it drops by its window, and what a request to finalize makes of that.
use Rattle.std.proofs.Common.{◌≡◌, ℕ, ◌+◌, ◌⊎◌, inl, inr, Bool, true, false, cond, not, ◌&&◌, ◌||◌, Option, Some, None}
use Rattle.std.proofs.Common.{is_some}
use Rattle.std.proofs.Common.{option_map, sym, ap, ◌∙◌, refl, arith}
use Rattle.std.proofs.lemmas.Bool.{and_parts, and_from, not-false, not-true}
use Rattle.tag.specs.declared.tag.Tag.{Tag}
use Rattle.tag.specs.Tag.{tag_lt, tag_eq}
use Rattle.tag.proofs.TagOrderLemmas.{tag_eq-true}
use Rattle.bank.specs.declared.status.Pointer.{Pointer}
use Rattle.bank.specs.declared.window.Window.{Window}
use Rattle.bank.specs.Bank.{finalized}
use Rattle.bank.specs.Kept.{bank_of}
use Rattle.bank.specs.Knowledge.{since, is_finalized, row_finalized, finalized_at, count_above, finals_above, exceeds, is_dropped}
use Rattle.bank.specs.Window.{excludes, is_excluded, admitted, after_final, IsWindowed}
use Rattle.bank.proofs.EntryCountLemmas.{one_if}
use Rattle.bank.proofs.EntryOrderLemmas.{Rows, Rise, entries-rise, get-rise}
use Rattle.bank.proofs.RowChangeLemmas.{finalized_at-finalized, finals-finalized}
use Rattle.bank.proofs.PieceRetentionLemmas.{stays, final_itself}
use Rattle.bank.proofs.FinalizedAboveLemmas.{is_final_in, above}
use Rattle.bank.proofs.WindowLemmas.{excludes_is}
use Rattle.bank.proofs.WindowAdmissionLemmas.{Finalizes, admits}

-- a window excludes what has more final tags above it than delta
pub exceeds_is : (es : Rows) → Rise es → (w : Option Window) (t : Tag) → IsWindowed es w
    → exceeds (option_map (λ (w : Window). w.delta) w) (above t es) ≡ is_excluded w t
exceeds_is es rise w t windowed = grind (arith, excludes_is)

module _ (es : Rows) (rise : Rise es) (p : Pointer) (w : Option Window) (r : Option ℕ) (t : Tag) where
  pub final_in : is_some (finalized_at (bank_of es p w r) t) ≡ is_final_in es t
  final_in = ap (λ o. is_some (row_finalized o)) (get-rise es rise t)

  pub above_in : finals_above (bank_of es p w r) t ≡ above t es
  above_in = ap (count_above is_finalized t) (entries-rise es rise)

  -- what is dropped, by the window
  pub dropped_is : IsWindowed es w → is_dropped (bank_of es p w r) t ≡ (is_some r || (is_excluded w t && is_final_in es t))
  dropped_is windowed = grind (arith, above_in, exceeds_is, final_in, is_final_in)

-- entries with the same final tags have the same window
pub windowed_same : (es fs : Rows) (w : Option Window) → ((t : Tag) → is_final_in fs t ≡ is_final_in es t)
    → ((t : Tag) → above t fs ≡ above t es) → IsWindowed es w → IsWindowed fs w
windowed_same es fs None finals counts windowed = windowed
windowed_same es fs (Some w) finals counts windowed = record {
  least = finals w.least ∙ windowed.least;
  above = windowed.above ∙ sym (counts w.least);
  fits = windowed.fits;
  full = λ short t final. windowed.full short t (sym (finals t) ∙ final);
}

-- the window once a tag is final, and the tag that falls out
pub record IsAfter (es fs : Rows) (w : Option Window) (made : Option Window × Option Tag) : Type 0 where
  pub windowed : IsWindowed fs made.0
  pub delta : option_map (λ (w : Window). w.delta) made.0 ≡ option_map (λ w. w.delta) w
  pub gone : (t : Tag) → made.1 ≡ Some t → (is_excluded made.0 t && is_final_in fs t) ≡ true
  pub only : (t : Tag) → (is_excluded made.0 t && is_final_in fs t) ≡ true
      → (made.1 ≡ Some t) ⊎ ((is_excluded w t && is_final_in es t) ≡ true)

module _ (es fs : Rows) (rise : Rise es) (risen : Rise fs) (p : Pointer) (w : Option Window) (r : Option ℕ) (tag : Tag) (now : ℕ)
    (bank : bank_of fs p w r ≡ finalized (bank_of es p w r) tag now) where
  final_after_request : (t : Tag) → is_final_in fs t ≡ is_some (finalized_at (finalized (bank_of es p w r) tag now) t)
  final_after_request t = sym (final_in fs risen p w r t) ∙ ap (λ b. is_some (finalized_at b t)) bank

  final_by : (t : Tag) → is_final_in fs t
      ≡ is_some (cond (tag_eq t tag) (since (finalized_at (bank_of es p w r) t) now) (finalized_at (bank_of es p w r) t))
  final_by t = final_after_request t ∙ ap is_some (finalized_at-finalized (bank_of es p w r) tag now t)

  count_after : (t : Tag) → above t fs + one_if (tag_lt t tag && is_final_in es tag) ≡ one_if (tag_lt t tag) + above t es
  count_after t =
      let all = finals-finalized (bank_of es p w r) tag now t in
      let new = sym (above_in fs risen p w r t) ∙ ap (λ b. finals_above b t) bank in
      let old = above_in es rise p w r t in
      let known = ap (λ f. one_if (tag_lt t tag && f)) (final_in es rise p w r tag) in
      omega (arith, all, new, old, known)

  -- where it was not final
  finalizes : is_final_in es tag ≡ false → Finalizes es fs tag
  finalizes fresh = record {
    rise = rise;
    risen = risen;
    fresh = fresh;
    new = final_after_request tag ∙ final_itself (bank_of es p w r) tag now;
    stays = λ t final. final_after_request t ∙ stays (bank_of es p w r) tag now t (final_in es rise p w r t ∙ final);
    others = λ t final. which t (tag_eq t tag) refl (sym (final_by t) ∙ final);
    count = λ t. let all = count_after t in
        let none = ap (λ f. one_if (tag_lt t tag && f)) fresh ∙ nought (tag_lt t tag) in
        omega (arith, all, none);
  }
    where
      nought : (c : Bool) → one_if (c && false) ≡ 0
      nought true = refl
      nought false = refl

      which : (t : Tag) (c : Bool) → tag_eq t tag ≡ c
          → is_some (cond c (since (finalized_at (bank_of es p w r) t) now) (finalized_at (bank_of es p w r) t)) ≡ true
          → (t ≡ tag) ⊎ (is_final_in es t ≡ true)
      which t true same final = inl (tag_eq-true t tag same)
      which t false other final = inr (sym (final_in es rise p w r t) ∙ final)

  -- where it was
  finals_same : is_final_in es tag ≡ true → (t : Tag) → is_final_in fs t ≡ is_final_in es t
  finals_same known t = final_by t ∙ pick (tag_eq t tag) refl ∙ final_in es rise p w r t
    where
      there : (o : Option ℕ) → is_some o ≡ true → is_some (since o now) ≡ is_some o
      there None is = absurd (cc)
      there (Some step) is = refl

      pick : (c : Bool) → tag_eq t tag ≡ c
          → is_some (cond c (since (finalized_at (bank_of es p w r) t) now) (finalized_at (bank_of es p w r) t))
          ≡ is_some (finalized_at (bank_of es p w r) t)
      pick true same = there (finalized_at (bank_of es p w r) t)
          (ap (λ t. is_some (finalized_at (bank_of es p w r) t)) (tag_eq-true t tag same) ∙ final_in es rise p w r tag ∙ known)
      pick false other = refl

  counts_same : is_final_in es tag ≡ true → (t : Tag) → above t fs ≡ above t es
  counts_same known t = grind (arith, count_after, one_if)

  -- in each case
  pub after : (anew : Bool) → anew ≡ not (is_final_in es tag) → IsWindowed es w → IsAfter es fs w (after_final w anew fs tag)
  after anew is windowed = cases w anew is windowed
    where
      cases : (v : Option Window) (anew : Bool) → anew ≡ not (is_final_in es tag) → IsWindowed es v
          → IsAfter es fs v (after_final v anew fs tag)
      cases None anew is windowed = record {
        windowed = tt;
        delta = refl;
        gone = λ t e. absurd (cc);
        only = λ t e. absurd (cc);
      }
      cases (Some v) false is windowed = record {
        windowed = let known = not-false (is_final_in es tag) (sym is) in
            windowed_same es fs (Some v) (finals_same known) (counts_same known) windowed;
        delta = refl;
        gone = λ t e. absurd (cc);
        only = λ t e. inr (sym (ap (λ f. excludes v t && f) (finals_same (not-false (is_final_in es tag) (sym is)) t)) ∙ e);
      }
      cases (Some v) true is windowed =
          let a = admits es fs v tag windowed (finalizes (not-true (is_final_in es tag) (sym is))) in
          record {
            windowed = a.window;
            delta = ap (λ d. Some d) a.delta;
            gone = λ t e. let out = a.gone t e in and_from (excludes (admitted v fs tag).0 t) (is_final_in fs t) out.1 out.0;
            only = λ t e. let parts = and_parts (excludes (admitted v fs tag).0 t) (is_final_in fs t) e in
                which t (a.only t parts.1 parts.0);
          }
        where
          which : (t : Tag) → ((admitted v fs tag).1 ≡ Some t) ⊎ ((is_final_in es t ≡ true) × (excludes v t ≡ true))
              → ((admitted v fs tag).1 ≡ Some t) ⊎ ((excludes v t && is_final_in es t) ≡ true)
          which t (inl e) = inl e
          which t (inr e) = inr (and_from (excludes v t) (is_final_in es t) e.1 e.0)
