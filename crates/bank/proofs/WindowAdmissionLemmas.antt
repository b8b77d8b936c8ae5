-- A tag that becomes final is let into the window.
use Rattle.std.proofs.Common.{◌≡◌, ℕ, ◌+◌, ◌<◌, ◌≤◌, ◌⊎◌, inl, inr, Bool, true, false, cond, ◌&&◌, Option, Some, None, sym, ap, ◌∙◌}
use Rattle.std.proofs.Common.{subst, refl, arith}
use Rattle.std.specs.Prelude.{◌==◌, nat_lt}
use Rattle.std.proofs.lemmas.Bool.{and_parts, and_from}
use Rattle.std.proofs.lemmas.Bool.Decides.{nat_tests}
use Rattle.std.proofs.lemmas.Option.{same_Some}
use Rattle.tag.specs.declared.tag.Tag.{Tag}
use Rattle.tag.specs.Tag.{tag_lt}
use Rattle.tag.proofs.TagOrderLemmas.{same_tag}
use Rattle.bank.specs.declared.window.Window.{Window}
use Rattle.bank.specs.Window.{final_after, excludes, moved_up, admitted, IsWindow}
use Rattle.bank.proofs.EntryCountLemmas.{one_if}
use Rattle.bank.proofs.EntryOrderLemmas.{Rows, Rise, is_sorted-rise}
use Rattle.bank.proofs.FinalizedAboveLemmas.{lt-same, lt-not, is_final_in, above, above_final, above_least_final}
use Rattle.bank.proofs.WindowLemmas.{after_above, after_final_in, after_count, after_none}

-- a tag becomes final among entries that have the same other final tags
pub record Finalizes (es fs : Rows) (tag : Tag) : Type 0 where
  pub rise : Rise es
  pub risen : Rise fs
  pub fresh : is_final_in es tag ≡ false
  pub new : is_final_in fs tag ≡ true
  pub stays : (t : Tag) → is_final_in es t ≡ true → is_final_in fs t ≡ true
  pub others : (t : Tag) → is_final_in fs t ≡ true → (t ≡ tag) ⊎ (is_final_in es t ≡ true)
  pub count : (t : Tag) → above t fs ≡ one_if (tag_lt t tag) + above t es

clash : false ≡ true → ⊥
clash e = cc

less_is : (m n : ℕ) → nat_lt m n ≡ true → m < n
less_is m n e = grind (arith, nat_tests)

not_less : (m n : ℕ) → nat_lt m n ≡ false → m ≤ n → m ≡ n
not_less m n e fits = grind (arith, nat_tests)

is_equal : (m n : ℕ) → m ≡ n → (m == n) ≡ true
is_equal m n e = grind (arith, nat_tests)

-- what follows for the window and the tag that falls out: a final tag that the new window excludes is that one, or the
-- old window excluded it, and was final
pub record IsAdmitted (es fs : Rows) (w : Window) (made : Window × Option Tag) : Type 0 where
  pub window : IsWindow fs made.0
  pub delta : made.0.delta ≡ w.delta
  pub gone : (t : Tag) → made.1 ≡ Some t → (is_final_in fs t ≡ true) × (excludes made.0 t ≡ true)
  pub only : (t : Tag) → is_final_in fs t ≡ true → excludes made.0 t ≡ true
      → (made.1 ≡ Some t) ⊎ ((is_final_in es t ≡ true) × (excludes w t ≡ true))

module _ (es fs : Rows) (w : Window) (tag : Tag) (is : IsWindow es w) (f : Finalizes es fs tag) where
  -- no final tag is below the least one of a window that is not full
  none_below : w.above < w.delta → (t : Tag) → is_final_in es t ≡ true → tag_lt t w.least ≡ false
  none_below short t final = is.full short t final

  apart : tag_lt tag w.least ≡ false → tag_lt w.least tag ≡ true
  apart above_it = grind arith

  -- a window that is not full, and a tag below its least
  lower : w.above < w.delta → tag_lt tag w.least ≡ true
      → IsAdmitted es fs w (record { delta = w.delta; least = tag; above = w.above + 1 }, None)
  lower short below = record {
    window = record {
      least = f.new;
      above =
          let count = f.count tag in
          let itself = ap (λ c. one_if c) (lt-same tag) in
          let known = is.above in
          let more = above_final tag w.least below es is.least in
          let few = above_least_final tag w.least es f.rise (none_below short) in
          omega (arith, count, itself, known, more, few);
      fits = omega (arith, short);
      full = λ _ t final. first t (f.others t final);
    };
    delta = refl;
    gone = λ t e. absurd (cc);
    only = λ t final out. absurd (clash (sym (first t (f.others t final)) ∙ (and_parts (w.above + 1 == w.delta) (tag_lt t tag) out).1));
  }
    where
      first : (t : Tag) → (t ≡ tag) ⊎ (is_final_in es t ≡ true) → tag_lt t tag ≡ false
      first t (inl same) = ap (λ t. tag_lt t tag) same ∙ lt-same tag
      first t (inr final) = lt-not tag t (least_less tag w.least t below (none_below short t final))
        where
          least_less : (s t u : Tag) → tag_lt s t ≡ true → tag_lt u t ≡ false → tag_lt s u ≡ true
          least_less s t u less least = grind (arith, nat_tests)

  -- a window that is not full, and a tag above its least
  higher : w.above < w.delta → tag_lt tag w.least ≡ false
      → IsAdmitted es fs w (record { delta = w.delta; least = w.least; above = w.above + 1 }, None)
  higher short above_it = grind arith

  -- a full window, and a tag below its least
  outside : w.above ≡ w.delta → tag_lt tag w.least ≡ true → IsAdmitted es fs w (w, Some tag)
  outside is_full below = grind arith

  -- a full window, and a tag above its least: that falls out, and the next finalized one becomes the least
  moved : w.above ≡ w.delta → tag_lt tag w.least ≡ false → (next : Option Tag) → final_after w.least fs ≡ next
      → IsAdmitted es fs w (moved_up w next)
  moved is_full above_it None none =
      absurd (let nought = after_none w.least fs none in
      let count = f.count w.least in
      let one = ap (λ c. one_if c) (apart above_it) in
      omega (arith, nought, count, one))
  moved is_full above_it (Some next) found = record {
    window = record {
      least = next_final;
      above =
          let count = f.count w.least in
          let one = ap (λ c. one_if c) (apart above_it) in
          let fewer = after_count w.least next fs (is_sorted-rise fs f.risen) found in
          let known = is.above in
          omega (arith, count, one, fewer, known);
      fits = is.fits;
      full = λ short t final. absurd (let less = short in omega (arith, less, is_full));
    };
    delta = refl;
    gone = λ t e. (
      subst (λ t. is_final_in fs t ≡ true) (same_Some w.least t e) (f.stays w.least is.least),
      subst (λ t. (w.above == w.delta && tag_lt t next) ≡ true) (same_Some w.least t e)
          (and_from (w.above == w.delta) (tag_lt w.least next) (is_equal w.above w.delta is_full) (after_above w.least next fs found)),
    );
    only = λ t final out. which t final (and_parts (w.above == w.delta) (tag_lt t next) out).1 (tag_lt w.least t) refl
        (tag_lt t w.least) refl;
  }
    where
      next_final : is_final_in fs next ≡ true
      next_final = after_final_in w.least next fs f.risen found

      old : (t : Tag) → tag_lt t w.least ≡ true → (t ≡ tag) ⊎ (is_final_in es t ≡ true) → is_final_in es t ≡ true
      old t below (inl same) = absurd (clash (sym above_it ∙ ap (λ u. tag_lt u w.least) (sym same) ∙ below))
      old t below (inr final) = final

      which : (t : Tag) → is_final_in fs t ≡ true → tag_lt t next ≡ true → (c : Bool) → tag_lt w.least t ≡ c
          → (d : Bool) → tag_lt t w.least ≡ d
          → (Some w.least ≡ Some t) ⊎ ((is_final_in es t ≡ true) × (excludes w t ≡ true))
      which t final less true between d below =
          absurd (let first = above_final w.least t between fs final in
          let second = above_final t next less fs next_final in
          let fewer = after_count w.least next fs (is_sorted-rise fs f.risen) found in
          omega (arith, first, second, fewer))
      which t final less false least true below =
          inr (
            old t below (f.others t final),
            and_from (w.above == w.delta) (tag_lt t w.least) (is_equal w.above w.delta is_full) below,
          )
      which t final less false least false same = inl (ap (λ t. Some t) (same_tag w.least t least same))

  -- in each case
  pub admits : IsAdmitted es fs w (admitted w fs tag)
  admits =
      elim (nat_lt w.above w.delta) as (λ c. nat_lt w.above w.delta ≡ c → IsAdmitted es fs w (
      cond c (record { delta = w.delta; least = cond (tag_lt tag w.least) tag w.least; above = w.above + 1 }, None)
      (cond (tag_lt tag w.least) (w, Some tag) (moved_up w (final_after w.least fs))))) [
        | true ↦ λ short.
            elim (tag_lt tag w.least) as (λ d. tag_lt tag w.least ≡ d
            → IsAdmitted es fs w (record { delta = w.delta; least = cond d tag w.least; above = w.above + 1 }, None)) [
              | true ↦ λ below. lower (less_is w.above w.delta short) below
              | false ↦ λ above_it. higher (less_is w.above w.delta short) above_it
            ] refl
        | false ↦ λ long.
            elim (tag_lt tag w.least) as (λ d. tag_lt tag w.least ≡ d
            → IsAdmitted es fs w (cond d (w, Some tag) (moved_up w (final_after w.least fs)))) [
              | true ↦ λ below. outside (not_less w.above w.delta long is.fits) below
              | false ↦ λ above_it. moved (not_less w.above w.delta long is.fits) above_it (final_after w.least fs) refl
            ] refl
      ] refl
