-- What a fetch answers, by the window.
use Rattle.std.proofs.Common.{◌≡◌, ℕ, Bool, ◌⊎◌, inl, inr, true, false, ◌||◌, cond, Option, None, is_some, option_map, sym, ap, ◌∙◌}
use Rattle.std.proofs.Common.{refl}
use Rattle.std.specs.FinMap as map
use Rattle.std.proofs.lemmas.Bool.{or_from}
use Rattle.tag.specs.declared.tag.Tag.{Tag}
use Rattle.bank.specs.declared.status.Pointer.{Pointer}
use Rattle.bank.specs.declared.window.Window.{Window}
use Rattle.bank.specs.Bank.{Bank, piece_of, piece_of_row}
use Rattle.bank.specs.Collect.{is_outside, fetched_piece}
use Rattle.bank.specs.Kept.{bank_of, IsKeptBank}
use Rattle.bank.specs.Knowledge.{exceeds}
use Rattle.bank.specs.Window.{is_excluded}
use Rattle.bank.proofs.EntryOrderLemmas.{Rows}
use Rattle.bank.proofs.WindowExclusionLemmas.{above_in, exceeds_is}

module _ (es : Rows) (p : Pointer) (w : Option Window) (r : Option ℕ) (t : Tag) {g : Tag} {n : ℕ} (kept : IsKeptBank es p w r g n) where
  outside_is : is_outside (bank_of es p w r) t ≡ (is_some r || is_excluded w t)
  outside_is =
      ap (λ n. is_some r || exceeds (option_map (λ (w : Window). w.delta) w) n) (above_in es kept.sorted p w r t)
      ∙ ap (λ c. is_some r || c) (exceeds_is es kept.sorted w t kept.windowed)

  fetched_by : (c : Bool) → (is_some r || is_excluded w t) ≡ c
      → fetched_piece (bank_of es p w r) t ≡ cond c None (piece_of (bank_of es p w r) t)
  fetched_by c is = ap (λ d. cond d None (piece_of (bank_of es p w r) t)) (outside_is ∙ is)

  -- none where the bank is retired or its window excludes the tag
  pub fetched_outside : (is_some r ≡ true) ⊎ (is_excluded w t ≡ true) → (b : Bank) → bank_of es p w r ≡ b → fetched_piece b t ≡ None
  fetched_outside out b view = sym (ap (λ b. fetched_piece b t) view) ∙ fetched_by true (either (is_some r) (is_excluded w t) out)
    where
      either : (a e : Bool) → (a ≡ true) ⊎ (e ≡ true) → (a || e) ≡ true
      either true e out = refl
      either false e (inl is) = absurd (cc)
      either false e (inr is) = is

  -- otherwise a fetch answers the piece in the row of the tag, if there is one
  pub fetched_row : is_some r ≡ false → is_excluded w t ≡ false → (b : Bank) → bank_of es p w r ≡ b
      → piece_of_row (map.get b.rows t) ≡ fetched_piece b t
  fetched_row here inside b view =
      sym (sym (ap (λ b. fetched_piece b t) view) ∙ fetched_by false (or_from (is_some r) (is_excluded w t) here inside)
      ∙ ap (λ b. piece_of b t) view)
