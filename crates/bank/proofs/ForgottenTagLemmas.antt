-- Whether a bank may forget a tag, by its window.
use Rattle.std.proofs.Common.{◌≡◌, ℕ, Bool, not, ◌&&◌, Option, option_map, sym, ap, ◌∙◌}
use Rattle.tag.specs.declared.tag.Tag.{Tag}
use Rattle.tag.specs.Tag.{opening_tag, tag_eq}
use Rattle.bank.specs.declared.status.Pointer.{Pointer}
use Rattle.bank.specs.declared.window.Window.{Window}
use Rattle.bank.specs.Bank.{Bank}
use Rattle.bank.specs.Floor.{is_forgotten}
use Rattle.bank.specs.Kept.{bank_of, IsKeptBank}
use Rattle.bank.specs.Knowledge.{exceeds}
use Rattle.bank.specs.Window.{is_excluded}
use Rattle.bank.proofs.EntryOrderLemmas.{Rows}
use Rattle.bank.proofs.WindowExclusionLemmas.{above_in, exceeds_is}

-- a bank of entries in order may forget a tag that is not the opening tag if its window excludes the tag
module _ (es : Rows) (p : Pointer) (w : Option Window) (r : Option ℕ) {g : Tag} {n : ℕ} (kept : IsKeptBank es p w r g n) (t : Tag) where
  pub forgotten_is : is_forgotten (bank_of es p w r) t ≡ (not (tag_eq t opening_tag) && is_excluded w t)
  forgotten_is =
      ap (λ n. not (tag_eq t opening_tag) && exceeds (option_map (λ (w : Window). w.delta) w) n) (above_in es kept.sorted p w r t)
      ∙ ap (λ c. not (tag_eq t opening_tag) && c) (exceeds_is es kept.sorted w t kept.windowed)

  -- whether it is another tag than the opening one, and the window excludes it
  pub forgotten_by : (is excluded result : Bool) → is ≡ tag_eq t opening_tag → excluded ≡ is_excluded w t
      → result ≡ (not is && excluded) → (b : Bank) → bank_of es p w r ≡ b → result ≡ is_forgotten b t
  forgotten_by is excluded result same by made b view =
      made ∙ ap (λ c. not c && excluded) same ∙ ap (λ c. not (tag_eq t opening_tag) && c) by
      ∙ sym forgotten_is ∙ ap (λ b. is_forgotten b t) view
