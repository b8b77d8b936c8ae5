-- The label of a tag in a bank that serves, or opens.
use Rattle.std.proofs.Common.{◌≡◌, ℕ, ◌⊎◌, Bool, true, false, cond, rules, arith}
use Rattle.std.proofs.Common.{Option, Some, None, option_map, refl, sym, subst, ap, ◌∙◌, inl, inr}
use Rattle.std.proofs.lemmas.Option.{same_Some}
use Rattle.std.specs.FinMap as map
use Rattle.tag.specs.declared.tag.Tag.{Tag}
use Rattle.tag.specs.Tag.{tag_cmp, opening_tag, tag_eq}
use Rattle.tag.proofs.TagOrderLemmas.{tag_eq-true}
use Rattle.piece.specs.declared.piece.Piece.{Piece}
use Rattle.bank.specs.declared.kind.Kind.TheVariants.{PreWrite, Finalize, Fetch}
use Rattle.bank.specs.declared.request.Request.{Request}
use Rattle.bank.specs.declared.request.Request.TheVariants as request
use Rattle.bank.specs.declared.row.Label.{Label}
use Rattle.bank.specs.declared.row.Label.TheVariants.{PreWritten, Finalized}
use Rattle.bank.specs.declared.row.Row.{Row}
use Rattle.bank.specs.Bank.{Bank, finalized_label, row_after_pre_write, row_after_finalize, pre_written, finalized}
use Rattle.bank.specs.Bank.{opening_row, opened_bank}
use Rattle.bank.specs.Serve.{kind_of, served_bank}
use Rattle.bank.specs.Collect.{collected, retired_bank}
use Rattle.bank.specs.Knowledge.{since}
use Rattle.bank.proofs.CollectedBankLemmas.{get-collected}
use Rattle.bank.proofs.RowChangeLemmas.{get-with_row}
use Rattle.record.specs.Records.{no_bank}
use Rattle.soundness.specs.Origins.{label_at, Gives}
use Rattle.soundness.proofs.Sound.OpenedObjectLemmas.{get-opened}

abbrev row_label : Option Row → Option Label
row_label row = option_map (λ (r : Row). r.label) row

-- A bank that serves

-- a finalize labels its own tag, unless that is finalized already
finalized_gives : (bank : Bank) (asked : Tag) (now : ℕ) (tag : Tag) (label : Label) →
    label_at (finalized bank asked now) tag ≡ Some label →
    (label_at bank tag ≡ Some label) ⊎ ((asked ≡ tag) × (label ≡ Finalized now))
finalized_gives bank asked now tag label e =
    at_tag (tag_eq tag asked) refl
    (sym (ap row_label (get-with_row bank.rows asked (λ row. row_after_finalize row now) tag)) ∙ e)
  where
    by_label : (was : Label) → Some (finalized_label was now) ≡ Some label → (Some was ≡ Some label) ⊎ (label ≡ Finalized now)
    by_label (PreWritten since) e = inr (sym (same_Some (Finalized now) label e))
    by_label (Finalized since) e = inl e

    by_row : (row : Option Row) → row_label (Some (row_after_finalize row now)) ≡ Some label →
        (row_label row ≡ Some label) ⊎ (label ≡ Finalized now)
    by_row None e = inr (sym (same_Some (Finalized now) label e))
    by_row (Some row) e = by_label row.label e

    here : asked ≡ tag → (row_label (map.get bank.rows asked) ≡ Some label) ⊎ (label ≡ Finalized now) →
        (label_at bank tag ≡ Some label) ⊎ ((asked ≡ tag) × (label ≡ Finalized now))
    here same (inl old) = inl (subst (λ t. label_at bank t ≡ Some label) same old)
    here same (inr new) = inr (same, new)

    at_tag : (b : Bool) → tag_eq tag asked ≡ b →
        row_label (cond b (Some (row_after_finalize (map.get bank.rows asked) now)) (map.get bank.rows tag)) ≡ Some label →
        (label_at bank tag ≡ Some label) ⊎ ((asked ≡ tag) × (label ≡ Finalized now))
    at_tag true same e = here (sym (tag_eq-true tag asked same)) (by_row (map.get bank.rows asked) e)
    at_tag false other e = inl e

-- a pre-write labels its own tag, where that has no label yet
pre_written_gives : (bank : Bank) (asked : Tag) (piece : Piece) (now : ℕ) (tag : Tag) (label : Label) →
    label_at (pre_written bank asked piece now) tag ≡ Some label →
    (label_at bank tag ≡ Some label) ⊎ ((asked ≡ tag) × (label ≡ PreWritten now))
pre_written_gives bank asked piece now tag label e =
    at_tag (tag_eq tag asked) refl
    (sym (ap row_label (get-with_row bank.rows asked (λ row. row_after_pre_write row piece now) tag)) ∙ e)
  where
    by_row : (row : Option Row) → row_label (Some (row_after_pre_write row piece now)) ≡ Some label →
        (row_label row ≡ Some label) ⊎ (label ≡ PreWritten now)
    by_row None e = inr (sym (same_Some (PreWritten now) label e))
    by_row (Some row) e = inl e

    here : asked ≡ tag → (row_label (map.get bank.rows asked) ≡ Some label) ⊎ (label ≡ PreWritten now) →
        (label_at bank tag ≡ Some label) ⊎ ((asked ≡ tag) × (label ≡ PreWritten now))
    here same (inl old) = inl (subst (λ t. label_at bank t ≡ Some label) same old)
    here same (inr new) = inr (same, new)

    at_tag : (b : Bool) → tag_eq tag asked ≡ b →
        row_label (cond b (Some (row_after_pre_write (map.get bank.rows asked) piece now)) (map.get bank.rows tag)) ≡ Some label →
        (label_at bank tag ≡ Some label) ⊎ ((asked ≡ tag) × (label ≡ PreWritten now))
    at_tag true same e = here (sym (tag_eq-true tag asked same)) (by_row (map.get bank.rows asked) e)
    at_tag false other e = inl e

-- dropping pieces leaves the labels
label-collected : (bank : Bank) (tag : Tag) → label_at (collected bank) tag ≡ label_at bank tag
label-collected bank tag = grind (arith, get-collected, row_label)

pub served_gives : (bank : Bank) (asked : Request) (now : ℕ) (tag : Tag) (label : Label) →
    label_at (served_bank bank asked now) tag ≡ Some label →
    (label_at bank tag ≡ Some label) ⊎ Gives (kind_of asked) tag label now
served_gives bank (request.PreWrite asked piece) now tag label e = go
    (pre_written_gives bank asked piece now tag label (sym (label-collected (pre_written bank asked piece now) tag) ∙ e))
  where
    go : (label_at bank tag ≡ Some label) ⊎ ((asked ≡ tag) × (label ≡ PreWritten now)) →
        (label_at bank tag ≡ Some label) ⊎ Gives (PreWrite asked) tag label now
    go (inl old) = inl old
    go (inr new) = inr (inl (ap PreWrite new.0, new.1))
served_gives bank (request.Finalize asked) now tag label e = go
    (finalized_gives bank asked now tag label (sym (label-collected (finalized bank asked now) tag) ∙ e))
  where
    go : (label_at bank tag ≡ Some label) ⊎ ((asked ≡ tag) × (label ≡ Finalized now)) →
        (label_at bank tag ≡ Some label) ⊎ Gives (Finalize asked) tag label now
    go (inl old) = inl old
    go (inr new) = inr (inr (inl (ap Finalize new.0), new.1))
served_gives bank (request.Fetch asked) now tag label e = go
    (finalized_gives bank asked now tag label (sym (label-collected (finalized bank asked now) tag) ∙ e))
  where
    go : (label_at bank tag ≡ Some label) ⊎ ((asked ≡ tag) × (label ≡ Finalized now)) →
        (label_at bank tag ≡ Some label) ⊎ Gives (Fetch asked) tag label now
    go (inl old) = inl old
    go (inr new) = inr (inr (inr (ap Fetch new.0), new.1))
served_gives bank asked now tag label e = inl e

-- a bank that is retired keeps its labels
pub retired_label : (bank : Bank) (now : ℕ) (tag : Tag) → label_at (retired_bank bank now) tag ≡ label_at bank tag
retired_label bank now tag = search (rules, label-collected)

-- Banks that open

pub opened_label : (member : ℕ) (delta : Option ℕ) (now : ℕ) (tag : Tag) (label : Label) →
    label_at (opened_bank member delta now) tag ≡ Some label →
    (tag ≡ opening_tag) × (label ≡ Finalized now)
opened_label member delta now tag label e = go (tag_eq tag opening_tag) refl (sym (ap row_label (get-opened member delta now tag)) ∙ e)
  where
    go : (b : Bool) → tag_eq tag opening_tag ≡ b → row_label (cond b (Some (opening_row member now)) None) ≡ Some label →
        (tag ≡ opening_tag) × (label ≡ Finalized now)
    go true same e = (tag_eq-true tag opening_tag same, sym (same_Some (Finalized now) label e))
    go false other e = absurd (cc)

pub unknown_label : (tag : Tag) (label : Label) → label_at no_bank tag ≡ Some label → ⊥
unknown_label tag label e = let no : None ≡ Some label = sym (ap row_label (map.get-empty tag_cmp tag)) ∙ e in cc
