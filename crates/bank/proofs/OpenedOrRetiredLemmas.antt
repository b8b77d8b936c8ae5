-- A bank that is just opened, and one that is retired.
use Rattle.std.proofs.Common.{◌≡◌, ℕ, ◌+◌, ◌%◌, ◌^◌, Bool, true, false, cond, ◌&&◌, List, [], ◌∷◌, map, length, Option}
use Rattle.std.proofs.Common.{Some, None, is_some, option_map, sum_by, sym, ap, ◌∙◌, subst, refl, arith}
use Rattle.std.specs.FinMap as map
use Rattle.std.specs.BTreeMap.{is_at}
use Rattle.std.specs.Map.{keys_of}
use Rattle.std.specs.List.Sorted.{IsStrictlySortedBy}
use Rattle.std.proofs.lemmas.List.Sums.{sum_by-cons}
use Rattle.tag.specs.declared.tag.Tag.{Tag}
use Rattle.tag.specs.Tag.{tag_cmp, tag_lt, opening_tag}
use Rattle.tag.proofs.TagOrderLemmas.{opening_least}
use Rattle.bank.specs.declared.row.Label.TheVariants.{Finalized}
use Rattle.bank.specs.declared.row.Row.{Row}
use Rattle.bank.specs.declared.window.Window.{Window}
use Rattle.bank.specs.declared.status.Pointer.{Pointer}
use Rattle.bank.specs.declared.status.Pointer.TheVariants.{Unset}
use Rattle.bank.specs.Bank.{Bank, opened_bank}
use Rattle.bank.specs.Bytes.{entry_bytes, bank_bytes}
use Rattle.bank.specs.Collect.{emptied_row, emptied_entry, kept_row, IsCollected, retired_bank}
use Rattle.bank.specs.Kept.{bank_of, IsKeptBank}
use Rattle.bank.specs.Knowledge.{since, row_finalized, is_finalized, finals_above, is_dropped}
use Rattle.bank.specs.Serve.{greatest_final}
use Rattle.bank.specs.Window.{opened_windows, found_in, IsWindowed}
use Rattle.bank.proofs.EntryCountLemmas.{one_if}
use Rattle.bank.proofs.EntryOrderLemmas.{Rows, is_final, Rise, entries-rise, get-rise, insert-rise}
use Rattle.bank.proofs.BankBytesLemmas.{emptied_bytes, opened_bytes}
use Rattle.bank.proofs.FinalizedAboveLemmas.{is_final_in, above}
use Rattle.bank.proofs.CollectedBankLemmas.{finalized_at-collected, collected_is}
use Rattle.bank.proofs.WindowExclusionLemmas.{final_in, above_in, windowed_same}
use Rattle.bank.proofs.PieceRetentionLemmas.{alone, opened_collected, retired_collected}
use Rattle.bank.proofs.GreatestTagLemmas.{greatest-collected, greatest-opened, opening-opened}

-- Opening

-- the row of the opening tag with these bytes
abbrev first_row : ℕ → ℕ → List ℕ → Row
first_row point now bytes = record {
  label = Finalized now;
  arrival = Some (record { piece = Some (record { point = point; len = 0; bytes = bytes }); step = now });
}

-- a bank that is just opened has one row, of no bytes
module _ (es fs : Rows) (point : ℕ) (delta : Option ℕ) (now : ℕ) (bytes : List ℕ) (none : es ≡ []) (rise : Rise es) (risen : Rise fs)
    (empty : bytes ≡ [])
    (updates : (q : Tag) → found_in fs q ≡ cond (is_at (tag_cmp opening_tag) q) (Some (first_row point now bytes)) (found_in es q)) where
  first : map.from_sorted {R = tag_cmp} es ≡ map.empty
  first = map.empty_of_len (map.from_sorted es)
      (map.len-entries (map.from_sorted {R = tag_cmp} es) ∙ ap length (entries-rise es rise ∙ none))

  same_delta : option_map (λ (w : Window). w.delta) (opened_windows delta) ≡ delta
  same_delta = grind arith

  pub bank_opened : bank_of fs Unset (opened_windows delta) None ≡ opened_bank point delta now
  bank_opened = grind (arith, first, first_row, insert-rise, same_delta)

  final_opened : (t : Tag) → is_final_in fs t ≡ is_final (opened_bank point delta now) t
  final_opened t = sym (final_in fs risen Unset (opened_windows delta) None t) ∙ ap (λ b. is_final b t) bank_opened

  pub kept_opened : IsKeptBank fs Unset (opened_windows delta) None opening_tag 0
  kept_opened = record {
    sorted = risen;
    opening = ap (λ b. is_final b opening_tag) bank_opened ∙ opening-opened point delta now;
    greatest = sym (ap greatest_final bank_opened ∙ greatest-opened point delta now);
    bytes = let none = ap bank_bytes bank_opened ∙ opened_bytes point delta now in
        ap (λ n. n % 2 ^ 64) (sym none);
    collected = subst IsCollected (sym bank_opened) (opened_collected point delta now);
    windowed = pick delta;
  }
    where
      pick : (d : Option ℕ) → IsWindowed fs (opened_windows d)
      pick None = tt
      pick (Some d) = record {
        least = final_opened opening_tag ∙ opening-opened point delta now;
        above =
            sym (sym (above_in fs risen Unset (opened_windows delta) None opening_tag)
            ∙ ap (λ b. finals_above b opening_tag) bank_opened ∙ alone point delta now);
        fits = omega arith;
        full = λ short t final. opening_least t;
      }

-- Retiring

pub since-none : (r : Option ℕ) (now : ℕ) → is_some r ≡ false → since r now ≡ Some now
since-none r now is = grind arith

pub since-some : (r : Option ℕ) (now : ℕ) → is_some r ≡ true → since r now ≡ r
since-some r now is = grind arith

keys-emptied : (es : Rows) → keys_of (map emptied_entry es) ≡ keys_of es
keys-emptied [] = refl
keys-emptied (e ∷ es) = ap (λ ks. e.0 ∷ ks) (keys-emptied es)

found-emptied : (t : Tag) (es : Rows) → found_in (map emptied_entry es) t ≡ option_map emptied_row (found_in es t)
found-emptied t [] = refl
found-emptied t (e ∷ es) = pick (is_at (tag_cmp t) e.0) (found-emptied t es)
  where
    pick : (c : Bool) → found_in (map emptied_entry es) t ≡ option_map emptied_row (found_in es t)
        → cond c (Some (emptied_row e.1)) (found_in (map emptied_entry es) t) ≡ option_map emptied_row (cond c (Some e.1) (found_in es t))
    pick true rest = refl
    pick false rest = rest

bytes-emptied : (es : Rows) → sum_by entry_bytes (map emptied_entry es) ≡ 0
bytes-emptied [] = refl
bytes-emptied (e ∷ es) =
    let rest = bytes-emptied es in
    let here = emptied_bytes e.1.arrival in
    omega (arith, rest, here, sum_by-cons entry_bytes (emptied_entry e) (map emptied_entry es))

module _ (es gs : Rows) (p : Pointer) (w : Option Window) (r : Option ℕ) (g : Tag) (n : ℕ) (kept : IsKeptBank es p w r g n) (now : ℕ)
    (empties : gs ≡ map emptied_entry es) where
  rests : Rise gs
  rests = subst (λ ks. IsStrictlySortedBy tag_cmp ks) (sym (ap keys_of empties ∙ keys-emptied es)) kept.sorted

  abbrev retires : Bank
  retires = bank_of es p w (since r now)

  gone : (t : Tag) → is_dropped retires t ≡ true
  gone t = grind arith

  pub bank_retired : bank_of gs p w (since r now) ≡ retired_bank (bank_of es p w r) now
  bank_retired = collected_is retires (map.from_sorted gs) (λ t.
      get-rise gs rests t ∙ ap (λ xs. found_in xs t) empties ∙ found-emptied t es
      ∙ ap (λ d. option_map (λ r. cond d (emptied_row r) r) (found_in es t)) (sym (gone t))
      ∙ ap (option_map (kept_row retires t)) (sym (get-rise es kept.sorted t)))

  pub none_retired : bank_bytes (bank_of gs p w (since r now)) ≡ 0
  none_retired = ap (sum_by entry_bytes) (entries-rise gs rests ∙ empties) ∙ bytes-emptied es

  same_final : (t : Tag) → is_final (bank_of gs p w (since r now)) t ≡ is_final (bank_of es p w r) t
  same_final t = ap (λ b. is_final b t) bank_retired ∙ ap is_some (finalized_at-collected retires t)

  pub kept_retired : IsKeptBank gs p w (since r now) g 0
  kept_retired = record {
    sorted = rests;
    opening = same_final opening_tag ∙ kept.opening;
    greatest = kept.greatest ∙ sym (ap greatest_final bank_retired ∙ greatest-collected retires kept.opening);
    bytes = ap (λ n. n % 2 ^ 64) (sym none_retired);
    collected = subst IsCollected (sym bank_retired) (retired_collected (bank_of es p w r) now);
    windowed = windowed_same es gs w
        (λ t. ap (λ o. is_some (row_finalized o)) (ap (λ xs. found_in xs t) empties ∙ found-emptied t es) ∙ stays (found_in es t))
        (λ t. ap (λ xs. above t xs) empties ∙ counts t es) kept.windowed;
  }
    where
      stays : (o : Option Row) → is_some (row_finalized (option_map emptied_row o)) ≡ is_some (row_finalized o)
      stays None = refl
      stays (Some r) = refl

      counts : (t : Tag) (es : Rows) → above t (map emptied_entry es) ≡ above t es
      counts t [] = refl
      counts t (e ∷ es) = ap (λ m. one_if (tag_lt t e.0 && is_finalized e.1.label) + m) (counts t es)
