-- Among the entries after a request, the piece of one tag is dropped: what is left is what the rule keeps.
use Rattle.std.proofs.Common.{◌≡◌, ℕ, ◌+◌, ◌⊎◌, inl, inr, Bool, true, false, cond, Option, Some, None, option_map, sum_by, sym, ap, ◌∙◌}
use Rattle.std.proofs.Common.{refl, arith}
use Rattle.std.specs.FinMap as map
use Rattle.std.specs.BTreeMap.{is_at}
use Rattle.tag.specs.declared.tag.Tag.{Tag}
use Rattle.tag.specs.Tag.{tag_cmp}
use Rattle.tag.proofs.TagOrderLemmas.{tag_cmp_total, tag_cmp-IsAntisymmetric, eq_by_cmp-tag, tag_eq-same, tag_eq-true}
use Rattle.bank.specs.declared.row.Row.{Row}
use Rattle.bank.specs.declared.status.Pointer.{Pointer}
use Rattle.bank.specs.declared.window.Window.{Window}
use Rattle.bank.specs.Bank.{Bank, piece_of_row}
use Rattle.bank.specs.Bytes.{entry_bytes, row_piece_bytes}
use Rattle.bank.specs.Collect.{emptied_row, kept_row, collected}
use Rattle.bank.specs.Kept.{bank_of}
use Rattle.bank.specs.Knowledge.{is_dropped}
use Rattle.bank.specs.Window.{found_in, without_piece, piece_bytes_at}
use Rattle.bank.proofs.EntryOrderLemmas.{Rows, Rise, get-rise, insert-rise}
use Rattle.bank.proofs.BankBytesLemmas.{insert_bytes, emptied_bytes}
use Rattle.bank.proofs.CollectedBankLemmas.{collected_is}

pub at_itself : (t : Tag) → is_at (tag_cmp t) t ≡ true
at_itself t = eq_by_cmp-tag t t ∙ tag_eq-same t

pub at_true : (s t : Tag) → is_at (tag_cmp s) t ≡ true → s ≡ t
at_true s t at = tag_eq-true s t (sym (eq_by_cmp-tag s t) ∙ at)

-- a piece that is not there can't be dropped
without_none : (x : Option Tag) (t : Tag) (o : Option Row) → piece_of_row o ≡ None → without_piece x t o ≡ option_map emptied_row o
without_none x t o none = grind arith

-- another tag keeps its piece
without_other : (x : Option Tag) (t : Tag) (o : Option Row) → (x ≡ Some t → ⊥) → without_piece x t o ≡ o
without_other x t o other = grind arith

without_it : (x : Option Tag) (t : Tag) (o : Option Row) → x ≡ Some t → without_piece x t o ≡ option_map emptied_row o
without_it x t o is = ap (λ x. without_piece x t o) is ∙ ap (λ c. cond c (option_map emptied_row o) o) (at_itself t)

module _ (fs gs : Rows) (rise : Rise fs) (risen : Rise gs) (x : Option Tag)
    (drops : (q : Tag) → found_in gs q ≡ without_piece x q (found_in fs q)) where
  -- where just the pieces go that are not kept, the rest is what is kept
  pub bank_of-collected : (p : Pointer) (w : Option Window) (r : Option ℕ)
      → ((t : Tag) → x ≡ Some t → is_dropped (bank_of fs p w r) t ≡ true)
      → ((t : Tag) → is_dropped (bank_of fs p w r) t ≡ true → (x ≡ Some t) ⊎ (piece_of_row (found_in fs t) ≡ None))
      → bank_of gs p w r ≡ collected (bank_of fs p w r)
  bank_of-collected p w r gone only =
      let u = bank_of fs p w r in
      collected_is u (map.from_sorted gs) (λ t. get-rise gs risen t ∙ drops t ∙ each u gone only t
      ∙ ap (option_map (kept_row u t)) (sym (get-rise fs rise t)))
    where
      all : (o : Option Row) → o ≡ option_map (λ (r : Row). r) o
      all None = refl
      all (Some r) = refl

      each : (u : Bank) → ((t : Tag) → x ≡ Some t → is_dropped u t ≡ true)
          → ((t : Tag) → is_dropped u t ≡ true → (x ≡ Some t) ⊎ (piece_of_row (found_in fs t) ≡ None)) → (t : Tag)
          → without_piece x t (found_in fs t) ≡ option_map (λ r. cond (is_dropped u t) (emptied_row r) r) (found_in fs t)
      each u gone only t =
          elim (is_dropped u t) as (λ d. is_dropped u t ≡ d
          → without_piece x t (found_in fs t) ≡ option_map (λ r. cond d (emptied_row r) r) (found_in fs t)) [
            | true ↦ λ dropped. one (only t dropped)
            | false ↦ λ kept. without_other x t (found_in fs t) (λ is. clash (sym kept ∙ gone t is)) ∙ all (found_in fs t)
          ] refl
        where
          clash : false ≡ true → ⊥
          clash e = cc

          one : (x ≡ Some t) ⊎ (piece_of_row (found_in fs t) ≡ None)
              → without_piece x t (found_in fs t) ≡ option_map emptied_row (found_in fs t)
          one (inl is) = without_it x t (found_in fs t) is
          one (inr none) = without_none x t (found_in fs t) none

  same_rows : ((q : Tag) → found_in gs q ≡ found_in fs q) → map.from_sorted {R = tag_cmp} gs ≡ map.from_sorted fs
  same_rows same = map.same_map tag_cmp_total tag_cmp-IsAntisymmetric (map.from_sorted gs) (map.from_sorted fs)
      (λ q. get-rise gs risen q ∙ same q ∙ sym (get-rise fs rise q))

  -- and its bytes are off
  pub freed_is : sum_by entry_bytes (map.entries (map.from_sorted {R = tag_cmp} gs)) + piece_bytes_at x fs
      ≡ sum_by entry_bytes (map.entries (map.from_sorted {R = tag_cmp} fs))
  freed_is = cases x refl
    where
      bytes : map.FinMap tag_cmp Row → ℕ
      bytes m = sum_by entry_bytes (map.entries m)

      cases : (y : Option Tag) → x ≡ y → bytes (map.from_sorted gs) + piece_bytes_at x fs ≡ bytes (map.from_sorted fs)
      cases None is =
          let same = ap bytes (same_rows (λ q. drops q ∙ ap (λ x. without_piece x q (found_in fs q)) is)) in
          let none = ap (λ x. piece_bytes_at x fs) is in
          omega (arith, same, none)
      cases (Some y) is = row (found_in fs y) refl
        where
          row : (o : Option Row) → found_in fs y ≡ o → bytes (map.from_sorted gs) + piece_bytes_at x fs ≡ bytes (map.from_sorted fs)
          row None at =
              let same = ap bytes (same_rows (λ q. drops q ∙ ap (λ x. without_piece x q (found_in fs q)) is
              ∙ pick q (is_at (tag_cmp y) q) refl)) in
              let none : piece_bytes_at x fs ≡ 0 = ap (λ x. piece_bytes_at x fs) is ∙ ap row_piece_bytes at in
              omega (arith, same, none)
            where
              pick : (q : Tag) (c : Bool) → is_at (tag_cmp y) q ≡ c
                  → cond c (option_map emptied_row (found_in fs q)) (found_in fs q) ≡ found_in fs q
              pick q true here = let nothing = ap (found_in fs) (sym (at_true y q here)) ∙ at in
                  ap (option_map emptied_row) nothing ∙ sym nothing
              pick q false here = refl
          row (Some r) at =
              let inserted = insert-rise fs gs rise risen y (emptied_row r) (λ q. drops q
              ∙ ap (λ x. without_piece x q (found_in fs q)) is ∙ pick q (is_at (tag_cmp y) q) refl) in
              let same = ap bytes inserted in
              let all = insert_bytes (map.from_sorted fs) y (emptied_row r) in
              let here : row_piece_bytes (map.get (map.from_sorted fs) y) ≡ row_piece_bytes (found_in fs y) =
              ap row_piece_bytes (get-rise fs rise y) in
              let none = emptied_bytes r.arrival in
              let off : piece_bytes_at x fs ≡ row_piece_bytes (found_in fs y) = ap (λ x. piece_bytes_at x fs) is in
              omega (arith, same, all, here, none, off)
            where
              pick : (q : Tag) (c : Bool) → is_at (tag_cmp y) q ≡ c
                  → cond c (option_map emptied_row (found_in fs q)) (found_in fs q) ≡ cond c (Some (emptied_row r)) (found_in fs q)
              pick q true here = ap (option_map emptied_row) (ap (found_in fs) (sym (at_true y q here)) ∙ at)
              pick q false here = refl
