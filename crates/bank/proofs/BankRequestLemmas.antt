-- What a request makes of what a bank keeps.
use Rattle.std.proofs.Common.{◌≡◌, ℕ, ◌+◌, ◌-◌, ◌%◌, ◌^◌, ◌<◌, ◌⊎◌, inl, inr, Bool, true, false, cond, not, ◌&&◌, ◌||◌}
use Rattle.std.proofs.Common.{length, Option, Some, None, IsSome, is_some, option_map, sym, ap, ◌∙◌, subst, refl, arith}
use Rattle.std.specs.FinMap as map
use Rattle.std.specs.BTreeMap.{is_at}
use Rattle.std.proofs.lemmas.Bool.{or_left, or_right, or_cases}
use Rattle.tag.specs.declared.tag.Tag.{Tag}
use Rattle.tag.specs.Tag.{tag_cmp, later_tag, opening_tag}
use Rattle.piece.specs.declared.piece.Piece.{Piece}
use Rattle.bank.specs.declared.row.Row.{Row}
use Rattle.bank.specs.declared.window.Window.{Window}
use Rattle.bank.specs.declared.request.Request.TheVariants as request
use Rattle.bank.specs.declared.status.Pointer.{Pointer}
use Rattle.bank.specs.Bank.{Bank, with_rows, pre_written, finalized, knows, row_after_pre_write, row_after_finalize, piece_of, piece_of_row}
use Rattle.bank.specs.Bytes.{bank_bytes, added_bytes}
use Rattle.bank.specs.Collect.{collected, IsCollected}
use Rattle.bank.specs.Kept.{bank_of, IsKeptBank}
use Rattle.bank.specs.Knowledge.{row_arrived, finalized_at, count_above, is_finalized, is_dropped}
use Rattle.bank.specs.Serve.{greatest_final}
use Rattle.bank.specs.Window.{found_in, is_excluded, late_tag, after_final, without_piece, piece_bytes_at, IsWindowed}
use Rattle.bank.proofs.EntryOrderLemmas.{Rows, is_final, Rise, get-rise, insert-rise}
use Rattle.bank.proofs.BankBytesLemmas.{pre_written_bytes, finalized_bytes}
use Rattle.bank.proofs.FinalizedAboveLemmas.{is_final_in}
use Rattle.bank.proofs.RowChangeLemmas.{finalized_at-pre_written, finals-pre_written, piece_of-finalized}
use Rattle.bank.proofs.CollectedBankLemmas.{finalized_at-collected, count-collected}
use Rattle.bank.proofs.DroppedPieceLemmas.{at_true, bank_of-collected, freed_is}
use Rattle.bank.proofs.WindowExclusionLemmas.{final_in, above_in, dropped_is, windowed_same, IsAfter, after}
use Rattle.bank.proofs.PieceRetentionLemmas.{dropped-pre_written, no_piece, collected-pre_written, collected-finalized}
use Rattle.bank.proofs.GreatestTagLemmas.{greatest-finalized, greatest-pre_written, greatest-collected, opening-finalized}
use Rattle.bank.proofs.GreatestTagLemmas.{opening-pre_written}

-- a bank with what f makes of a tag's row
abbrev changed : Bank → Tag → (Option Row → Row) → Bank
changed b tag f = with_rows b (map.insert b.rows tag (f (map.get b.rows tag)))

-- the bank of the entries after the row of a tag changes
bank_of-changed : (es fs : Rows) (p : Pointer) (w : Option Window) (r : Option ℕ) (tag : Tag) (f : Option Row → Row) → Rise es → Rise fs
    → ((q : Tag) → found_in fs q ≡ cond (is_at (tag_cmp tag) q) (Some (f (found_in es tag))) (found_in es q))
    → bank_of fs p w r ≡ changed (bank_of es p w r) tag f
bank_of-changed es fs p w r tag f rise risen updates = grind (arith, get-rise, insert-rise)

-- a word that counts an addition and a fall
counted : (n old added one freed new total : ℕ) → n ≡ old % 2 ^ 64 → one ≡ (n + added) % 2 ^ 64 → freed < 2 ^ 64
    → new ≡ (one + (2 ^ 64 - freed)) % 2 ^ 64 → total + freed ≡ old + added → new ≡ total % 2 ^ 64
counted n old added one freed new total is first fits second same = omega (arith, is, first, fits, second, same)

-- a tag that no search finds is not known
pub not_known : (es : Rows) (p : Pointer) (w : Option Window) (r : Option ℕ) (tag : Tag) → Rise es → found_in es tag ≡ None
    → (b : Bank) → bank_of es p w r ≡ b → knows b tag ≡ false
not_known es p w r tag rise none b view = ap (λ b. knows b tag) (sym view) ∙ ap is_some (get-rise es rise tag ∙ none)

module _ (es fs gs : Rows) (p : Pointer) (w : Option Window) (r : Option ℕ) (g : Tag) (n : ℕ) (kept : IsKeptBank es p w r g n)
    (risen : Rise fs) (rests : Rise gs) (tag : Tag) (now : ℕ) where
  -- what the bank keeps of pieces once the rest is dropped, where the plain request made `u`
  module _ (u : Bank) (made : bank_of fs p w r ≡ u) (is_collected : IsCollected (collected u)) (final : IsSome (finalized_at u opening_tag))
      (new : Option Window) (x : Option Tag) (drops : (q : Tag) → found_in gs q ≡ without_piece x q (found_in fs q))
      (windowed : IsWindowed fs new) (delta : option_map (λ (w : Window). w.delta) new ≡ option_map (λ w. w.delta) w)
      (gone : (t : Tag) → x ≡ Some t → is_dropped (bank_of fs p new r) t ≡ true)
      (only : (t : Tag) → is_dropped (bank_of fs p new r) t ≡ true → (x ≡ Some t) ⊎ (piece_of_row (found_in fs t) ≡ None)) where
    same_delta : bank_of fs p new r ≡ bank_of fs p w r
    same_delta = ap (λ d. let b : Bank = record { rows = map.from_sorted fs; pointer = p; delta = d; retired = r } in b) delta

    pub bank_rest : bank_of gs p new r ≡ collected u
    bank_rest = bank_of-collected fs gs risen rests x drops p new r gone only ∙ ap collected (same_delta ∙ made)

    pub kept_rest : (last : Tag) (total : ℕ) → last ≡ greatest_final u → total ≡ bank_bytes (bank_of gs p new r) % 2 ^ 64
        → IsKeptBank gs p new r last total
    kept_rest last total greatest bytes = record {
      sorted = rests;
      opening = ap (λ b. is_final b opening_tag) bank_rest ∙ ap is_some (finalized_at-collected u opening_tag) ∙ final;
      greatest = greatest ∙ sym (ap greatest_final bank_rest ∙ greatest-collected u final);
      bytes = bytes;
      collected = subst IsCollected (sym bank_rest) is_collected;
      windowed = windowed_same fs gs new
          (λ t. sym (final_in gs rests p new r t) ∙ ap (λ b. is_final b t) bank_rest ∙ ap is_some (finalized_at-collected u t)
          ∙ ap (λ b. is_final b t) (sym (same_delta ∙ made)) ∙ final_in fs risen p new r t)
          (λ t. sym (above_in gs rests p new r t) ∙ ap (λ b. count_above is_finalized t (map.entries b.rows)) bank_rest
          ∙ count-collected u is_finalized t
          ∙ ap (λ b. count_above is_finalized t (map.entries b.rows)) (sym (same_delta ∙ made)) ∙ above_in fs risen p new r t) windowed;
    }

  -- after a request to pre-write a tag
  module _ (piece : Piece) (updates : (q : Tag) → found_in fs q ≡ cond (is_at (tag_cmp tag) q)
      (Some (row_after_pre_write (found_in es tag) piece now)) (found_in es q))
      (drops : (q : Tag) → found_in gs q ≡ without_piece (late_tag w r fs tag) q (found_in fs q)) where
    plain_pre_written : bank_of fs p w r ≡ pre_written (bank_of es p w r) tag piece now
    plain_pre_written = bank_of-changed es fs p w r tag (λ o. row_after_pre_write o piece now) kept.sorted risen updates

    windowed_pre_written : IsWindowed fs w
    windowed_pre_written = windowed_same es fs w
        (λ t. sym (final_in fs risen p w r t) ∙ ap (λ b. is_final b t) plain_pre_written
        ∙ ap is_some (finalized_at-pre_written (bank_of es p w r) tag now t piece) ∙ final_in es kept.sorted p w r t)
        (λ t. sym (above_in fs risen p w r t) ∙ ap (λ b. count_above is_finalized t (map.entries b.rows)) plain_pre_written
        ∙ finals-pre_written (bank_of es p w r) tag now t piece ∙ above_in es kept.sorted p w r t) kept.windowed

    late : (t : Tag) → is_dropped (bank_of fs p w r) t ≡ (is_some r || (is_excluded w t && is_final_in fs t))
    late t = dropped_is fs risen p w r t windowed_pre_written

    gone_late : (t : Tag) → late_tag w r fs tag ≡ Some t → is_dropped (bank_of fs p w r) t ≡ true
    gone_late t e = grind (arith, is_final_in, late)

    only_late : (t : Tag) → is_dropped (bank_of fs p w r) t ≡ true → (late_tag w r fs tag ≡ Some t) ⊎ (piece_of_row (found_in fs t) ≡ None)
    only_late t dropped = pick (is_at (tag_cmp tag) t) refl
      where
        pick : (c : Bool) → is_at (tag_cmp tag) t ≡ c → (late_tag w r fs tag ≡ Some t) ⊎ (piece_of_row (found_in fs t) ≡ None)
        pick true here =
            let same = at_true tag t here in
            inl (ap (λ c. cond c (Some tag) None) (subst (λ t. (is_some r || (is_excluded w t && is_final_in fs t)) ≡ true) (sym same)
            (sym (late t) ∙ dropped)) ∙ ap (λ t. Some t) same)
        pick false other =
            let before : is_dropped (bank_of es p w r) t ≡ true =
            sym (ap (λ b. is_dropped b t) plain_pre_written ∙ dropped-pre_written (bank_of es p w r) tag now piece t) ∙ dropped in
            inr (ap piece_of_row (updates t
            ∙ ap (λ c. cond c (Some (row_after_pre_write (found_in es tag) piece now)) (found_in es t)) other
            ∙ sym (get-rise es kept.sorted t)) ∙ no_piece (bank_of es p w r) kept.collected t before)

    pub bank_pre_written : bank_of gs p w r ≡ collected (pre_written (bank_of es p w r) tag piece now)
    bank_pre_written = bank_rest (pre_written (bank_of es p w r) tag piece now) plain_pre_written
        (collected-pre_written (bank_of es p w r) tag piece now kept.collected)
        (opening-pre_written (bank_of es p w r) tag now kept.opening piece) w (late_tag w r fs tag) drops windowed_pre_written refl
        gone_late only_late

    pub kept_pre_written : (added one freed new : ℕ) → added ≡ cond (is_some (row_arrived (found_in es tag))) 0 (length piece.bytes)
        → one ≡ (n + added) % 2 ^ 64 → freed ≡ piece_bytes_at (late_tag w r fs tag) fs → freed < 2 ^ 64
        → new ≡ (one + (2 ^ 64 - freed)) % 2 ^ 64 → IsKeptBank gs p w r g new
    kept_pre_written added one freed new adds first frees fits second =
        let u = pre_written (bank_of es p w r) tag piece now in
        let brought : added ≡ added_bytes (bank_of es p w r) (request.PreWrite tag piece) = adds
        ∙ ap (λ o. cond (is_some (row_arrived o)) 0 (length piece.bytes)) (sym (get-rise es kept.sorted tag)) in
        let all = ap bank_bytes plain_pre_written ∙ pre_written_bytes (bank_of es p w r) tag piece now in
        let off = freed_is fs gs risen rests (late_tag w r fs tag) drops in
        let total : bank_bytes (bank_of gs p w r) + freed ≡ bank_bytes (bank_of es p w r) + added =
        omega (arith, brought, all, off, frees) in
        kept_rest u plain_pre_written (collected-pre_written (bank_of es p w r) tag piece now kept.collected)
        (opening-pre_written (bank_of es p w r) tag now kept.opening piece) w (late_tag w r fs tag) drops windowed_pre_written refl
        gone_late only_late g new (kept.greatest ∙ sym (greatest-pre_written (bank_of es p w r) tag now kept.opening piece))
        (counted n (bank_bytes (bank_of es p w r)) added one freed new (bank_bytes (bank_of gs p w r)) kept.bytes first fits second total)

  -- after a request to finalize a tag
  module _ (anew : Bool) (was : anew ≡ not (is_final_in es tag)) (updates : (q : Tag)
      → found_in fs q ≡ cond (is_at (tag_cmp tag) q) (Some (row_after_finalize (found_in es tag) now)) (found_in es q))
      (new : Option Window) (x : Option Tag) (windows : new ≡ (after_final w anew fs tag).0) (falls : x ≡ (after_final w anew fs tag).1)
      (drops : (q : Tag) → found_in gs q ≡ without_piece x q (found_in fs q)) where
    plain_finalized : bank_of fs p w r ≡ finalized (bank_of es p w r) tag now
    plain_finalized = bank_of-changed es fs p w r tag (λ o. row_after_finalize o now) kept.sorted risen updates

    made : IsAfter es fs w (new, x)
    made = subst (λ m. IsAfter es fs w m) (pair new x (after_final w anew fs tag) windows falls)
        (after es fs kept.sorted risen p w r tag now plain_finalized anew was kept.windowed)
      where
        pair : (a : Option Window) (b : Option Tag) (m : Option Window × Option Tag) → a ≡ m.0 → b ≡ m.1 → m ≡ (a, b)
        pair a b m first second = ap (λ c. (c, m.1)) (sym first) ∙ ap (λ d. (a, d)) (sym second)

    fallen : (t : Tag) → is_dropped (bank_of fs p new r) t ≡ (is_some r || (is_excluded new t && is_final_in fs t))
    fallen t = dropped_is fs risen p new r t made.windowed

    gone_fallen : (t : Tag) → x ≡ Some t → is_dropped (bank_of fs p new r) t ≡ true
    gone_fallen t e = fallen t ∙ or_right (is_some r) (is_excluded new t && is_final_in fs t) (made.gone t e)

    only_fallen : (t : Tag) → is_dropped (bank_of fs p new r) t ≡ true → (x ≡ Some t) ⊎ (piece_of_row (found_in fs t) ≡ None)
    only_fallen t dropped = pick (or_cases (is_some r) (is_excluded new t && is_final_in fs t) (sym (fallen t) ∙ dropped))
      where
        before : (is_some r || (is_excluded w t && is_final_in es t)) ≡ true → piece_of_row (found_in fs t) ≡ None
        before e =
            ap piece_of_row (sym (get-rise fs risen t)) ∙ ap (λ b. piece_of b t) plain_finalized
            ∙ piece_of-finalized (bank_of es p w r) tag now t
            ∙ no_piece (bank_of es p w r) kept.collected t (dropped_is es kept.sorted p w r t kept.windowed ∙ e)

        old : (x ≡ Some t) ⊎ ((is_excluded w t && is_final_in es t) ≡ true) → (x ≡ Some t) ⊎ (piece_of_row (found_in fs t) ≡ None)
        old (inl e) = inl e
        old (inr e) = inr (before (or_right (is_some r) (is_excluded w t && is_final_in es t) e))

        pick : (is_some r ≡ true) ⊎ ((is_excluded new t && is_final_in fs t) ≡ true)
            → (x ≡ Some t) ⊎ (piece_of_row (found_in fs t) ≡ None)
        pick (inl gone) = inr (before (or_left (is_some r) (is_excluded w t && is_final_in es t) gone))
        pick (inr out) = old (made.only t out)

    pub bank_finalized : bank_of gs p new r ≡ collected (finalized (bank_of es p w r) tag now)
    bank_finalized = bank_rest (finalized (bank_of es p w r) tag now) plain_finalized
        (collected-finalized (bank_of es p w r) tag now kept.collected) (opening-finalized (bank_of es p w r) tag now kept.opening)
        new x drops made.windowed made.delta gone_fallen only_fallen

    pub kept_finalized : (last : Tag) (freed total : ℕ) → last ≡ later_tag g tag → freed ≡ piece_bytes_at x fs → freed < 2 ^ 64
        → total ≡ (n + (2 ^ 64 - freed)) % 2 ^ 64 → IsKeptBank gs p new r last total
    kept_finalized last freed total later frees fits falls_by =
        let u = finalized (bank_of es p w r) tag now in
        let all = ap bank_bytes plain_finalized ∙ finalized_bytes (bank_of es p w r) tag now in
        let off = freed_is fs gs risen rests x drops in
        let sum : bank_bytes (bank_of gs p new r) + freed ≡ bank_bytes (bank_of es p w r) + 0 = omega (arith, all, off, frees) in
        kept_rest u plain_finalized (collected-finalized (bank_of es p w r) tag now kept.collected)
        (opening-finalized (bank_of es p w r) tag now kept.opening) new x drops made.windowed made.delta gone_fallen only_fallen last total
        (later ∙ ap (λ g. later_tag g tag) kept.greatest ∙ sym (greatest-finalized (bank_of es p w r) tag now kept.opening))
        (fell n (bank_bytes (bank_of es p w r)) freed total (bank_bytes (bank_of gs p new r)) kept.bytes fits falls_by sum)
      where
        fell : (n old freed new total : ℕ) → n ≡ old % 2 ^ 64 → freed < 2 ^ 64 → new ≡ (n + (2 ^ 64 - freed)) % 2 ^ 64
            → total + freed ≡ old + 0 → new ≡ total % 2 ^ 64
        fell n old freed new total is fits second same = omega (arith, is, fits, second, same)
