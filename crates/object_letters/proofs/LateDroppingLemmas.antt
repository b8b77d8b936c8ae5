-- A bank that drops pieces once, after all requests, keeps the same as a bank that drops them after each request; and a
-- bank that forgets once remembers the same as a bank that forgets after each request.
use Rattle.std.proofs.Common.{◌≡◌, ℕ, Bool, true, false, cond, ◌&&◌, ◌||◌, List, [], ◌∷◌, ◌++◌, Option, Some, is_some, option_map}
use Rattle.std.proofs.Common.{sym, ap, ◌∙◌, refl, arith}
use Rattle.std.specs.FinMap as map
use Rattle.tag.specs.declared.tag.Tag.{Tag}
use Rattle.tag.specs.Tag.{tag_eq, tag_lt}
use Rattle.tag.proofs.TagOrderLemmas.{tag_eq-true}
use Rattle.piece.specs.declared.piece.Piece.{Piece}
use Rattle.bank.specs.declared.request.Request.{Request}
use Rattle.bank.specs.declared.row.Row.{Row}
use Rattle.bank.specs.Bank.{Bank, with_rows, row_after_pre_write, row_after_finalize, pre_written, finalized}
use Rattle.bank.specs.Collect.{emptied_row, collected}
use Rattle.bank.specs.Floor.{remembered}
use Rattle.bank.specs.Knowledge.{since, final_step, finalized_at, exceeds, finals_above, is_dropped}
use Rattle.bank.specs.Serve.{served_bank, uncollected_bank}
use Rattle.bank.proofs.CollectedBankLemmas.{get-collected, collected_is, finalized_at-collected, is_dropped-collected, count-collected}
use Rattle.bank.proofs.EntryCountLemmas.{one_if}
use Rattle.bank.proofs.PieceRetentionLemmas.{dropped-finalized, dropped-pre_written}
use Rattle.bank.proofs.RememberedStepLemmas.{remembered-served}
use Rattle.bank.proofs.RowChangeLemmas.{with_row, get-with_row, finalized_at-finalized, finals-finalized}
use Rattle.local_object.specs.ChangedBanks.{bank_after}
use Rattle.object_letters.specs.Reached.{after_requests}

-- a row without its piece where it is to be dropped
abbrev pub rest : Bool → Row → Row
rest drops row = cond drops (emptied_row row) row

-- a row of which the piece was dropped before
pub rest_of_rest : (before after : Bool) → (before ≡ true → after ≡ true) → (o : Option Row)
    → option_map (rest after) (option_map (rest before) o) ≡ option_map (rest after) o
rest_of_rest before after grows o = grind arith

-- the row of a tag changes by f; to drop a piece before makes no difference to what is left after
module _ (f : Option Row → Row) (commutes : (r : Row) → emptied_row (f (Some (emptied_row r))) ≡ emptied_row (f (Some r))) where
  rest_of_change : (before after : Bool) → (before ≡ true → after ≡ true) → (o : Option Row)
      → option_map (rest after) (Some (f (option_map (rest before) o))) ≡ option_map (rest after) (Some (f o))
  rest_of_change before after grows o = grind arith

  changed_late : (u : Bank) (tag : Tag)
      → ((t : Tag) → is_dropped (with_rows (collected u) (with_row (collected u).rows tag f)) t
      ≡ is_dropped (with_rows u (with_row u.rows tag f)) t)
      → ((t : Tag) → is_dropped u t ≡ true → is_dropped (with_rows u (with_row u.rows tag f)) t ≡ true)
      → collected (with_rows (collected u) (with_row (collected u).rows tag f)) ≡ collected (with_rows u (with_row u.rows tag f))
  changed_late u tag same grows =
      let early = with_rows (collected u) (with_row (collected u).rows tag f) in
      let late = with_rows u (with_row u.rows tag f) in
      collected_is late (collected early).rows (λ t. get-collected early t
      ∙ ap (λ d. option_map (rest d) (map.get early.rows t)) (same t) ∙ each t)
    where
      each : (t : Tag) → option_map (rest (is_dropped (with_rows u (with_row u.rows tag f)) t))
          (map.get (with_row (collected u).rows tag f) t)
          ≡ option_map (rest (is_dropped (with_rows u (with_row u.rows tag f)) t)) (map.get (with_row u.rows tag f) t)
      each t =
          let d = is_dropped (with_rows u (with_row u.rows tag f)) t in
          ap (option_map (rest d)) (get-with_row (collected u).rows tag f t)
          ∙ elim (tag_eq t tag) as (λ c. tag_eq t tag ≡ c
          → option_map (rest d) (cond c (Some (f (map.get (collected u).rows tag))) (map.get (collected u).rows t))
          ≡ option_map (rest d) (cond c (Some (f (map.get u.rows tag))) (map.get u.rows t))) [
            | true ↦ λ is. ap (λ o. option_map (rest d) (Some (f o))) (get-collected u tag)
                ∙ rest_of_change (is_dropped u tag) d (λ dropped. grows t (ap (is_dropped u) (tag_eq-true t tag is) ∙ dropped))
                (map.get u.rows tag)
            | false ↦ λ _. ap (option_map (rest d)) (get-collected u t) ∙ rest_of_rest (is_dropped u t) d (grows t) (map.get u.rows t)
          ] refl
          ∙ sym (ap (option_map (rest d)) (get-with_row u.rows tag f t))

finalize_commutes : (now : ℕ) (r : Row)
    → emptied_row (row_after_finalize (Some (emptied_row r)) now) ≡ emptied_row (row_after_finalize (Some r) now)
finalize_commutes now r = grind arith

pre_write_commutes : (p : Piece) (now : ℕ) (r : Row)
    → emptied_row (row_after_pre_write (Some (emptied_row r)) p now) ≡ emptied_row (row_after_pre_write (Some r) p now)
pre_write_commutes p now r = grind arith

module _ (u : Bank) (tag : Tag) (now : ℕ) where
  finals_same : (t : Tag) → finals_above (finalized (collected u) tag now) t ≡ finals_above (finalized u tag now) t
  finals_same t =
      let early = finals-finalized (collected u) tag now t in
      let late = finals-finalized u tag now t in
      let before : one_if (tag_lt t tag && is_some (finalized_at (collected u) tag))
      ≡ one_if (tag_lt t tag && is_some (finalized_at u tag)) =
      ap (λ o. one_if (tag_lt t tag && is_some o)) (finalized_at-collected u tag) in
      let count : finals_above (collected u) t ≡ finals_above u t = count-collected u (λ l. is_some (final_step l)) t in
      omega (arith, early, late, before, count)

  finalized_same : (t : Tag) → finalized_at (finalized (collected u) tag now) t ≡ finalized_at (finalized u tag now) t
  finalized_same t =
      finalized_at-finalized (collected u) tag now t
      ∙ ap (λ o. cond (tag_eq t tag) (since o now) o) (finalized_at-collected u t)
      ∙ sym (finalized_at-finalized u tag now t)

  pub finalized_late : collected (finalized (collected u) tag now) ≡ collected (finalized u tag now)
  finalized_late = changed_late (λ o. row_after_finalize o now) (finalize_commutes now) u tag
      (λ t. ap (λ o. is_some u.retired || (is_some o && exceeds u.delta (finals_above (finalized (collected u) tag now) t)))
      (finalized_same t)
      ∙ ap (λ n. is_some u.retired || (is_some (finalized_at (finalized u tag now) t) && exceeds u.delta n)) (finals_same t))
      (dropped-finalized u tag now)

  pub pre_written_late : (p : Piece) → collected (pre_written (collected u) tag p now) ≡ collected (pre_written u tag p now)
  pre_written_late p = changed_late (λ o. row_after_pre_write o p now) (pre_write_commutes p now) u tag
      (λ t. dropped-pre_written (collected u) tag now p t ∙ is_dropped-collected u t ∙ sym (dropped-pre_written u tag now p t))
      (λ t dropped. dropped-pre_written u tag now p t ∙ dropped)

-- one request
pub served_late : (u : Bank) (q : Request) (now : ℕ) → served_bank (collected u) q now ≡ collected (uncollected_bank u q now)
served_late u q now = grind (arith, finalized_late, pre_written_late)

-- the bank after these requests, before any piece is dropped
abbrev pub uncollected_after : Bank → List Request → Bank
uncollected_after b [] = b
uncollected_after b (q ∷ qs) = uncollected_after (uncollected_bank b q 0) qs

-- the bank after these requests, each at step 0, if it forgets nothing
abbrev pub whole_after : Bank → List Request → Bank
whole_after b [] = b
whole_after b (q ∷ qs) = whole_after (served_bank b q 0) qs

-- all requests
pub after_late : (u : Bank) (qs : List Request) → whole_after (collected u) qs ≡ collected (uncollected_after u qs)
after_late u [] = refl
after_late u (q ∷ qs) = ap (λ b. whole_after b qs) (served_late u q 0) ∙ after_late (uncollected_bank u q 0) qs

pub uncollected_append : (u : Bank) (xs ys : List Request)
    → uncollected_after u (xs ++ ys) ≡ uncollected_after (uncollected_after u xs) ys
uncollected_append u [] ys = refl
uncollected_append u (x ∷ xs) ys = uncollected_append (uncollected_bank u x 0) xs ys

pub after_append : (b : Bank) (xs ys : List Request) → after_requests b (xs ++ ys) ≡ after_requests (after_requests b xs) ys
after_append b [] ys = refl
after_append b (x ∷ xs) ys = after_append (bank_after b x) xs ys

-- to forget after each request comes to the same as to forget once, after all of them
pub after_remembered : (b : Bank) (qs : List Request) → after_requests (remembered b) qs ≡ remembered (whole_after b qs)
after_remembered b [] = refl
after_remembered b (q ∷ qs) =
    ap (λ c. after_requests c qs) (remembered-served b q 0) ∙ after_remembered (served_bank b q 0) qs
