-- The pieces that a bank has are those that are kept.
use Rattle.std.proofs.Common.{◌≡◌, ℕ, ◌≤◌, Bool, true, false, cond, not, ◌&&◌, ◌||◌, [], ◌∷◌, length}
use Rattle.std.proofs.Common.{Option, Some, None, is_some, sym, ap, ◌∙◌, refl, arith}
use Rattle.std.specs.FinMap as map
use Rattle.std.proofs.lemmas.Bool.{and_right}
use Rattle.tag.specs.declared.tag.Tag.{Tag}
use Rattle.tag.specs.Tag.{tag_cmp, tag_eq, opening_tag}
use Rattle.tag.proofs.TagOrderLemmas.{tag_eq-same, tag_eq-true}
use Rattle.piece.specs.declared.piece.Piece.{Piece}
use Rattle.bank.specs.declared.row.Row.{Row}
use Rattle.bank.specs.declared.request.Request.{Request}
use Rattle.bank.specs.Bank.{Bank, opening_row, opened_bank, row_after_pre_write, row_after_finalize, pre_written, finalized}
use Rattle.bank.specs.Bank.{piece_of, piece_of_row}
use Rattle.bank.specs.Knowledge.{since, final_step, row_finalized, row_arrived, finalized_at, arrived_at, count_above, finals_above}
use Rattle.bank.specs.Knowledge.{exceeds}
use Rattle.bank.specs.Knowledge.{is_dropped}
use Rattle.bank.specs.Collect.{collected, IsCollected, is_outside, retired_bank}
use Rattle.bank.specs.Serve.{served_bank}
use Rattle.bank.proofs.EntryOrderLemmas.{Rows}
use Rattle.bank.proofs.FinalizedAboveLemmas.{lt-same}
use Rattle.bank.proofs.EntryCountLemmas.{one_if, insert_count}
use Rattle.bank.proofs.CollectedBankLemmas.{arrived_at-collected, piece_of-collected, is_dropped-collected}
use Rattle.bank.proofs.RowChangeLemmas.{get-with_row, all_rows, finalized_at-finalized}
use Rattle.bank.proofs.RowChangeLemmas.{finals-finalized, finalized_at-pre_written, finals-pre_written}

always : (c : Bool) → (c && true) ≡ c
always c = grind arith

since_there : (o : Option ℕ) (now : ℕ) → is_some (since o now) ≡ true
since_there None now = refl
since_there (Some step) now = refl

-- Delta

-- more greater tags exceed delta too
pub exceeds_more : (delta : Option ℕ) (few many : ℕ) → few ≤ many → exceeds delta few ≡ true → exceeds delta many ≡ true
exceeds_more delta few many more is = grind arith

-- What is dropped

-- a finalized tag is dropped where it would be
pub dropped_final : (b : Bank) (t : Tag) → is_some (finalized_at b t) ≡ true → is_dropped b t ≡ is_outside b t
dropped_final b t final = ap (λ c. is_some b.retired || (c && exceeds b.delta (finals_above b t))) final

module _ (b : Bank) (tag : Tag) (now : ℕ) where
  finals_more : (t : Tag) → finals_above b t ≤ finals_above (finalized b tag now) t
  finals_more t = grind (arith, finals-finalized, one_if)

  pub stays : (t : Tag) → is_some (finalized_at b t) ≡ true → is_some (finalized_at (finalized b tag now) t) ≡ true
  stays t final = grind (arith, finalized_at-finalized)

  -- a tag that was to be dropped is still to be dropped after `tag` is finalized
  pub dropped-finalized : (t : Tag) → is_dropped b t ≡ true → is_dropped (finalized b tag now) t ≡ true
  dropped-finalized t = grind (arith, exceeds_more, finals_more, stays)

  pub final_itself : is_some (finalized_at (finalized b tag now) tag) ≡ true
  final_itself = grind (arith, finalized_at-finalized, tag_eq-same)

  -- the tag itself is dropped where it would have been
  pub dropped_itself : is_dropped (finalized b tag now) tag ≡ is_outside b tag
  dropped_itself = grind (arith, dropped_final, final_itself, finals-finalized, lt-same, one_if)

  pub dropped-pre_written : (p : Piece) (t : Tag) → is_dropped (pre_written b tag p now) t ≡ is_dropped b t
  dropped-pre_written p t = grind (arith, finalized_at-pre_written, finals-pre_written)

-- The bank has just the pieces that are kept

-- none that is dropped
pub no_piece : (b : Bank) → IsCollected b → (t : Tag) → is_dropped b t ≡ true → piece_of b t ≡ None
no_piece b is t dropped = grind arith

-- where one is kept, it is there if it came
abbrev HasKept : Bank → Tag → Option Row → Type 0
HasKept b t o = is_dropped b t ≡ false → is_some (piece_of_row o) ≡ is_some (row_arrived o)

has_kept : (b : Bank) → IsCollected b → (t : Tag) → HasKept b t (map.get b.rows t)
has_kept b is t kept = is t ∙ ap (λ d. is_some (arrived_at b t) && not d) kept ∙ always (is_some (arrived_at b t))

-- if `HasKept` holds of each tag, the bank is collected once it has dropped every piece that it is not to keep
collected_has : (u : Bank) → ((t : Tag) → HasKept u t (map.get u.rows t)) → IsCollected (collected u)
collected_has u has t = grind (arith, always, arrived_at-collected, is_dropped-collected, and_right, piece_of-collected)

finalize_has : (o : Option Row) (now : ℕ) → is_some (piece_of_row o) ≡ is_some (row_arrived o)
    → is_some (piece_of_row (Some (row_after_finalize o now))) ≡ is_some (row_arrived (Some (row_after_finalize o now)))
finalize_has o now has = grind arith

pre_write_has : (o : Option Row) (p : Piece) (now : ℕ) → is_some (piece_of_row o) ≡ is_some (row_arrived o)
    → is_some (piece_of_row (Some (row_after_pre_write o p now))) ≡ is_some (row_arrived (Some (row_after_pre_write o p now)))
pre_write_has o p now has = grind arith

not_before : (a b : Bool) → (a ≡ true → b ≡ true) → b ≡ false → a ≡ false
not_before a b grows is = grind arith

pub collected-finalized : (b : Bank) (tag : Tag) (now : ℕ) → IsCollected b → IsCollected (collected (finalized b tag now))
collected-finalized b tag now is = collected_has (finalized b tag now) (λ t kept.
    all_rows b.rows tag (λ o. row_after_finalize o now) (HasKept b) (λ k. finalize_has (map.get b.rows tag) now (has_kept b is tag k))
    (has_kept b is) t (not_before (is_dropped b t) (is_dropped (finalized b tag now) t) (dropped-finalized b tag now t) kept))

pub collected-pre_written : (b : Bank) (tag : Tag) (p : Piece) (now : ℕ) → IsCollected b → IsCollected (collected (pre_written b tag p now))
collected-pre_written b tag p now is = collected_has (pre_written b tag p now) (λ t kept.
    all_rows b.rows tag (λ o. row_after_pre_write o p now) (HasKept b)
    (λ k. pre_write_has (map.get b.rows tag) p now (has_kept b is tag k)) (has_kept b is) t
    (sym (dropped-pre_written b tag now p t) ∙ kept))

-- and after any request
pub served_collected : (b : Bank) (q : Request) (now : ℕ) → IsCollected b → IsCollected (served_bank b q now)
served_collected b q now is = grind (arith, collected-finalized, collected-pre_written)

-- and once it is retired
pub retired_collected : (b : Bank) (now : ℕ) → IsCollected (retired_bank b now)
retired_collected b now =
    let u : Bank = record { rows = b.rows; pointer = b.pointer; delta = b.delta; retired = since b.retired now } in
    collected_has u (λ t kept. absurd (
    let gone : is_dropped u t ≡ true =
    ap (λ c. c || (is_some (finalized_at b t) && exceeds b.delta (finals_above u t))) (since_there b.retired now) in
    let no : false ≡ true = sym kept ∙ gone in cc))

-- a bank that is just opened has its one piece
module _ (point : ℕ) (delta : Option ℕ) (now : ℕ) where
  none_above : (es : Rows) → length es ≡ 0 → count_above (λ l. is_some (final_step l)) opening_tag es ≡ 0
  none_above [] none = refl
  none_above (e ∷ es) none = absurd (omega arith)

  pub alone : finals_above (opened_bank point delta now) opening_tag ≡ 0
  alone =
      let empty = map.empty {X = Row} {R = tag_cmp} in
      let all = insert_count (λ l. is_some (final_step l)) opening_tag empty opening_tag (opening_row point now) in
      let none = none_above (map.entries empty) (sym (map.len-entries empty) ∙ map.len-empty tag_cmp Row) in
      omega (arith, all, none)

  kept : (delta : Option ℕ) (n : ℕ) → n ≡ 0 → exceeds delta n ≡ false
  kept delta n is = grind arith

  pub opened_collected : IsCollected (opened_bank point delta now)
  opened_collected t =
      elim (tag_eq t opening_tag) as (λ c. tag_eq t opening_tag ≡ c → is_some (piece_of (opened_bank point delta now) t)
      ≡ (is_some (arrived_at (opened_bank point delta now) t) && not (is_dropped (opened_bank point delta now) t))) [
        | true ↦ λ same.
            let here = found t ∙ ap (λ c. cond c (Some (opening_row point now)) (map.get (map.empty {X = Row} {R = tag_cmp}) t)) same in
            let stays_open : is_dropped (opened_bank point delta now) t ≡ false =
            ap (λ o. is_some (row_finalized o) && exceeds delta (finals_above (opened_bank point delta now) t)) here
            ∙ kept delta (finals_above (opened_bank point delta now) t) (ap (finals_above (opened_bank point delta now))
            (tag_eq-true t opening_tag same) ∙ alone) in
            ap (λ o. is_some (piece_of_row o)) here
            ∙ sym (ap (λ o. is_some (row_arrived o) && not (is_dropped (opened_bank point delta now) t)) here ∙ ap not stays_open)
        | false ↦ λ other.
            let none = found t ∙ ap (λ c. cond c (Some (opening_row point now)) (map.get (map.empty {X = Row} {R = tag_cmp}) t)) other
            ∙ map.get-empty tag_cmp t in
            ap (λ o. is_some (piece_of_row o)) none
            ∙ sym (ap (λ o. is_some (row_arrived o) && not (is_dropped (opened_bank point delta now) t)) none)
      ] refl
    where
      found : (t : Tag) → map.get (opened_bank point delta now).rows t
          ≡ cond (tag_eq t opening_tag) (Some (opening_row point now)) (map.get (map.empty {X = Row} {R = tag_cmp}) t)
      found t = get-with_row map.empty opening_tag (λ o. opening_row point now) t
