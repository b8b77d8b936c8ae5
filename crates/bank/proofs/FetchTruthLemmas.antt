-- What a fetch answers is true.
use Rattle.std.proofs.Common.{◌≡◌, ℕ, suc, ◌<◌, ◌↔◌, Bool, true, false, not, ◌&&◌, ◌||◌, length, get_or, Option, Some, IsSome}
use Rattle.std.proofs.Common.{is_some, sym, ap, ◌∙◌, refl, arith}
use Rattle.std.specs.FinMap as map
use Rattle.std.proofs.lemmas.Bool.{and_parts}
use Rattle.tag.specs.declared.tag.Tag.{Tag}
use Rattle.tag.specs.Tag.{tag_cmp}
use Rattle.bank.specs.declared.row.Row.{Row}
use Rattle.bank.specs.Bank.{Bank, finalized}
use Rattle.bank.specs.Collect.{collected, IsCollected, is_outside, fetched_piece}
use Rattle.bank.specs.Knowledge.{came_by, final_step, row_finalized, finalized_at, arrived_at, finals_above, finals_above_at}
use Rattle.bank.specs.Knowledge.{exceeds, is_dropped, is_dropped_at, HoldsPiece}
use Rattle.bank.specs.Facts.{IsEarlier, IsBefore}
use Rattle.bank.proofs.EntryOrderLemmas.{find_sorted, t_true}
use Rattle.bank.proofs.EntryCountLemmas.{count_same}
use Rattle.bank.proofs.CollectedBankLemmas.{arrived_at-collected, is_dropped_at-collected}
use Rattle.bank.proofs.RowChangeLemmas.{earlier_by, arrived_at-finalized}
use Rattle.bank.proofs.PieceRetentionLemmas.{dropped_itself}

-- what came before the next step came by this one
up_to : (o : Option ℕ) (now : ℕ) → IsEarlier o (suc now) → came_by o now ≡ is_some o
up_to o now earlier = grind arith

-- if all that a bank recorded happened by step `now`, it was to drop a piece just after `now` exactly if it is to drop it
pub dropped_now : (u : Bank) (now : ℕ) → IsBefore u (suc now) → (t : Tag) → is_dropped_at u t now ≡ is_dropped u t
dropped_now u now before t =
    ap (λ c. c || (came_by (finalized_at u t) now && exceeds u.delta (finals_above_at u t now))) (up_to u.retired now before.retired)
    ∙ ap (λ c. is_some u.retired || (c && exceeds u.delta (finals_above_at u t now)))
    (up_to (finalized_at u t) now (before.finalized t))
    ∙ ap (λ n. is_some u.retired || (is_some (finalized_at u t) && exceeds u.delta n)) same
  where
    at : (k : ℕ) → k < length (map.entries u.rows) → (d : Tag × Row)
        → map.get u.rows (get_or (map.entries u.rows) k d).0 ≡ Some (get_or (map.entries u.rows) k d).1
    at k within d = map.get-entries u.rows (get_or (map.entries u.rows) k d).0
        ∙ find_sorted (map.entries u.rows) k d (t_true (map.is_sorted tag_cmp (map.entries u.rows)) (map.entries_sorted u.rows)) within

    same : finals_above_at u t now ≡ finals_above u t
    same = count_same (λ l. came_by (final_step l) now) (λ l. is_some (final_step l)) t (map.entries u.rows) (λ k within d.
        let row = at k within d in
        let tag = (get_or (map.entries u.rows) k d).0 in
        sym (ap (λ o. came_by (row_finalized o) now) row) ∙ up_to (finalized_at u tag) now (before.finalized tag)
        ∙ ap (λ o. is_some (row_finalized o)) row)

-- a fetch answers a piece exactly where one came and is kept
fetched_is : (b : Bank) (tag : Tag) → IsCollected b → is_some (fetched_piece b tag) ≡ (is_some (arrived_at b tag) && not (is_outside b tag))
fetched_is b tag kept = grind arith

-- so the answer is true of the bank that the request leaves
pub fetched_truth : (b : Bank) (tag : Tag) (now : ℕ) → IsBefore b now → IsCollected b → IsBefore (finalized b tag now) (suc now)
    → IsSome (fetched_piece b tag) ↔ HoldsPiece (collected (finalized b tag now)) tag now
fetched_truth b tag now before kept after =
    let u = finalized b tag now in
    let came : came_by (arrived_at (collected u) tag) now ≡ is_some (arrived_at b tag) =
    ap (λ o. came_by o now) (arrived_at-collected u tag ∙ arrived_at-finalized b tag now tag)
    ∙ earlier_by (arrived_at b tag) now (before.arrived tag) in
    let gone : is_dropped_at (collected u) tag now ≡ is_outside b tag =
    is_dropped_at-collected u tag now ∙ dropped_now u now after tag ∙ dropped_itself b tag now in
    let is = fetched_is b tag kept in (
      λ some. let parts = and_parts (is_some (arrived_at b tag)) (not (is_outside b tag)) (sym is ∙ some) in
          (came ∙ parts.0, gone ∙ turned (is_outside b tag) parts.1),
      λ holds. is ∙ both (is_some (arrived_at b tag)) (is_outside b tag) (sym came ∙ holds.0) (sym gone ∙ holds.1),
    )
  where
    turned : (c : Bool) → not c ≡ true → c ≡ false
    turned true is = absurd (cc)
    turned false is = refl

    both : (a o : Bool) → a ≡ true → o ≡ false → (a && not o) ≡ true
    both true false first second = refl
    both true true first second = absurd (cc)
    both false o first second = absurd (cc)
