-- The requests to a bank that is reached lead there.
use Rattle.std.proofs.Common.{◌≡◌, ℕ, Bool, true, false, cond, ◌&&◌, List, [], ◌∷◌, ◌++◌, Option, Some, None, is_some, option_map}
use Rattle.std.proofs.Common.{sym, ap, ◌∙◌, subst, refl, arith}
use Rattle.std.specs.FinMap as map
use Rattle.tag.specs.declared.tag.Tag.{Tag}
use Rattle.tag.specs.Tag.{tag_cmp, tag_eq, opening_tag}
use Rattle.tag.proofs.TagOrderLemmas.{tag_eq-true}
use Rattle.bank.specs.declared.request.Request.{Request}
use Rattle.bank.specs.declared.row.Label.{Label}
use Rattle.bank.specs.declared.row.Row.{Row}
use Rattle.bank.specs.declared.status.Pointer.TheVariants.{Unset}
use Rattle.bank.specs.declared.status.Status.{Status}
use Rattle.bank.specs.Bank.{Bank, opening_row, opened_bank, with_pointer}
use Rattle.bank.specs.Collect.{emptied_row, collected}
use Rattle.bank.specs.Floor.{is_forgotten, remembered}
use Rattle.bank.specs.Knowledge.{final_step, row_finalized, finalized_at, count_above, exceeds, finals_above, is_dropped}
use Rattle.bank.specs.Pointer.{raised}
use Rattle.bank.proofs.CollectedBankLemmas.{get-collected, collected_is, count-collected}
use Rattle.bank.proofs.EntryOrderLemmas.{t_true}
use Rattle.bank.proofs.ForgottenCountLemmas.{get-remembered}
use Rattle.bank.proofs.PieceRetentionLemmas.{opened_collected}
use Rattle.bank.proofs.RememberedBankLemmas.{collected_same, remembered_again, remembered-collected, remembered-opened}
use Rattle.bank.proofs.RowChangeLemmas.{Table}
use Rattle.local_object.specs.ChangedBanks.{bank_after}
use Rattle.object_letters.specs.Reached.{IsReachedBank, after_requests}
use Rattle.object_letters.specs.Requests.{pointer_requests, requests_to}
use Rattle.object_letters.proofs.LateDroppingLemmas.{rest, uncollected_after, uncollected_append, after_late, after_append}
use Rattle.object_letters.proofs.LateDroppingLemmas.{after_remembered, whole_after}
use Rattle.object_letters.proofs.ReachedBankLemmas.{IsRecorded, plain_bank}
use Rattle.object_letters.proofs.ReachedBankLemmas.{get-opened, opened_opening, reached_plain}
use Rattle.object_letters.proofs.RowsOfRequestsLemmas.{restored_if, entry_rows, rows_led, get-entry_rows}

-- The number of finalized tags above a tag depends on no piece

-- rows in a bank that drops every piece
abbrev bare : Table → Bank
bare rows = record { rows = rows; pointer = Unset; delta = None; retired = Some 0 }

count_alike : (rows others : Table)
    → ((t : Tag) → option_map emptied_row (map.get rows t) ≡ option_map emptied_row (map.get others t))
    → (test : Label → Bool) (t : Tag) → count_above test t (map.entries rows) ≡ count_above test t (map.entries others)
count_alike rows others alike test t =
    sym (count-collected (bare rows) test t)
    ∙ ap (λ (b : Bank). count_above test t (map.entries b.rows))
    (collected_is (bare others) (collected (bare rows)).rows (λ s. get-collected (bare rows) s ∙ alike s))
    ∙ count-collected (bare others) test t

final_alike : (o p : Option Row) → option_map emptied_row o ≡ option_map emptied_row p → row_finalized o ≡ row_finalized p
final_alike o p alike = grind arith

-- One row

-- the row that the requests to a row make, but for the piece that is dropped, for any tag but the opening one
restored_recorded : (o : Option Row) → IsRecorded o → (tag : Tag) (drops after : Bool) → (drops ≡ true → after ≡ true)
    → tag_eq tag opening_tag ≡ false
    → option_map (rest after) (restored_if tag (option_map (rest drops) o) None) ≡ option_map (rest after) o
restored_recorded o is tag drops after grows other = grind arith

-- the row of the opening tag stays
restored_opening : (tag : Tag) (drops : Bool) (r : Row) → tag_eq tag opening_tag ≡ true
    → restored_if tag (option_map (rest drops) (Some r)) (Some r) ≡ Some r
restored_opening tag drops r is = cc

-- All rows, with the pointer

module _ (point : ℕ) (delta : Option ℕ) (rows : Table) (s : Status) (recorded : (t : Tag) → IsRecorded (map.get rows t))
    (opening : map.get rows opening_tag ≡ Some (opening_row point 0)) where
  -- the bank before any piece is dropped, and the newly opened one
  abbrev whole : Bank
  whole = plain_bank delta rows s

  abbrev fresh : Bank
  fresh = opened_bank point delta 0

  abbrev left : List (Tag × Row)
  left = map.entries (collected whole).rows

  abbrev led : Bank
  led = record { rows = entry_rows fresh.rows left; pointer = raised Unset s 0; delta = delta; retired = None }

  pointer_led : (t : Status) → uncollected_after fresh (pointer_requests (raised Unset t 0)) ≡ with_pointer fresh (raised Unset t 0)
  pointer_led t = grind arith

  led_is : uncollected_after fresh (requests_to (collected whole)) ≡ led
  led_is = grind (arith, fresh, left, pointer_led, rows_led, uncollected_after, uncollected_append)

  get-led : (t : Tag) → map.get led.rows t
      ≡ restored_if t (option_map (rest (is_dropped whole t)) (map.get rows t)) (map.get fresh.rows t)
  get-led t =
      get-entry_rows fresh.rows left t (t_true (map.is_sorted tag_cmp left) (map.entries_sorted (collected whole).rows))
      ∙ ap (λ o. restored_if t o (map.get fresh.rows t))
      (sym (map.get-entries (collected whole).rows t) ∙ get-collected whole t)

  row_alike : (t : Tag) (after : Bool) → (is_dropped whole t ≡ true → after ≡ true)
      → option_map (rest after) (map.get led.rows t) ≡ option_map (rest after) (map.get rows t)
  row_alike t after grows =
      ap (option_map (rest after)) (get-led t)
      ∙ elim (tag_eq t opening_tag) as (λ c. tag_eq t opening_tag ≡ c
      → option_map (rest after) (restored_if t (option_map (rest (is_dropped whole t)) (map.get rows t)) (map.get fresh.rows t))
      ≡ option_map (rest after) (map.get rows t)) [
        | true ↦ λ is.
            let here : map.get rows t ≡ Some (opening_row point 0) = ap (map.get rows) (tag_eq-true t opening_tag is) ∙ opening in
            let there : map.get fresh.rows t ≡ Some (opening_row point 0) =
            ap (map.get fresh.rows) (tag_eq-true t opening_tag is) ∙ opened_opening point delta in
            ap (option_map (rest after)) (
            ap (λ o. restored_if t (option_map (rest (is_dropped whole t)) (map.get rows t)) o) there
            ∙ ap (λ o. restored_if t (option_map (rest (is_dropped whole t)) o) (Some (opening_row point 0))) here
            ∙ restored_opening t (is_dropped whole t) (opening_row point 0) is
            ∙ sym here)
        | false ↦ λ is.
            ap (λ o. option_map (rest after) (restored_if t (option_map (rest (is_dropped whole t)) (map.get rows t)) o))
            (get-opened point delta t ∙ ap (λ c. cond c (Some (opening_row point 0)) None) is)
            ∙ restored_recorded (map.get rows t) (recorded t) t (is_dropped whole t) after grows is
      ] refl

  dropped_alike : (t : Tag) → is_dropped led t ≡ is_dropped whole t
  dropped_alike t =
      ap (λ o. is_some o && exceeds delta (finals_above led t))
      (final_alike (map.get led.rows t) (map.get rows t) (row_alike t true (λ _. refl)))
      ∙ ap (λ n. is_some (finalized_at whole t) && exceeds delta n)
      (count_alike led.rows rows (λ u. row_alike u true (λ _. refl)) (λ l. is_some (final_step l)) t)

  led_back : collected led ≡ collected whole
  led_back = collected_is whole (collected led).rows (λ t.
      get-collected led t
      ∙ ap (λ d. option_map (rest d) (map.get led.rows t)) (dropped_alike t)
      ∙ row_alike t (is_dropped whole t) (λ dropped. dropped))

-- a newly opened bank after these requests: it drops pieces, and then forgets, once at the end
fresh_late : (point : ℕ) (delta : Option ℕ) (qs : List Request)
    → after_requests (opened_bank point delta 0) qs ≡ remembered (collected (uncollected_after (opened_bank point delta 0) qs))
fresh_late point delta qs =
    let fresh = opened_bank point delta 0 in
    ap (λ (b : Bank). after_requests b qs) (sym (remembered-opened point delta 0))
    ∙ after_remembered fresh qs
    ∙ ap (λ (b : Bank). remembered (whole_after b qs)) (sym (collected_same fresh (opened_collected point delta 0)))
    ∙ ap remembered (after_late fresh qs)

-- the rows that a bank of recorded rows may not forget are recorded, and that of the opening tag is among them
module _ (point : ℕ) (delta : Option ℕ) (rows : Table) (s : Status) (recorded : (t : Tag) → IsRecorded (map.get rows t))
    (opening : map.get rows opening_tag ≡ Some (opening_row point 0)) where
  abbrev left_rows : Table
  left_rows = (remembered (plain_bank delta rows s)).rows

  left_recorded : (t : Tag) → IsRecorded (map.get left_rows t)
  left_recorded t = subst IsRecorded (sym (get-remembered (plain_bank delta rows s) t)) (go (is_forgotten (plain_bank delta rows s) t))
    where
      go : (c : Bool) → IsRecorded (cond c None (map.get rows t))
      go true = tt
      go false = recorded t

  left_opening : map.get left_rows opening_tag ≡ Some (opening_row point 0)
  left_opening =
      get-remembered (plain_bank delta rows s) opening_tag ∙ opening

-- where the bank is reached, the requests to it lead there
pub requests_lead : (point : ℕ) (b : Bank) → IsReachedBank point b → after_requests (opened_bank point b.delta 0) (requests_to b) ≡ b
requests_lead point b reached =
    let o = opened_bank point b.delta 0 in
    let plain = reached_plain point b.delta reached.0 in
    let whole = plain_bank b.delta plain.rows plain.status in
    let rows = left_rows point b.delta plain.rows plain.status plain.recorded plain.opening in
    let recorded = left_recorded point b.delta plain.rows plain.status plain.recorded plain.opening in
    let opening = left_opening point b.delta plain.rows plain.status plain.recorded plain.opening in
    let left = collected (plain_bank b.delta rows plain.status) in
    let kept : remembered (collected whole) ≡ left = remembered-collected whole in
    let is : left ≡ b =
    sym kept ∙ ap (λ (x : Bank). remembered (collected x)) (sym plain.is) ∙ sym (fresh_late point b.delta reached.0) ∙ reached.1 in
    subst (λ (x : Bank). after_requests o (requests_to x) ≡ x) is (
    fresh_late point b.delta (requests_to left)
    ∙ ap (λ (x : Bank). remembered (collected x)) (led_is point b.delta rows plain.status recorded opening)
    ∙ ap remembered (led_back point b.delta rows plain.status recorded opening)
    ∙ ap remembered (sym kept) ∙ remembered_again (collected whole) ∙ kept)

-- Which banks are reached

pub fresh_reached : (point : ℕ) (delta : Option ℕ) → IsReachedBank point (opened_bank point delta 0)
fresh_reached point delta = ([], refl)

-- a request changes no delta
pub delta_stays : (b : Bank) (q : Request) → (bank_after b q).delta ≡ b.delta
delta_stays b q = grind arith

pub served_reached : (point : ℕ) (b : Bank) (q : Request) → IsReachedBank point b → IsReachedBank point (bank_after b q)
served_reached point b q reached = (
  reached.0 ++ q ∷ [],
  ap (λ d. after_requests (opened_bank point d 0) (reached.0 ++ q ∷ [])) (delta_stays b q)
      ∙ after_append (opened_bank point b.delta 0) reached.0 (q ∷ [])
      ∙ ap (λ (b : Bank). bank_after b q) reached.1,
)
