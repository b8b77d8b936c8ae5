-- Banks that are in order, and requests that do not change them.
use Rattle.std.proofs.Common.{◌≡◌, ℕ, Bool, true, false, cond, not, ◌&&◌, ◌||◌, Option, Some, None, IsSome, inl, inr}
use Rattle.std.proofs.Common.{Result, Ok, Err, OnOk, OnErr, refl, sym, subst, ap, ◌∙◌, arith}
use Rattle.std.specs.FinMap as map
use Rattle.std.proofs.lemmas.Bool.{false≢true}
use Rattle.std.proofs.lemmas.Bool.Decides.{nat_tests}
use Rattle.tag.specs.declared.tag.Tag.{Tag}
use Rattle.tag.specs.Tag.{later_tag, opening_tag, tag_eq, tag_lt}
use Rattle.tag.proofs.TagOrderLemmas.{opening_least, tag_cmp_total, tag_cmp-IsAntisymmetric, tag_eq-true}
use Rattle.bank.specs.declared.request.Request.{Request}
use Rattle.bank.specs.declared.request.Request.TheVariants as request
use Rattle.bank.specs.declared.row.Label.{Label}
use Rattle.bank.specs.declared.row.Label.TheVariants.{PreWritten, Finalized}
use Rattle.bank.specs.declared.row.Row.{Row}
use Rattle.bank.specs.declared.status.Pointer.{Pointer}
use Rattle.bank.specs.declared.status.Pointer.TheVariants as pointer
use Rattle.bank.specs.declared.status.Status.{Status}
use Rattle.bank.specs.declared.status.Status.TheVariants as status
use Rattle.bank.specs.Bank.{Bank, finalized, finalized_label, opened_bank, row_after_finalize, with_pointer, with_rows}
use Rattle.bank.specs.Collect.{collected}
use Rattle.bank.specs.Floor.{is_forgotten, names_forgotten, remembered}
use Rattle.bank.specs.Knowledge.{exceeds, final_step, finalized_at, finals_above, row_finalized, since, status_le}
use Rattle.bank.specs.Pointer.{raised, status_of}
use Rattle.bank.specs.Serve.{greatest_final, served_bank}
use Rattle.bank.proofs.GreatestTagLemmas.{greatest_final_is, opening-opened}
use Rattle.bank.proofs.MonotoneLemmas.{served_grows}
use Rattle.bank.proofs.FinalizedAboveLemmas.{above_less}
use Rattle.bank.proofs.PieceRetentionLemmas.{alone, opened_collected, served_collected}
use Rattle.bank.proofs.RememberedStepLemmas.{forgotten_unchanged}
use Rattle.bank.proofs.RememberedBankLemmas.{collected_left, collected_same, opening-remembered, remembered_again, remembered-opened}
use Rattle.bank.proofs.RowChangeLemmas.{Comes, get-with_row}
use Rattle.closed_bank.specs.ClosedBank.{ClosedBank}
use Rattle.closed_bank.specs.Serve.{changes_closed, closed_after}
use Rattle.local_object.specs.declared.kept_bank.KeptBank.{KeptBank}
use Rattle.local_object.specs.declared.kept_bank.KeptBank.TheVariants as kept
use Rattle.local_object.specs.ChangedBanks.{bank_after, changes_bank, changes_kept, kept_after, kept_bank}
use Rattle.local_object.specs.Distinct.{IsBankInOrder, IsBankInOrderIfOpen, IsKeptInOrder}
use Rattle.local_object.specs.Local.{bank_or_opened}

-- Banks are in order

pub opened_in_order : (member : ℕ) (delta : Option ℕ) → IsBankInOrder (opened_bank member delta 0)
opened_in_order member delta = record {
  collected = opened_collected member delta 0;
  opening = opening-opened member delta 0;
  remembered = remembered-opened member delta 0;
}

still_there : (old new : Option ℕ) → Comes 0 old new → IsSome old → IsSome new
still_there None new comes some = absurd (false≢true some)
still_there (Some step) new (inl same) some = subst IsSome (sym same) refl
still_there (Some step) new (inr same) some = subst IsSome (sym same) refl

pub served_in_order : (bank : Bank) (asked : Request) → IsBankInOrder bank → IsBankInOrder (bank_after bank asked)
served_in_order bank asked order =
    let served = served_bank bank asked 0 in record {
      collected = collected_left served (served_collected bank asked 0 order.collected);
      opening = subst IsSome (sym (opening-remembered served))
          (still_there (finalized_at bank opening_tag) (finalized_at served opening_tag)
          ((served_grows bank asked 0).finalized opening_tag) order.opening);
      remembered = remembered_again served;
    }

-- a newly opened bank may forget no tag: no tag is finalized above another
pub opened_forgets_none : (member : ℕ) (delta : Option ℕ) (tag : Tag) → is_forgotten (opened_bank member delta 0) tag ≡ false
opened_forgets_none member delta tag =
    let none = alone member delta 0 in
    let less = above_less opening_tag tag (opening_least tag) (map.entries (opened_bank member delta 0).rows) in
    let zero : finals_above (opened_bank member delta 0) tag ≡ 0 = omega (arith, none, less) in
    ap (λ n. not (tag_eq tag opening_tag) && exceeds delta n) zero ∙ never delta (not (tag_eq tag opening_tag))
  where
    never : (o : Option ℕ) (b : Bool) → (b && exceeds o 0) ≡ false
    never o b = grind arith

-- What does not change a bank

unraised : (p : Pointer) (s : Status) → not (status_le s (status_of p)) ≡ false → raised p s 0 ≡ p
unraised pointer.Unset status.Unset e = refl
unraised pointer.Unset status.Pending e = absurd (cc)
unraised pointer.Unset status.Final e = absurd (cc)
unraised (pointer.Pending since) status.Unset e = refl
unraised (pointer.Pending since) status.Pending e = refl
unraised (pointer.Pending since) status.Final e = absurd (cc)
unraised (pointer.Final pending since) status.Unset e = refl
unraised (pointer.Final pending since) status.Pending e = refl
unraised (pointer.Final pending since) status.Final e = refl

final_label : (l : Label) → IsSome (final_step l) → finalized_label l 0 ≡ l
final_label (PreWritten since) final = absurd (false≢true final)
final_label (Finalized since) final = refl

final_row : (o : Option Row) → IsSome (row_finalized o) → Some (row_after_finalize o 0) ≡ o
final_row None final = absurd (false≢true final)
final_row (Some r) final =
    ap (λ l. let o : Row = record { label = l; arrival = r.arrival } in Some o) (final_label r.label final)

-- to finalize what is final changes no row
finalized_again : (bank : Bank) (tag : Tag) → IsSome (finalized_at bank tag) → finalized bank tag 0 ≡ bank
finalized_again bank tag final =
    ap (with_rows bank)
    (map.same_map tag_cmp_total tag_cmp-IsAntisymmetric
    (map.insert bank.rows tag (row_after_finalize (map.get bank.rows tag) 0)) bank.rows
    (λ t. get-with_row bank.rows tag (λ o. row_after_finalize o 0) t ∙ go t (tag_eq t tag) refl))
  where
    go : (t : Tag) (b : Bool) → tag_eq t tag ≡ b
        → cond b (Some (row_after_finalize (map.get bank.rows tag) 0)) (map.get bank.rows t) ≡ map.get bank.rows t
    go t true same =
        final_row (map.get bank.rows tag) final ∙ ap (map.get bank.rows) (sym (tag_eq-true t tag same))
    go t false other = refl

not_false : (b : Bool) → not b ≡ false → b ≡ true
not_false true e = refl
not_false false e = absurd (cc)

finalize_again : (bank : Bank) (tag : Tag) → IsBankInOrder bank → tag_eq (greatest_final bank) tag ≡ true
    → collected (finalized bank tag 0) ≡ bank
finalize_again bank tag order e =
    let same = tag_eq-true (greatest_final bank) tag e in
    let final = subst (λ t. IsSome (finalized_at bank t)) same (greatest_final_is bank order.opening).final in
    ap collected (finalized_again bank tag final) ∙ collected_same bank order.collected

-- a bank that has no row to forget, and served a request that names a tag which it may forget
forgets_again : (bank : Bank) (asked : Request) → IsBankInOrder bank → names_forgotten bank asked ≡ true
    → bank_after bank asked ≡ bank
forgets_again bank asked order forgotten =
    ap (λ b. bank_after b asked) (sym order.remembered) ∙ forgotten_unchanged bank asked 0 order.collected forgotten
    ∙ order.remembered

-- either the tag is the greatest final one, or it is forgotten
final_again : (bank : Bank) (asked : Request) (tag : Tag) → IsBankInOrder bank
    → served_bank bank asked 0 ≡ collected (finalized bank tag 0)
    → (final forgotten : Bool) → tag_eq (greatest_final bank) tag ≡ final → names_forgotten bank asked ≡ forgotten
    → not (final || forgotten) ≡ false → bank_after bank asked ≡ bank
final_again bank asked tag order is true forgotten e f n =
    ap remembered (is ∙ finalize_again bank tag order e) ∙ order.remembered
final_again bank asked tag order is false true e f n = forgets_again bank asked order f
final_again bank asked tag order is false false e f n = absurd (cc)

pub unchanged_bank : (bank : Bank) (asked : Request) → IsBankInOrder bank → changes_bank bank asked ≡ false
    → bank_after bank asked ≡ bank
unchanged_bank bank request.Next order e = order.remembered
unchanged_bank bank (request.Spread status) order e =
    ap (λ p. remembered (with_pointer bank p)) (unraised bank.pointer status e) ∙ order.remembered
unchanged_bank bank request.Query order e = order.remembered
unchanged_bank bank (request.PreWrite tag piece) order e =
    forgets_again bank (request.PreWrite tag piece) order (not_false (is_forgotten bank tag) e)
unchanged_bank bank (request.Finalize tag) order e =
    final_again bank (request.Finalize tag) tag order refl (tag_eq (greatest_final bank) tag) (is_forgotten bank tag) refl refl e
unchanged_bank bank (request.Fetch tag) order e =
    final_again bank (request.Fetch tag) tag order refl (tag_eq (greatest_final bank) tag) (is_forgotten bank tag) refl refl e

-- a closed bank that a request does not change
unchanged_closed : (closed : ClosedBank) (asked : Request) → changes_closed closed asked ≡ false → closed_after closed asked ≡ closed
unchanged_closed closed request.Next e = refl
unchanged_closed closed (request.Spread status) e = refl
unchanged_closed closed request.Query e = refl
unchanged_closed closed (request.PreWrite tag piece) e = refl
unchanged_closed closed (request.Finalize tag) e =
    ap (λ g. let c : ClosedBank = record { greatest = g } in c) (not_later closed.greatest tag e)
  where
    not_later : (s t : Tag) → tag_lt s t ≡ false → later_tag s t ≡ s
    not_later s t e = grind (arith, nat_tests)
unchanged_closed closed (request.Fetch tag) e = refl

-- The bank that is kept after a request

unchanged_kept : (bank : KeptBank) (asked : Request) → IsKeptInOrder bank → changes_kept bank asked ≡ false → kept_after bank asked ≡ bank
unchanged_kept (kept.Open bank) asked order e = ap kept.Open (unchanged_bank bank asked order e)
unchanged_kept (kept.Closed closed) asked order e = ap kept.Closed (unchanged_closed closed asked e)

-- it is the bank that served the request, also where it is not there, and counts as a newly opened one
pub kept_served : (bank : Option KeptBank) (member : ℕ) (delta : Option ℕ) (asked : Request)
    → bank_or_opened (kept_bank bank member delta asked) member delta ≡ kept_after (bank_or_opened bank member delta) asked
kept_served (Some bank) member delta asked = refl
kept_served None member delta asked = go (changes_bank opened asked) refl
  where
    opened : Bank
    opened = opened_bank member delta 0

    go : (b : Bool) → changes_bank opened asked ≡ b
        → bank_or_opened (cond b (Some (kept.Open (bank_after opened asked))) None) member delta ≡ kept.Open (bank_after opened asked)
    go true e = refl
    go false e = ap kept.Open (sym (unchanged_bank opened asked (opened_in_order member delta) e))

-- a request that does not change the bank leaves it as it is, and opens none
pub kept_unchanged : (bank : Option KeptBank) (member : ℕ) (delta : Option ℕ) (asked : Request) → IsBankInOrderIfOpen bank
    → changes_kept (bank_or_opened bank member delta) asked ≡ false → kept_bank bank member delta asked ≡ bank
kept_unchanged None member delta asked order e =
    ap (λ b. cond b (Some (kept.Open (bank_after (opened_bank member delta 0) asked))) None) e
kept_unchanged (Some bank) member delta asked order e = ap Some (unchanged_kept bank asked order e)

-- a bank that a request opened is in order, if it is kept
pub kept_opened_in_order : (member : ℕ) (delta : Option ℕ) (asked : Request) → IsBankInOrderIfOpen (kept_bank None member delta asked)
kept_opened_in_order member delta asked = go (changes_bank (opened_bank member delta 0) asked)
  where
    go : (b : Bool) → IsBankInOrderIfOpen (cond b (Some (kept.Open (bank_after (opened_bank member delta 0) asked))) None)
    go true = served_in_order (opened_bank member delta 0) asked (opened_in_order member delta)
    go false = tt

-- a bank that served a request, or was refused
pub kept_in_order : {X E : Type 0} (r : Result X E) (old new : KeptBank) (asked : Request) → IsKeptInOrder old
    → OnOk r (new ≡ kept_after old asked) → OnErr r (new ≡ old) → IsKeptInOrder new
kept_in_order (Ok x) old new asked order served same = subst IsKeptInOrder (sym served) (after old asked order)
  where
    after : (bank : KeptBank) (asked : Request) → IsKeptInOrder bank → IsKeptInOrder (kept_after bank asked)
    after (kept.Open bank) asked order = served_in_order bank asked order
    after (kept.Closed closed) asked order = tt
kept_in_order (Err e) old new asked order served same = subst IsKeptInOrder (sym same) order
