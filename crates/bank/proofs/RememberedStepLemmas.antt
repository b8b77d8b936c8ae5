-- A bank that has forgotten what is below its floor goes on as the whole bank.
use Rattle.std.proofs.Common.{◌≡◌, ℕ, ◌+◌, ◌≤◌, ◌⊎◌, inl, inr, min, Bool, true, false, cond, not, ◌&&◌, Option, Some, None, is_some, sym}
use Rattle.std.proofs.Common.{ap, ◌∙◌, refl, arith}
use Rattle.std.specs.Prelude.{nat_le}
use Rattle.std.specs.FinMap as map
use Rattle.std.proofs.lemmas.Bool.{and_parts}
use Rattle.std.proofs.lemmas.Bool.Decides.{nat_tests}
use Rattle.tag.specs.declared.tag.Tag.{Tag}
use Rattle.tag.specs.Tag.{tag_eq, tag_lt, opening_tag}
use Rattle.tag.proofs.TagOrderLemmas.{tag_cmp_total, tag_cmp-IsAntisymmetric, tag_eq-true}
use Rattle.piece.specs.declared.piece.Piece.{Piece}
use Rattle.bank.specs.declared.row.Row.{Row}
use Rattle.bank.specs.declared.request.Request.{Request}
use Rattle.bank.specs.declared.request.Request.TheVariants as request
use Rattle.bank.specs.Bank.{Bank, with_rows, with_pointer, row_after_pre_write, row_after_finalize, pre_written, finalized}
use Rattle.bank.specs.Collect.{collected, IsCollected}
use Rattle.bank.specs.Floor.{is_forgotten, remembered, names_forgotten}
use Rattle.bank.specs.Knowledge.{row_finalized, finalized_at, exceeds, finals_above}
use Rattle.bank.specs.Pointer.{raised}
use Rattle.bank.specs.Serve.{served_bank}
use Rattle.bank.proofs.EntryCountLemmas.{one_if}
use Rattle.bank.proofs.FinalizedAboveLemmas.{lt-not, above_less}
use Rattle.bank.proofs.ForgottenCountLemmas.{get-remembered, finals-remembered, is_forgotten-remembered}
use Rattle.bank.proofs.RememberedBankLemmas.{get-kept, get-forgotten, remembered_again, is_forgotten-collected}
use Rattle.bank.proofs.RememberedBankLemmas.{remembered-collected, collected_same}
use Rattle.bank.proofs.RowChangeLemmas.{with_row, get-with_row, finals-finalized, finals-pre_written}

-- The row of one tag changes

module _ (b : Bank) (tag : Tag) (f : Option Row → Row) where
  -- the bank with what f makes of the tag's row
  abbrev changed : Bank → Bank
  changed a = with_rows a (with_row a.rows tag f)

  -- the row of each tag then
  found : (a : Bank) (t : Tag)
      → map.get (changed a).rows t ≡ cond (tag_eq t tag) (Some (f (map.get a.rows tag))) (map.get a.rows t)
  found a t = get-with_row a.rows tag f t

  -- where both forget the same, and the floor does not fall, both remember the same
  remembered-changed : ((t : Tag) → is_forgotten (changed (remembered b)) t ≡ is_forgotten (changed b) t)
      → ((t : Tag) → is_forgotten (changed b) t ≡ false → is_forgotten b t ≡ false)
      → remembered (changed (remembered b)) ≡ remembered (changed b)
  remembered-changed same grows =
      ap (λ m. with_rows b m) (map.same_map tag_cmp_total tag_cmp-IsAntisymmetric (remembered (changed (remembered b))).rows
      (remembered (changed b)).rows (λ t. get-remembered (changed (remembered b)) t
      ∙ ap (λ g. cond g None (map.get (changed (remembered b)).rows t)) (same t)
      ∙ pick t (is_forgotten (changed b) t) refl ∙ sym (get-remembered (changed b) t)))
    where
      here : (t : Tag) → is_forgotten b t ≡ false → (c : Bool) → tag_eq t tag ≡ c
          → cond c (Some (f (map.get (remembered b).rows tag))) (map.get (remembered b).rows t)
          ≡ cond c (Some (f (map.get b.rows tag))) (map.get b.rows t)
      here t kept true is =
          ap (λ o. Some (f o)) (get-kept b tag (ap (is_forgotten b) (sym (tag_eq-true t tag is)) ∙ kept))
      here t kept false is = get-kept b t kept

      pick : (t : Tag) (g : Bool) → is_forgotten (changed b) t ≡ g
          → cond g None (map.get (changed (remembered b)).rows t) ≡ cond g None (map.get (changed b).rows t)
      pick t true gone = refl
      pick t false stays =
          found (remembered b) t ∙ here t (grows t stays) (tag_eq t tag) refl ∙ sym (found b t)

  -- where the tag is below the floor, and the floor stays, nothing of it is remembered
  unchanged : is_forgotten b tag ≡ true → ((t : Tag) → is_forgotten (changed (remembered b)) t ≡ is_forgotten b t)
      → remembered (changed (remembered b)) ≡ remembered b
  unchanged below same =
      ap (λ m. with_rows b m) (map.same_map tag_cmp_total tag_cmp-IsAntisymmetric (remembered (changed (remembered b))).rows
      (remembered b).rows (λ t. get-remembered (changed (remembered b)) t
      ∙ ap (λ g. cond g None (map.get (changed (remembered b)).rows t)) (same t)
      ∙ pick t (is_forgotten b t) refl))
    where
      clash : true ≡ false → ⊥
      clash e = cc

      here : (t : Tag) → is_forgotten b t ≡ false → (c : Bool) → tag_eq t tag ≡ c
          → cond c (Some (f (map.get (remembered b).rows tag))) (map.get (remembered b).rows t) ≡ map.get (remembered b).rows t
      here t kept true is = absurd (clash (sym below ∙ ap (is_forgotten b) (sym (tag_eq-true t tag is)) ∙ kept))
      here t kept false is = refl

      pick : (t : Tag) (g : Bool) → is_forgotten b t ≡ g
          → cond g None (map.get (changed (remembered b)).rows t) ≡ map.get (remembered b).rows t
      pick t true gone = sym (get-forgotten b t gone)
      pick t false kept = found (remembered b) t ∙ here t kept (tag_eq t tag) refl

-- Counts after a tag is finalized

-- whether d + 1 or more are above a tag, where up to d + 1 were counted before
same_exceeds : (d n all few known left adds : ℕ) → all + known ≡ adds + n → few + left ≡ adds + min (d + 1) n → known ≤ adds
    → left ≤ adds → (known ≡ left) ⊎ ((adds ≡ 0) ⊎ (d + 1 ≤ n)) → nat_le (d + 1) few ≡ nat_le (d + 1) all
same_exceeds d n all few known left adds alls fews at_most left_at_most which = grind (arith, nat_tests)

-- and whether they are above it where they were before
still_exceeds : (d n few left adds : ℕ) → few + left ≡ adds + min (d + 1) n → left ≤ adds → (adds ≡ 0) ⊎ (d + 1 ≤ n)
    → nat_le (d + 1) few ≡ nat_le (d + 1) n
still_exceeds d n few left adds fews at_most which = grind (arith, nat_tests)

-- a tag that was finalized before adds nothing to the count
at_most : (c k : Bool) → one_if (c && k) ≤ one_if c
at_most c k = grind arith

module _ (b : Bank) (tag : Tag) (now : ℕ) where
  -- above a tag below a forgotten one are more than delta
  full_above : (d : ℕ) → b.delta ≡ Some d → is_forgotten b tag ≡ true → (t : Tag)
      → (one_if (tag_lt t tag) ≡ 0) ⊎ (d + 1 ≤ finals_above b t)
  full_above d is below t = pick (tag_lt t tag) refl
    where
      enough : nat_le (d + 1) (finals_above b tag) ≡ true
      enough = ap (λ o. exceeds o (finals_above b tag)) (sym is)
          ∙ (and_parts (not (tag_eq tag opening_tag)) (exceeds b.delta (finals_above b tag)) below).1

      reaches : (m n : ℕ) → nat_le (d + 1) m ≡ true → m ≤ n → d + 1 ≤ n
      reaches m n holds more = grind (arith, nat_tests)

      pick : (c : Bool) → tag_lt t tag ≡ c → (one_if c ≡ 0) ⊎ (d + 1 ≤ finals_above b t)
      pick true less =
          inr (reaches (finals_above b tag) (finals_above b t) enough (above_less t tag (lt-not t tag less) (map.entries b.rows)))
      pick false less = inl refl

  -- once the tag is finalized, more than delta are above the same tags in both banks
  exceeds-finalized : (t : Tag) → exceeds b.delta (finals_above (finalized (remembered b) tag now) t)
      ≡ exceeds b.delta (finals_above (finalized b tag now) t)
  exceeds-finalized t = cases b.delta refl
    where
      which : (d : ℕ) → b.delta ≡ Some d → (g : Bool) → is_forgotten b tag ≡ g
          → (one_if (tag_lt t tag && is_some (finalized_at b tag)) ≡ one_if (tag_lt t tag && is_some (finalized_at (remembered b) tag)))
          ⊎ ((one_if (tag_lt t tag) ≡ 0) ⊎ (d + 1 ≤ finals_above b t))
      which d is true below = inr (full_above d is below t)
      which d is false kept = inl (ap (λ o. one_if (tag_lt t tag && is_some (row_finalized o))) (sym (get-kept b tag kept)))

      cases : (o : Option ℕ) → b.delta ≡ o
          → exceeds o (finals_above (finalized (remembered b) tag now) t) ≡ exceeds o (finals_above (finalized b tag now) t)
      cases None is = refl
      cases (Some d) is =
          same_exceeds d (finals_above b t) (finals_above (finalized b tag now) t) (finals_above (finalized (remembered b) tag now) t)
          (one_if (tag_lt t tag && is_some (finalized_at b tag))) (one_if (tag_lt t tag && is_some (finalized_at (remembered b) tag)))
          (one_if (tag_lt t tag)) (finals-finalized b tag now t)
          (finals-finalized (remembered b) tag now t ∙ ap (λ n. one_if (tag_lt t tag) + n) (finals-remembered b d is t))
          (at_most (tag_lt t tag) (is_some (finalized_at b tag)))
          (at_most (tag_lt t tag) (is_some (finalized_at (remembered b) tag)))
          (which d is (is_forgotten b tag) refl)

  -- and above the same as before where the tag was forgotten
  exceeds-below : is_forgotten b tag ≡ true → (t : Tag)
      → exceeds b.delta (finals_above (finalized (remembered b) tag now) t) ≡ exceeds b.delta (finals_above b t)
  exceeds-below below t = cases b.delta refl
    where
      cases : (o : Option ℕ) → b.delta ≡ o
          → exceeds o (finals_above (finalized (remembered b) tag now) t) ≡ exceeds o (finals_above b t)
      cases None is = refl
      cases (Some d) is =
          still_exceeds d (finals_above b t) (finals_above (finalized (remembered b) tag now) t)
          (one_if (tag_lt t tag && is_some (finalized_at (remembered b) tag))) (one_if (tag_lt t tag))
          (finals-finalized (remembered b) tag now t ∙ ap (λ n. one_if (tag_lt t tag) + n) (finals-remembered b d is t))
          (at_most (tag_lt t tag) (is_some (finalized_at (remembered b) tag))) (full_above d is below t)

  -- what is not forgotten then was not forgotten before
  floor_grows : (t : Tag) → is_forgotten (finalized b tag now) t ≡ false → is_forgotten b t ≡ false
  floor_grows t stays =
      not_less b.delta (not (tag_eq t opening_tag)) (finals_above b t) (finals_above (finalized b tag now) t)
      (let all = finals-finalized b tag now t in let few = at_most (tag_lt t tag) (is_some (finalized_at b tag)) in omega (arith, all, few))
      stays
    where
      not_less : (delta : Option ℕ) (c : Bool) (few many : ℕ) → few ≤ many → (c && exceeds delta many) ≡ false
          → (c && exceeds delta few) ≡ false
      not_less delta c few many more stays = grind (arith, nat_tests)

  -- so what is forgotten before is forgotten then
  finalized_stays : (t : Tag) → is_forgotten b t ≡ true → is_forgotten (finalized b tag now) t ≡ true
  finalized_stays t gone = pick (is_forgotten (finalized b tag now) t) (floor_grows t)
    where
      pick : (f : Bool) → (f ≡ false → is_forgotten b t ≡ false) → f ≡ true
      pick true grows = refl
      pick false grows = sym (grows refl) ∙ gone

-- Requests

module _ (b : Bank) (tag : Tag) (now : ℕ) where
  -- after a request to finalize a tag both remember the same
  remembered-finalized : remembered (finalized (remembered b) tag now) ≡ remembered (finalized b tag now)
  remembered-finalized = remembered-changed b tag (λ o. row_after_finalize o now)
      (λ t. ap (λ c. not (tag_eq t opening_tag) && c) (exceeds-finalized b tag now t)) (floor_grows b tag now)

  -- a request to pre-write a tag changes nothing of what is forgotten
  forgotten-pre_written : (a : Bank) (p : Piece) (t : Tag) → is_forgotten (pre_written a tag p now) t ≡ is_forgotten a t
  forgotten-pre_written a p t = ap (λ n. not (tag_eq t opening_tag) && exceeds a.delta n) (finals-pre_written a tag now t p)

  -- so after it both remember the same
  remembered-pre_written : (p : Piece) → remembered (pre_written (remembered b) tag p now) ≡ remembered (pre_written b tag p now)
  remembered-pre_written p = remembered-changed b tag (λ o. row_after_pre_write o p now)
      (λ t. forgotten-pre_written (remembered b) p t ∙ is_forgotten-remembered b t ∙ sym (forgotten-pre_written b p t))
      (λ t stays. sym (forgotten-pre_written b p t) ∙ stays)

  -- to finalize a forgotten tag changes nothing that is remembered
  finalized-forgotten : is_forgotten b tag ≡ true → remembered (finalized (remembered b) tag now) ≡ remembered b
  finalized-forgotten below = unchanged b tag (λ o. row_after_finalize o now) below
      (λ t. ap (λ c. not (tag_eq t opening_tag) && c) (exceeds-below b tag now below t))

  -- and neither does it to pre-write one
  pre_written-forgotten : (p : Piece) → is_forgotten b tag ≡ true → remembered (pre_written (remembered b) tag p now) ≡ remembered b
  pre_written-forgotten p below = unchanged b tag (λ o. row_after_pre_write o p now) below
      (λ t. forgotten-pre_written (remembered b) p t ∙ is_forgotten-remembered b t)

-- what is forgotten stays so
pub forgotten_stays : (b : Bank) (q : Request) (now : ℕ) (t : Tag) → is_forgotten b t ≡ true → is_forgotten (served_bank b q now) t ≡ true
forgotten_stays b request.Next now t gone = gone
forgotten_stays b (request.Spread s) now t gone = gone
forgotten_stays b request.Query now t gone = gone
forgotten_stays b (request.PreWrite tag p) now t gone =
    is_forgotten-collected (pre_written b tag p now) t ∙ forgotten-pre_written b tag now b p t ∙ gone
forgotten_stays b (request.Finalize tag) now t gone =
    is_forgotten-collected (finalized b tag now) t ∙ finalized_stays b tag now t gone
forgotten_stays b (request.Fetch tag) now t gone =
    is_forgotten-collected (finalized b tag now) t ∙ finalized_stays b tag now t gone

-- where two banks remember the same, they do so once pieces are dropped too
dropped_same : (u v : Bank) → remembered u ≡ remembered v → remembered (collected u) ≡ remembered (collected v)
dropped_same u v same = remembered-collected u ∙ ap collected same ∙ sym (remembered-collected v)

-- after a request both remember the same
pub remembered-served : (b : Bank) (q : Request) (now : ℕ)
    → remembered (served_bank (remembered b) q now) ≡ remembered (served_bank b q now)
remembered-served b request.Next now = remembered_again b
remembered-served b (request.Spread s) now = ap (λ a. with_pointer a (raised b.pointer s now)) (remembered_again b)
remembered-served b request.Query now = remembered_again b
remembered-served b (request.PreWrite t p) now =
    dropped_same (pre_written (remembered b) t p now) (pre_written b t p now) (remembered-pre_written b t now p)
remembered-served b (request.Finalize t) now =
    dropped_same (finalized (remembered b) t now) (finalized b t now) (remembered-finalized b t now)
remembered-served b (request.Fetch t) now =
    dropped_same (finalized (remembered b) t now) (finalized b t now) (remembered-finalized b t now)

-- a request that names a forgotten tag changes nothing but what is dropped
pub forgotten_served : (b : Bank) (q : Request) (now : ℕ) → names_forgotten b q ≡ true
    → remembered (served_bank (remembered b) q now) ≡ collected (remembered b)
forgotten_served b request.Next now is = absurd (cc)
forgotten_served b (request.Spread s) now is = absurd (cc)
forgotten_served b request.Query now is = absurd (cc)
forgotten_served b (request.PreWrite t p) now is =
    remembered-collected (pre_written (remembered b) t p now) ∙ ap collected (pre_written-forgotten b t now p is)
forgotten_served b (request.Finalize t) now is =
    remembered-collected (finalized (remembered b) t now) ∙ ap collected (finalized-forgotten b t now is)
forgotten_served b (request.Fetch t) now is =
    remembered-collected (finalized (remembered b) t now) ∙ ap collected (finalized-forgotten b t now is)

-- and nothing at all where the bank has just the pieces that it is to keep
pub forgotten_unchanged : (b : Bank) (q : Request) (now : ℕ) → IsCollected b → names_forgotten b q ≡ true
    → remembered (served_bank (remembered b) q now) ≡ remembered b
forgotten_unchanged b q now kept is =
    forgotten_served b q now is ∙ sym (remembered-collected b) ∙ ap remembered (collected_same b kept)
