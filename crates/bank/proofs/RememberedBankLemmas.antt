-- What a bank is once it has forgotten what is below its floor.
use Rattle.std.proofs.Common.{◌≡◌, ℕ, ◌≤◌, Bool, true, false, cond, not, ◌&&◌, ◌||◌, [], ◌∷◌, Option, Some, None, is_some}
use Rattle.std.proofs.Common.{option_map, sum_by, sym, ap, ◌∙◌, refl, arith}
use Rattle.std.specs.FinMap as map
use Rattle.std.specs.FinMap.Entries.{where_key}
use Rattle.std.proofs.lemmas.List.Sums.{sum_by-cons}
use Rattle.tag.specs.declared.tag.Tag.{Tag}
use Rattle.tag.specs.Tag.{tag_cmp, tag_eq, opening_tag}
use Rattle.tag.proofs.TagOrderLemmas.{tag_cmp_total, tag_cmp-IsAntisymmetric}
use Rattle.bank.specs.declared.row.Row.{Row}
use Rattle.bank.specs.Bank.{Bank, with_rows, opening_row, opened_bank, piece_of, piece_of_row}
use Rattle.bank.specs.Bytes.{entry_bytes, bank_bytes}
use Rattle.bank.specs.Collect.{emptied_row, kept_row, collected, IsCollected, retired_bank}
use Rattle.bank.specs.Facts.{IsBefore}
use Rattle.bank.specs.Floor.{is_forgotten, remembered}
use Rattle.bank.specs.Knowledge.{since, is_finalized, row_finalized, row_arrived, finalized_at, arrived_at, exceeds, finals_above}
use Rattle.bank.specs.Knowledge.{is_dropped}
use Rattle.bank.proofs.CollectedBankLemmas.{empty-emptied, get-collected, collected_is, count-collected}
use Rattle.bank.proofs.EntryOrderLemmas.{Rows}
use Rattle.bank.proofs.ForgottenCountLemmas.{get-remembered, entries-remembered, exceeds-remembered, is_forgotten-remembered, remembered_is}
use Rattle.bank.proofs.PieceRetentionLemmas.{no_piece}
use Rattle.bank.proofs.RowChangeLemmas.{get-with_row}

module _ (b : Bank) where
  -- the row of a tag that is not forgotten is left
  pub get-kept : (t : Tag) → is_forgotten b t ≡ false → map.get (remembered b).rows t ≡ map.get b.rows t
  get-kept t kept = get-remembered b t ∙ ap (λ f. cond f None (map.get b.rows t)) kept

  -- and that of a forgotten tag is gone
  pub get-forgotten : (t : Tag) → is_forgotten b t ≡ true → map.get (remembered b).rows t ≡ None
  get-forgotten t gone = get-remembered b t ∙ ap (λ f. cond f None (map.get b.rows t)) gone

  -- the opening tag is left as it was
  pub opening-remembered : finalized_at (remembered b) opening_tag ≡ finalized_at b opening_tag
  opening-remembered = ap row_finalized (get-remembered b opening_tag)

  -- what forgets no tag is what it remembers
  pub all_remembered : ((t : Tag) → is_forgotten b t ≡ false) → b ≡ remembered b
  all_remembered kept = remembered_is b b.rows (λ t. sym (ap (λ f. cond f None (map.get b.rows t)) (kept t)))

  -- to forget once more changes nothing
  pub remembered_again : remembered (remembered b) ≡ remembered b
  remembered_again =
      sym (remembered_is (remembered b) (remembered b).rows (λ t. get-remembered b t
      ∙ twice (is_forgotten b t) (map.get b.rows t)
      ∙ sym (ap (λ f. cond f None (map.get (remembered b).rows t)) (is_forgotten-remembered b t)
      ∙ ap (cond (is_forgotten b t) None) (get-remembered b t))))
    where
      twice : (f : Bool) (o : Option Row) → cond f None o ≡ cond f None (cond f None o)
      twice true o = refl
      twice false o = refl

  -- what the remembered bank has recorded, the bank has recorded
  left : {X : Type 0} (g : Option Row → Option X) → g None ≡ None → (t : Tag) (x : X) → g (map.get (remembered b).rows t) ≡ Some x
      → g (map.get b.rows t) ≡ Some x
  left {X = X} g none t x is = pick (is_forgotten b t) (sym (ap g (get-remembered b t)) ∙ is)
    where
      clash : {X : Type 0} (o : Option X) (x : X) → o ≡ None → o ≡ Some x → ⊥
      clash o x none some = cc

      pick : (f : Bool) → g (cond f None (map.get b.rows t)) ≡ Some x → g (map.get b.rows t) ≡ Some x
      pick true is = absurd (clash (g None) x none is)
      pick false is = is

  -- each tag that is left was finalized when it was
  pub finalized_left : (t : Tag) (step : ℕ) → finalized_at (remembered b) t ≡ Some step → finalized_at b t ≡ Some step
  finalized_left t step is = left row_finalized refl t step is

  -- and its piece came when it came
  pub arrived_left : (t : Tag) (step : ℕ) → arrived_at (remembered b) t ≡ Some step → arrived_at b t ≡ Some step
  arrived_left t step is = left row_arrived refl t step is

  -- so it is as early
  pub before-remembered : (now : ℕ) → IsBefore b now → IsBefore (remembered b) now
  before-remembered now before = record {
    finalized = λ t step is. before.finalized t step (finalized_left t step is);
    arrived = λ t step is. before.arrived t step (arrived_left t step is);
    pending = before.pending;
    final = before.final;
    retired = before.retired;
  }

  -- of a tag that is not forgotten the same is dropped
  pub is_dropped-remembered : (t : Tag) → is_forgotten b t ≡ false → is_dropped (remembered b) t ≡ is_dropped b t
  is_dropped-remembered t kept =
      ap (λ o. is_some b.retired || (is_some (row_finalized o) && exceeds b.delta (finals_above (remembered b) t))) (get-kept t kept)
      ∙ ap (λ c. is_some b.retired || (is_some (finalized_at b t) && c)) (exceeds-remembered b t)

  -- just the pieces that are kept are there, where they were
  pub collected_left : IsCollected b → IsCollected (remembered b)
  collected_left is t = pick (is_forgotten b t) refl
    where
      pick : (f : Bool) → is_forgotten b t ≡ f
          → is_some (piece_of (remembered b) t) ≡ (is_some (arrived_at (remembered b) t) && not (is_dropped (remembered b) t))
      pick true gone =
          ap (λ o. is_some (piece_of_row o)) (get-forgotten t gone)
          ∙ sym (ap (λ o. is_some (row_arrived o) && not (is_dropped (remembered b) t)) (get-forgotten t gone))
      pick false kept =
          ap (λ o. is_some (piece_of_row o)) (get-kept t kept) ∙ is t
          ∙ sym (ap (λ o. is_some (row_arrived o) && not (is_dropped (remembered b) t)) (get-kept t kept)
          ∙ ap (λ d. is_some (arrived_at b t) && not d) (is_dropped-remembered t kept))

  -- it has no more bytes
  pub bytes-remembered : bank_bytes (remembered b) ≤ bank_bytes b
  bytes-remembered =
      let entries = ap (sum_by entry_bytes) (entries-remembered b) in
      let less = fewer (λ t. not (is_forgotten b t)) (map.entries b.rows) in
      omega (arith, entries, less)
    where
      fewer : (p : Tag → Bool) (es : Rows) → sum_by entry_bytes (where_key tag_cmp p es) ≤ sum_by entry_bytes es
      fewer p [] = omega arith
      fewer p (e ∷ es) = pick (fewer p es) (p e.0)
        where
          pick : sum_by entry_bytes (where_key tag_cmp p es) ≤ sum_by entry_bytes es → (c : Bool)
              → sum_by entry_bytes (cond c (e ∷ where_key tag_cmp p es) (where_key tag_cmp p es)) ≤ sum_by entry_bytes (e ∷ es)
          pick rest true = omega (arith, rest, sum_by-cons entry_bytes e es, sum_by-cons entry_bytes e (where_key tag_cmp p es))
          pick rest false = omega (arith, rest, sum_by-cons entry_bytes e es)

  -- the same tags are forgotten once pieces are dropped
  pub is_forgotten-collected : (t : Tag) → is_forgotten (collected b) t ≡ is_forgotten b t
  is_forgotten-collected t = ap (λ n. not (tag_eq t opening_tag) && exceeds b.delta n) (count-collected b is_finalized t)

  -- pieces are dropped before as after the bank forgets
  pub remembered-collected : remembered (collected b) ≡ collected (remembered b)
  remembered-collected =
      ap (λ m. with_rows b m) (map.same_map tag_cmp_total tag_cmp-IsAntisymmetric (remembered (collected b)).rows
      (collected (remembered b)).rows (λ t. get-remembered (collected b) t
      ∙ ap (λ f. cond f None (map.get (collected b).rows t)) (is_forgotten-collected t)
      ∙ ap (cond (is_forgotten b t) None) (get-collected b t)
      ∙ pick t (is_forgotten b t) refl
      ∙ sym (get-collected (remembered b) t)))
    where
      pick : (t : Tag) (f : Bool) → is_forgotten b t ≡ f
          → cond f None (option_map (kept_row b t) (map.get b.rows t))
          ≡ option_map (kept_row (remembered b) t) (map.get (remembered b).rows t)
      pick t true gone = sym (ap (option_map (kept_row (remembered b) t)) (get-forgotten t gone))
      pick t false kept =
          sym (ap (option_map (kept_row (remembered b) t)) (get-kept t kept)
          ∙ ap (λ d. option_map (λ (r : Row). cond d (emptied_row r) r) (map.get b.rows t)) (is_dropped-remembered t kept))

  -- a bank with just the pieces that it is to keep drops none
  pub collected_same : IsCollected b → collected b ≡ b
  collected_same is = sym (collected_is b b.rows (λ t. pick t (is_dropped b t) refl))
    where
      all : (o : Option Row) → o ≡ option_map (λ (r : Row). r) o
      all None = refl
      all (Some r) = refl

      pick : (t : Tag) (d : Bool) → is_dropped b t ≡ d
          → map.get b.rows t ≡ option_map (λ (r : Row). cond (is_dropped b t) (emptied_row r) r) (map.get b.rows t)
      pick t true dropped =
          sym (ap (λ d. option_map (λ (r : Row). cond d (emptied_row r) r) (map.get b.rows t)) dropped
          ∙ empty-emptied (map.get b.rows t) (no_piece b is t dropped))
      pick t false kept =
          all (map.get b.rows t) ∙ sym (ap (λ d. option_map (λ (r : Row). cond d (emptied_row r) r) (map.get b.rows t)) kept)

-- a bank retires before as after it forgets
pub remembered-retired : (b : Bank) (now : ℕ) → remembered (retired_bank b now) ≡ retired_bank (remembered b) now
remembered-retired b now =
    remembered-collected (let u : Bank = record { rows = b.rows; pointer = b.pointer; delta = b.delta; retired = since b.retired now } in u)

-- a bank that was just opened forgets nothing
pub remembered-opened : (point : ℕ) (delta : Option ℕ) (now : ℕ)
    → remembered (opened_bank point delta now) ≡ opened_bank point delta now
remembered-opened point delta now =
    sym (remembered_is (opened_bank point delta now) (opened_bank point delta now).rows (λ t. here t (tag_eq t opening_tag) refl))
  where
    found : (t : Tag) → map.get (opened_bank point delta now).rows t
        ≡ cond (tag_eq t opening_tag) (Some (opening_row point now)) (map.get (map.empty {X = Row} {R = tag_cmp}) t)
    found t = get-with_row map.empty opening_tag (λ o. opening_row point now) t

    either : (f : Bool) (o : Option Row) → o ≡ None → o ≡ cond f None o
    either true o none = none
    either false o none = refl

    here : (t : Tag) (c : Bool) → tag_eq t opening_tag ≡ c → map.get (opened_bank point delta now).rows t
        ≡ cond (is_forgotten (opened_bank point delta now) t) None (map.get (opened_bank point delta now).rows t)
    here t true same =
        sym (ap (λ c. cond (not c && exceeds delta (finals_above (opened_bank point delta now) t)) None
        (map.get (opened_bank point delta now).rows t)) same)
    here t false other =
        let none : map.get (opened_bank point delta now).rows t ≡ None =
        found t ∙ ap (λ c. cond c (Some (opening_row point now)) (map.get (map.empty {X = Row} {R = tag_cmp}) t)) other
        ∙ map.get-empty tag_cmp t in
        either (is_forgotten (opened_bank point delta now) t) (map.get (opened_bank point delta now).rows t) none
