-- A bank answers as before once it has forgotten what is below its floor.
use Rattle.std.proofs.Common.{◌≡◌, ℕ, suc, ◌<◌, ◌≤◌, Bool, true, false, cond, not, ◌&&◌, ◌||◌, [], ◌∷◌, length, get_or, Option, Some, None}
use Rattle.std.proofs.Common.{is_some, sym, ap, ◌∙◌, refl, arith}
use Rattle.std.specs.FinMap as map
use Rattle.std.specs.FinMap.Entries.{below_all, where_key}
use Rattle.std.proofs.lemmas.Bool.{and_parts}
use Rattle.std.proofs.lemmas.Bool.Decides.{nat_tests}
use Rattle.tag.specs.declared.tag.Tag.{Tag}
use Rattle.tag.specs.Tag.{tag_cmp, tag_lt, tag_eq, opening_tag}
use Rattle.piece.specs.declared.piece.Piece.{Piece}
use Rattle.bank.specs.declared.row.Row.{Row}
use Rattle.bank.specs.declared.request.Request.{Request}
use Rattle.bank.specs.declared.request.Request.TheVariants as request
use Rattle.bank.specs.declared.reply.Answer.TheVariants as answer
use Rattle.bank.specs.declared.reply.Reply.{Reply}
use Rattle.bank.specs.Bank.{Bank, piece_of, piece_of_row}
use Rattle.bank.specs.Collect.{is_outside, fetched_piece}
use Rattle.bank.specs.Floor.{is_forgotten, remembered}
use Rattle.bank.specs.Knowledge.{is_finalized, exceeds, finals_above}
use Rattle.bank.specs.Serve.{greatest_among, greatest_final, answer_to, reply_to}
use Rattle.bank.proofs.EntryCountLemmas.{one_if}
use Rattle.bank.proofs.EntryOrderLemmas.{Rows, t_true, below_at}
use Rattle.bank.proofs.FinalizedAboveLemmas.{lt-same, lt-not, above}
use Rattle.bank.proofs.ForgottenCountLemmas.{above_rest, get-remembered, entries-remembered, is_outside-remembered}

-- The greatest finalized tag

-- what is below the first of two tags is below the later one
lt-later : (x s t : Tag) → tag_lt x s ≡ true → tag_lt x (cond (tag_lt s t) t s) ≡ true
lt-later x s t less = elim (tag_lt s t) as (λ c. tag_lt s t ≡ c → tag_lt x (cond c t s) ≡ true) [
  | true ↦ λ more. grind (arith, nat_tests)
  | false ↦ λ _. less
] refl

-- and so is what is below the second
lt-later-second : (x s t : Tag) → tag_lt x t ≡ true → tag_lt x (cond (tag_lt s t) t s) ≡ true
lt-later-second x s t less = elim (tag_lt s t) as (λ c. tag_lt s t ≡ c → tag_lt x (cond c t s) ≡ true) [
  | true ↦ λ _. less
  | false ↦ λ least. grind (arith, nat_tests)
] refl

-- a tag with a finalized one above it is below the greatest of them
greatest_above : (x : Tag) (es : Rows) → 1 ≤ above x es → tag_lt x (greatest_among es) ≡ true
greatest_above x [] some = absurd (omega arith)
greatest_above x (e ∷ es) some = pick (greatest_above x es) (tag_lt x e.0) refl (is_finalized e.1.label) refl
  where
    rest_some : (tag_lt x e.0 && is_finalized e.1.label) ≡ false → 1 ≤ above x es
    rest_some is = let none : one_if (tag_lt x e.0 && is_finalized e.1.label) ≡ 0 = ap one_if is in omega (arith, some, none)

    pick : (1 ≤ above x es → tag_lt x (greatest_among es) ≡ true) → (less : Bool) → tag_lt x e.0 ≡ less → (f : Bool)
        → is_finalized e.1.label ≡ f
        → tag_lt x (cond f (cond (tag_lt (greatest_among es) e.0) e.0 (greatest_among es)) (greatest_among es)) ≡ true
    pick rest true less true final = lt-later-second x (greatest_among es) e.0 less
    pick rest false less true final =
        lt-later x (greatest_among es) e.0 (rest (rest_some (ap (λ c. c && is_finalized e.1.label) less)))
    pick rest c less false final = rest (rest_some (ap (λ f. tag_lt x e.0 && f) final ∙ and_false (tag_lt x e.0)))
      where
        and_false : (c : Bool) → (c && false) ≡ false
        and_false c = grind arith

module _ (p : Tag → Bool) where
  -- the test keeps each tag that no finalized one is above
  abbrev KeepsGreatest : Rows → Type 0
  KeepsGreatest es = (k : ℕ) → k < length es → (x : Tag × Row) → above (get_or es k x).0 es ≡ 0 → p (get_or es k x).0 ≡ true

  -- so the greatest finalized tag stays
  greatest_kept : (es : Rows) → map.is_sorted tag_cmp es ≡ true → KeepsGreatest es
      → greatest_among (where_key tag_cmp p es) ≡ greatest_among es
  greatest_kept [] sorted keeps = refl
  greatest_kept (e ∷ es) sorted keeps =
      pick (greatest_kept es parts.1 (λ k within x none. keeps (suc k) (omega arith) x (above_rest (get_or es k x).0 e es
      (lt-not e.0 (get_or es k x).0 (below_at e.0 es k x parts.0 within)) ∙ none))) (p e.0) refl
    where
      parts : (below_all tag_cmp e.0 es ≡ true) × (map.is_sorted tag_cmp es ≡ true)
      parts = and_parts (below_all tag_cmp e.0 es) (map.is_sorted tag_cmp es) sorted

      fs : Rows
      fs = where_key tag_cmp p es

      clash : true ≡ false → ⊥
      clash e = cc

      some : (n : ℕ) → (n ≡ 0 → ⊥) → 1 ≤ n
      some n apart = omega arith

      same : (f : Bool) → tag_lt (greatest_among es) e.0 ≡ false
          → greatest_among es ≡ cond f (cond (tag_lt (greatest_among es) e.0) e.0 (greatest_among es)) (greatest_among es)
      same true least = sym (ap (λ c. cond c e.0 (greatest_among es)) least)
      same false least = refl

      pick : greatest_among fs ≡ greatest_among es → (c : Bool) → p e.0 ≡ c
          → greatest_among (cond c (e ∷ fs) fs) ≡ greatest_among (e ∷ es)
      pick rest true is =
          ap (λ (g : Tag). cond (is_finalized e.1.label) (cond (tag_lt g e.0) e.0 g) g) rest
      pick rest false is =
          rest ∙ same (is_finalized e.1.label) (lt-not e.0 (greatest_among es) (greatest_above e.0 es (some (above e.0 es) (λ none.
          clash (sym (keeps 0 (omega arith) e (above_rest e.0 e es (lt-same e.0) ∙ none)) ∙ is)))))

-- where none is above, no delta is exceeded
none_exceeds : (delta : Option ℕ) (n : ℕ) (c : Bool) → n ≡ 0 → not (c && exceeds delta n) ≡ true
none_exceeds delta n c none = grind arith

module _ (b : Bank) where
  -- the greatest finalized tag is not forgotten
  pub greatest-remembered : greatest_final (remembered b) ≡ greatest_final b
  greatest-remembered =
      ap greatest_among (entries-remembered b)
      ∙ greatest_kept (λ t. not (is_forgotten b t)) (map.entries b.rows)
      (t_true (map.is_sorted tag_cmp (map.entries b.rows)) (map.entries_sorted b.rows))
      (λ k within x. none_exceeds b.delta (finals_above b (get_or (map.entries b.rows) k x).0)
      (not (tag_eq (get_or (map.entries b.rows) k x).0 opening_tag)))

  -- the piece of a tag, unless the tag is forgotten
  pub piece_of-remembered : (t : Tag) → piece_of (remembered b) t ≡ cond (is_forgotten b t) None (piece_of b t)
  piece_of-remembered t = ap piece_of_row (get-remembered b t) ∙ pick (is_forgotten b t)
    where
      pick : (f : Bool) → piece_of_row (cond f None (map.get b.rows t)) ≡ cond f None (piece_of b t)
      pick true = refl
      pick false = refl

  -- a piece that is left is the one that was there
  pub piece_left : (t : Tag) (p : Piece) → piece_of (remembered b) t ≡ Some p → piece_of b t ≡ Some p
  piece_left t p is = pick (is_forgotten b t) (sym (piece_of-remembered t) ∙ is)
    where
      pick : (f : Bool) → cond f None (piece_of b t) ≡ Some p → piece_of b t ≡ Some p
      pick true is = absurd (cc)
      pick false is = is

  -- a fetch returns what it returned
  pub fetched-remembered : (t : Tag) → fetched_piece (remembered b) t ≡ fetched_piece b t
  fetched-remembered t =
      ap (λ c. cond c None (piece_of (remembered b) t)) (is_outside-remembered b t) ∙ pick (is_outside b t) refl
    where
      inside : (retired full opening : Bool) → (retired || full) ≡ false → (opening && full) ≡ false
      inside retired full opening is = grind arith

      pick : (c : Bool) → is_outside b t ≡ c → cond c None (piece_of (remembered b) t) ≡ cond c None (piece_of b t)
      pick true is = refl
      pick false is =
          piece_of-remembered t ∙ ap (λ f. cond f None (piece_of b t))
          (inside (is_some b.retired) (exceeds b.delta (finals_above b t)) (not (tag_eq t opening_tag)) is)

  -- and it returns none of a tag that is forgotten
  pub forgotten_fetched : (t : Tag) → is_forgotten b t ≡ true → fetched_piece b t ≡ None
  forgotten_fetched t gone =
      ap (λ c. cond c None (piece_of b t))
      (outside (is_some b.retired) (exceeds b.delta (finals_above b t)) (not (tag_eq t opening_tag)) gone)
    where
      outside : (retired full opening : Bool) → (opening && full) ≡ true → (retired || full) ≡ true
      outside retired full opening is = grind arith

  -- and each other request has the same answer too
  pub answer-remembered : (q : Request) → answer_to (remembered b) q ≡ answer_to b q
  answer-remembered request.Next = refl
  answer-remembered (request.Spread s) = refl
  answer-remembered request.Query = ap answer.Greatest greatest-remembered
  answer-remembered (request.PreWrite t p) = refl
  answer-remembered (request.Finalize t) = refl
  answer-remembered (request.Fetch t) = ap answer.Piece (fetched-remembered t)

  -- and gives the same reply
  pub reply-remembered : (q : Request) (now : ℕ) → reply_to (remembered b) q now ≡ reply_to b q now
  reply-remembered q now = ap (λ a. let r : Reply = record { step = now; answer = a } in r) (answer-remembered q)
