-- A bank with delta has few pieces of finalized tags.
use Rattle.std.proofs.Common.{◌≡◌, ℕ, suc, ◌+◌, ◌<◌, ◌≤◌, Bool, true, false, ◌&&◌, [], ◌∷◌, length, get_or}
use Rattle.std.proofs.Common.{Some, is_some, count_by, sym, ap, ◌∙◌, refl, arith}
use Rattle.std.specs.FinMap as map
use Rattle.std.specs.FinMap.Entries.{below_all}
use Rattle.std.specs.Ordering.{is_lt}
use Rattle.std.proofs.lemmas.Bool.{and_parts}
use Rattle.std.proofs.lemmas.List.Sums.{sum_by-cons}
use Rattle.tag.specs.declared.tag.Tag.{Tag}
use Rattle.tag.specs.Tag.{tag_cmp, tag_lt}
use Rattle.bank.specs.declared.row.Row.{Row}
use Rattle.bank.specs.Bank.{Bank, piece_of, piece_of_row}
use Rattle.bank.specs.Collect.{IsCollected, final_pieces}
use Rattle.bank.specs.Knowledge.{row_finalized, finalized_at, is_finalized, count_above, finals_above}
use Rattle.bank.proofs.EntryCountLemmas.{one_if}
use Rattle.bank.proofs.EntryOrderLemmas.{Rows, find_sorted, t_true, is_lt-tag}

-- a piece of a finalized tag
abbrev is_piece : Tag × Row → Bool
is_piece e = is_finalized e.1.label && is_some (piece_of_row (Some e.1))

-- above the first tag, all the others with a piece are finalized
others : (x : Tag) (es : Rows) → below_all tag_cmp x es ≡ true → count_by is_piece es ≤ count_above is_finalized x es
others x [] below = omega arith
others x (e ∷ es) below =
    let parts = and_parts (is_lt (tag_cmp x e.0)) (below_all tag_cmp x es) below in
    let rest = others x es parts.1 in
    let here = counts (tag_lt x e.0) (is_finalized e.1.label) (is_some (piece_of_row (Some e.1))) (sym (is_lt-tag x e.0) ∙ parts.0) in
    omega (arith, rest, here, sum_by-cons (λ (x : Tag × Row). one_if (is_piece x)) e es)
  where
    counts : (l f p : Bool) → l ≡ true → one_if (f && p) ≤ one_if (l && f)
    counts true true true is = omega arith
    counts true true false is = omega arith
    counts true false p is = omega arith
    counts false f p is = absurd (cc)

at_most : (delta : ℕ) (es : Rows) → map.is_sorted tag_cmp es ≡ true
    → ((k : ℕ) → k < length es → (d : Tag × Row) → is_piece (get_or es k d) ≡ true
    → count_above is_finalized (get_or es k d).0 es ≤ delta)
    → count_by is_piece es ≤ delta + 1
at_most delta [] sorted few = omega arith
at_most delta (e ∷ es) sorted few =
    elim (is_piece e) as (λ c. is_piece e ≡ c → count_by is_piece (e ∷ es) ≤ delta + 1) [
      | true ↦ λ is.
          let one : one_if (is_piece e) ≡ 1 = ap (λ c. one_if c) is in
          let others_are = others e.0 es parts.0 in
          let first = few 0 (omega arith) e is in
          let whole : count_above is_finalized e.0 es ≤ count_above is_finalized e.0 (e ∷ es) = omega arith in
          omega (arith, one, others_are, first, whole, sum_by-cons (λ (x : Tag × Row). one_if (is_piece x)) e es)
      | false ↦ λ is.
          let none : one_if (is_piece e) ≡ 0 = ap (λ c. one_if c) is in
          let rest = at_most delta es parts.1 (λ k within d has.
          let all = few (suc k) (omega arith) d has in
          let part : count_above is_finalized (get_or es k d).0 es ≤ count_above is_finalized (get_or es k d).0 (e ∷ es) = omega arith in
          omega (arith, all, part)) in
          omega (arith, none, rest, sum_by-cons (λ (x : Tag × Row). one_if (is_piece x)) e es)
    ] refl
  where
    parts : (below_all tag_cmp e.0 es ≡ true) × (map.is_sorted tag_cmp es ≡ true)
    parts = and_parts (below_all tag_cmp e.0 es) (map.is_sorted tag_cmp es) sorted

-- where a piece of a finalized tag is there, not too many are above it
few_above : (b : Bank) (delta : ℕ) → IsCollected b → b.delta ≡ Some delta → (t : Tag) → is_some (finalized_at b t) ≡ true
    → is_some (piece_of b t) ≡ true → finals_above b t ≤ delta
few_above b delta collected bounded t final has = grind arith

pub few_kept : (b : Bank) (delta : ℕ) → IsCollected b → b.delta ≡ Some delta → final_pieces b ≤ delta + 1
few_kept b delta collected bounded =
    let es = map.entries b.rows in
    let sorted = t_true (map.is_sorted tag_cmp es) (map.entries_sorted b.rows) in
    at_most delta es sorted (λ k within d is.
    let row = map.get-entries b.rows (get_or es k d).0 ∙ find_sorted es k d sorted within in
    let parts = and_parts (is_finalized (get_or es k d).1.label) (is_some (piece_of_row (Some (get_or es k d).1))) is in
    few_above b delta collected bounded (get_or es k d).0 (ap (λ o. is_some (row_finalized o)) row ∙ parts.0)
    (ap (λ o. is_some (piece_of_row o)) row ∙ parts.1))
