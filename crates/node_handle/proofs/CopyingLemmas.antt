-- Parts that are copied to a buffer, one behind the other.
use Rattle.std.proofs.Common.{◌≡◌, ℕ, suc, ◌+◌, ◌≤◌, ◌<◌, List, [], ◌∷◌, ◌++◌, length, take, drop, get_or}
use Rattle.std.proofs.Common.{sym, ap, ◌∙◌, append_assoc, append-nil, length-append, length-take, length-drop, take-append-drop}
use Rattle.std.proofs.Common.{take-suc, arith}
use Rattle.std.specs.List.{concat}
use Rattle.std.proofs.lemmas.List.Folds.{concat-append}
use lib.Seq.{take-append-add, take-append_seam}

module _ (parts : List (List ℕ)) (i : ℕ) (part none : List ℕ) (lt : i < length parts) (is : part ≡ get_or parts i none) where
  -- one more part
  pub one_more : concat (take (i + 1) parts) ≡ concat (take i parts) ++ part
  one_more =
      let e : i + 1 ≡ suc i = omega arith in
      ap (λ (n : ℕ). concat (take n parts)) e ∙ ap (λ (ps : List (List ℕ)). concat ps) (take-suc parts i none lt)
      ∙ concat-append (take i parts) (get_or parts i none ∷ [])
      ∙ ap (λ (t : List ℕ). concat (take i parts) ++ t) (append-nil (get_or parts i none) ∙ sym is)

  -- it lies within all of them
  pub part_fits : length (concat (take i parts)) + length part ≤ length (concat parts)
  part_fits =
      let cut = ap (λ (ps : List (List ℕ)). length (concat ps)) (take-append-drop (i + 1) parts) in
      let joined = ap (λ (t : List ℕ). length t) (concat-append (take (i + 1) parts) (drop (i + 1) parts)) in
      let apart = length-append (concat (take (i + 1) parts)) (concat (drop (i + 1) parts)) in
      let more = ap (λ (t : List ℕ). length t) one_more in
      let added = length-append (concat (take i parts)) part in
      omega arith

  -- and so it fits into a buffer of the length of the parts and the bytes behind them
  pub part_within : (last bytes whole out : List ℕ) (count : ℕ) → bytes ≡ concat parts ++ last
      → count ≡ length (concat (take i parts)) → length out ≡ length whole → length whole ≡ length bytes
      → count + length part ≤ length out
  part_within last bytes whole out count are at same equal =
      let fits = part_fits in let all = ap (λ (t : List ℕ). length t) are in
      let apart = length-append (concat parts) last in
      omega arith

module _ (done part out new : List ℕ) (count len : ℕ) (long : len ≡ length part)
    (writes : new ≡ take count out ++ part ++ drop (count + length part) out) where
  abbrev rest : List ℕ
  rest = drop (count + length part) out

  -- what was written stands behind what stood at the front
  pub part_placed : take count out ≡ done → count ≡ length done → take (count + len) new ≡ done ++ part
  part_placed is at =
      ap (λ (t : List ℕ). take (count + len) t) (writes ∙ append_assoc (take count out) part rest)
      ∙ ap (λ (t : List ℕ). take (count + len) (t ++ (part ++ rest))) is
      ∙ ap (λ (n : ℕ). take (n + len) (done ++ (part ++ rest))) at
      ∙ take-append-add done (part ++ rest) len
      ∙ ap (λ (n : ℕ). done ++ take n (part ++ rest)) long
      ∙ ap (λ (t : List ℕ). done ++ t) (take-append_seam part rest)

  -- the buffer keeps its length
  pub length_kept : count + length part ≤ length out → length new ≡ length out
  length_kept fits =
      let all = ap (λ (t : List ℕ). length t) (writes ∙ append_assoc (take count out) part rest) in
      let front = length-append (take count out) (part ++ rest) in let back = length-append part rest in
      let taken = length-take count out in let left = length-drop (count + length part) out in
      omega arith
