-- The lines of a text, from its front.
use Rattle.std.proofs.Common.{◌≡◌, ◌==◌, ◌+◌, ◌<◌, ◌≤◌, ℕ, Bool, true, false, List, [], ◌∷◌, length, take, drop, refl, ap, sym, ◌∙◌, arith}
use Rattle.std.specs.Prelude.{◌-◌, Option, Some, None, IfNone, position, nat_lt, if◌then◌else◌}
use Rattle.std.specs.List.{slice_split, position_or_len, before_first, after_first}
use Rattle.std.specs.Str.Lines.{lines, lines_of_parts, strip_carriage_return}
use Rattle.std.proofs.Common.{length-drop}
use Rattle.std.proofs.Math.Seq.{take-length}
use Rattle.std.proofs.lemmas.Bool.{ltb-true, ltb-false}
use Rattle.std.proofs.lemmas.List.Splits.{length-slice_split, slice_split_first}

-- a part that others follow ends with a line feed
lines_of_parts-cons : (part : List ℕ) (parts : List (List ℕ)) → 0 < length parts
    → lines_of_parts (part ∷ parts) ≡ strip_carriage_return part ∷ lines_of_parts parts
lines_of_parts-cons part [] some = absurd (omega arith)
lines_of_parts-cons part (x ∷ more) some = refl

-- the first line feed ends the first line
pub lines-first : (bs : List ℕ) (end : ℕ) → position (λ b. b == 10) bs ≡ Some end
    → (end < length bs) × (lines bs ≡ strip_carriage_return (take end bs) ∷ lines (drop (end + 1) bs))
lines-first bs end found = go (nat_lt (position_or_len (λ b. b == 10) bs) (length bs)) refl found where
  go : (t : Bool) → nat_lt (position_or_len (λ b. b == 10) bs) (length bs) ≡ t → position (λ b. b == 10) bs ≡ Some end
      → (end < length bs) × (lines bs ≡ strip_carriage_return (take end bs) ∷ lines (drop (end + 1) bs))
  go true is some =
      let same : Some (position_or_len (λ b. b == 10) bs) ≡ Some end = rw is at some in
      let at_end : position_or_len (λ b. b == 10) bs ≡ end = cc in
      let below : position_or_len (λ b. b == 10) bs < length bs = ltb-true _ _ is in
      let parts = slice_split (λ b. b == 10) (after_first (λ b. b == 10) bs) in
      let more : 0 < length parts = omega (arith, length-slice_split (λ b. b == 10) (after_first (λ b. b == 10) bs)) in
      let cut : lines bs ≡ strip_carriage_return (before_first (λ b. b == 10) bs) ∷ lines_of_parts parts
      = ap lines_of_parts (slice_split_first (λ b. b == 10) bs 0 below) ∙ lines_of_parts-cons _ parts more in
      (omega arith, rw (sym at_end) cut)
  go false is some = let clash = rw is at some in cc

-- without a line feed there is one part
split-none : (bs : List ℕ) → length bs ≤ position_or_len (λ b. b == 10) bs → slice_split (λ b. b == 10) bs ≡ bs ∷ []
split-none [] none = refl
split-none (x ∷ xs) none = go (x == 10) refl (split-none xs) none where
  go : (t : Bool) → (x == 10) ≡ t → (length xs ≤ position_or_len (λ b. b == 10) xs → slice_split (λ b. b == 10) xs ≡ xs ∷ [])
      → length (x ∷ xs) ≤ position_or_len (λ b. b == 10) (x ∷ xs) → slice_split (λ b. b == 10) (x ∷ xs) ≡ (x ∷ xs) ∷ []
  go true is shorter above = let clash = rw is at above in absurd (omega arith)
  go false is shorter above =
      let below = rw is at above in
      let rest : slice_split (λ b. b == 10) xs ≡ xs ∷ [] = shorter (omega arith) in rw (is, rest) refl

-- without a line feed there is one line, or none
pub lines-last : (bs : List ℕ) → position (λ b. b == 10) bs ≡ None → lines bs ≡ (if length bs == 0 then [] else bs ∷ [])
lines-last bs none = go (nat_lt (position_or_len (λ b. b == 10) bs) (length bs)) refl none where
  go : (t : Bool) → nat_lt (position_or_len (λ b. b == 10) bs) (length bs) ≡ t → position (λ b. b == 10) bs ≡ None
      → lines bs ≡ (if length bs == 0 then [] else bs ∷ [])
  go true is found = let clash = rw is at found in cc
  go false is found = ap lines_of_parts (split-none bs (ltb-false _ _ is))

-- what follows a place is all that follows it
pub drop-whole : (bs : List ℕ) (k : ℕ) → take (length bs - k) (drop k bs) ≡ drop k bs
drop-whole bs k = ap (λ n. take n (drop k bs)) (sym (length-drop k bs)) ∙ take-length (drop k bs)

-- what holds where nothing was found
pub if_none : {A : Type 0} (r : Option A) (P : Type 0) → P → IfNone r P
if_none None P holds = holds
if_none (Some x) P holds = tt
