-- The rows by which it is found whether a pattern matches a text.
use Rattle.std.proofs.Common.{◌≡◌, ◌<◌, ◌≤◌, ◌+◌, ◌-◌, ◌∙◌, ◌⊎◌, ℕ, zero, suc, Bool, true, false, List, [], ◌∷◌, ◌++◌, length, drop, get_or}
use Rattle.std.proofs.Common.{replicate, take, refl, sym, ap, subst, inl, inr, arith}
use Rattle.std.proofs.Math.Seq.{drop-cons, get_or-append_seam, take-length}
use Rattle.std.proofs.lemmas.Bool.{eq-eqb, ne_eqb}
use Rattle.std.proofs.lemmas.List.{get_or_append_left, get_or-replicate, length-drop, length-replicate}
use Rattle.client_commands.specs.Patterns.{IsRow, fits, fits_here}
use Rattle.client_commands.specs.declared.patterns.Part.{Part}
use Rattle.client_commands.specs.declared.patterns.Part.TheVariants as part

-- the row of no parts: only no bytes match
pub none_row : (text : List ℕ) (row : List Bool) → row ≡ true ∷ replicate (length text) false → IsRow [] text row
none_row text row is = subst (IsRow [] text) (sym is) (record { size = size; each = each })
  where
    size : length (true ∷ replicate (length text) false) ≡ length text + 1
    size = let all = length-replicate (length text) false in omega arith

    each : (count : ℕ) → count ≤ length text → get_or (true ∷ replicate (length text) false) count false
        ≡ fits [] (drop (length text - count) text)
    each zero le =
        let left : length (drop (length text - zero) text) ≡ 0 = omega (arith, length-drop (length text - zero) text) in
        sym (eq-eqb (length (drop (length text - zero) text)) 0 left)
    each (suc count) le =
        let some : length (drop (length text - suc count) text) ≡ suc count =
        omega (arith, le, length-drop (length text - suc count) text) in
        get_or-replicate (length text) count false false (omega (arith, le))
        ∙ sym (ne_eqb (length (drop (length text - suc count) text)) 0 (λ none. omega arith))

-- whether parts match a text that is not empty
fits_cons : (p : Part) (parts : List Part) (byte : ℕ) (bytes : List ℕ) →
    fits (p ∷ parts) (byte ∷ bytes) ≡ fits_here p byte (fits parts (byte ∷ bytes)) (fits parts bytes) (fits (p ∷ parts) bytes)
fits_cons part.AnyBytes parts byte bytes = refl
fits_cons part.OneByte parts byte bytes = refl
fits_cons (part.This wanted) parts byte bytes = refl

-- a byte more at the front of an end of a text
one_more : (text : List ℕ) (count : ℕ) → count < length text →
    drop (length text - (count + 1)) text ≡ get_or text (length text - 1 - count) 0 ∷ drop (length text - count) text
one_more text count lt =
    let at : length text - (count + 1) ≡ length text - 1 - count = omega arith in
    let next : suc (length text - 1 - count) ≡ length text - count = omega (arith, lt) in
    ap (λ n. drop n text) at ∙ drop-cons text (length text - 1 - count) 0 (omega (arith, lt))
    ∙ ap (λ n. get_or text (length text - 1 - count) 0 ∷ drop n text) next

-- the last place of the row of one part more
pub next_place : (p : Part) (parts : List Part) (text : List ℕ) (row : List Bool) (count : ℕ) (last : Bool) → count < length text →
    IsRow parts text row → last ≡ fits (p ∷ parts) (drop (length text - count) text) →
    fits_here p (get_or text (length text - 1 - count) 0) (get_or row (count + 1) false) (get_or row count false) last
    ≡ fits (p ∷ parts) (drop (length text - (count + 1)) text)
next_place p parts text row count last lt is same =
    let byte = get_or text (length text - 1 - count) 0 in
    let behind = drop (length text - count) text in
    ap (λ b. fits_here p byte b (get_or row count false) last)
    (is.each (count + 1) (omega (arith, lt)) ∙ ap (fits parts) (one_more text count lt))
    ∙ ap (λ b. fits_here p byte (fits parts (byte ∷ behind)) b last) (is.each count (omega (arith, lt)))
    ∙ ap (fits_here p byte (fits parts (byte ∷ behind)) (fits parts behind)) same
    ∙ sym (ap (fits (p ∷ parts)) (one_more text count lt) ∙ fits_cons p parts byte behind)

-- a list of which each place is known, and one place more
pub one_place_more : (old new : List Bool) (x : Bool) (count : ℕ) (f : ℕ → Bool) → new ≡ old ++ x ∷ [] → length old ≡ count + 1 →
    ((i : ℕ) → i ≤ count → get_or old i false ≡ f i) → x ≡ f (count + 1) →
    (i : ℕ) → i ≤ count + 1 → get_or new i false ≡ f i
one_place_more old new x count f is size each here i le = elim (at_or_before i count le) [
  | inl before ↦
      ap (λ (xs : List Bool). get_or xs i false) is ∙ get_or_append_left old (x ∷ []) false i (omega (arith, before, size))
      ∙ each i before
  | inr at ↦
      ap (λ (xs : List Bool). get_or xs i false) is ∙ ap (λ n. get_or (old ++ x ∷ []) n false) (at ∙ sym size)
      ∙ get_or-append_seam old x [] false ∙ here ∙ ap f (sym at)
]
  where
    at_or_before : (i count : ℕ) → i ≤ count + 1 → (i ≤ count) ⊎ (i ≡ count + 1)
    at_or_before i count le = grind arith

-- the row of a part and of those behind it is that of all parts
pub row_of_all : (parts : List Part) (other : Part) (text : List ℕ) (row next : List Bool) → 1 ≤ length parts →
    IsRow (take (length parts - 1) (drop 1 parts)) text row →
    ((rest : List Part) → IsRow rest text row → IsRow (get_or parts 0 other ∷ rest) text next) → IsRow parts text next
row_of_all [] other text row next some behind step = absurd (omega (arith, some))
row_of_all (q ∷ rest) other text row next some behind step =
    let left : length (q ∷ rest) - 1 ≡ length rest = omega arith in
    let others : take (length (q ∷ rest) - 1) rest ≡ rest = ap (λ n. take n rest) left ∙ take-length rest in
    step rest (subst (λ (ps : List Part). IsRow ps text row) others behind)
