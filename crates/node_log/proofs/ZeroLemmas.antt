-- Bytes that are zeros, and readers that have nothing else left.
use Rattle.std.proofs.Common.{◌≡◌, ◌↔◌, ℕ, zero, suc, ◌+◌, ◌-◌, ◌≤◌, List, [], ◌∷◌, ◌++◌, length, get_or, replicate}
use Rattle.std.proofs.Common.{Option, Some, None, refl, sym, ◌∙◌, subst, arith, ⊎_elim}
use Rattle.std.proofs.Common.{IsTrue, Bool, true, false, eqb}
use Rattle.std.specs.List.{list_all}
use Rattle.std.specs.Io.KnownBytes.{Consumes}
use Rattle.std.proofs.lemmas.Bool.{and_parts, and_from, eqb-true, eq-eqb, cases_lt, true≢false}
use Rattle.std.proofs.lemmas.List.{get_or_past, get_or-append_right, get_or_append_left, get_or-append-add}
use Rattle.std.proofs.lemmas.List.{get_or-replicate, length-replicate}
use Rattle.frames.proofs.BufferPartLemmas.{Consumes_then}
use Rattle.node_log.specs.Reading.{AreZerosFrom, HadLeft}

-- what a reader has left, where that is known
abbrev pub Known : Type 0
Known = Option (List ℕ)

-- ---- the test

tested : (xs : List ℕ) → list_all (λ byte. eqb byte 0) xs ≡ true → AreZerosFrom 0 xs
tested [] e i h = get_or_past [] i 0 (omega arith)
tested (x ∷ xs) e zero h = eqb-true x 0 (and_parts _ _ e).0
tested (x ∷ xs) e (suc i) h = tested xs (and_parts _ _ e).1 i (omega arith)

shown : (xs : List ℕ) → AreZerosFrom 0 xs → list_all (λ byte. eqb byte 0) xs ≡ true
shown [] zeros = refl
shown (x ∷ xs) zeros = and_from _ _ (eq-eqb x 0 (zeros 0 (omega arith))) (shown xs (λ i h. zeros (suc i) (omega arith)))

pub are_zeros : (test : Bool) (xs : List ℕ) → test ≡ list_all (λ byte. eqb byte 0) xs → test ≡ true → AreZerosFrom 0 xs
are_zeros test xs is right = tested xs (sym is ∙ right)

pub are_not_zeros : (test : Bool) (xs : List ℕ) → test ≡ list_all (λ byte. eqb byte 0) xs → test ≡ false → AreZerosFrom 0 xs → ⊥
are_not_zeros test xs is wrong zeros = true≢false (sym (shown xs zeros) ∙ sym is ∙ wrong)

-- ---- zeros of parts

pub zeros_of_front : (xs ys : List ℕ) → AreZerosFrom 0 (xs ++ ys) → AreZerosFrom 0 xs
zeros_of_front xs ys zeros i h =
    ⊎_elim (λ low. sym (get_or_append_left xs ys 0 i low) ∙ zeros i (omega arith)) (λ high. get_or_past xs i 0 high)
    (cases_lt i (length xs))

pub zeros_of_both : (xs ys : List ℕ) → AreZerosFrom 0 xs → AreZerosFrom 0 ys → AreZerosFrom 0 (xs ++ ys)
zeros_of_both xs ys p q i h =
    ⊎_elim (λ low. get_or_append_left xs ys 0 i low ∙ p i (omega arith))
    (λ high. get_or-append_right xs ys (length xs) i 0 refl high ∙ q (i - length xs) (omega arith))
    (cases_lt i (length xs))

pub zeros_behind_part : (place : ℕ) (xs ys : List ℕ) → place ≤ length xs → AreZerosFrom place (xs ++ ys) → AreZerosFrom 0 ys
zeros_behind_part place xs ys within zeros i h =
    sym (get_or-append-add xs ys i 0) ∙ zeros (length xs + i) (omega arith)

abbrev zeros_of : ℕ → List ℕ
zeros_of n = replicate n 0

pub replicated : (n i : ℕ) → get_or (zeros_of n) i 0 ≡ 0
replicated n i =
    let none : ℕ = 0 in
    ⊎_elim (λ low. get_or-replicate n i none none low) (λ high. get_or_past (zeros_of n) i 0 (omega (arith, length-replicate n none)))
    (cases_lt i n)

-- zeros that were put behind some bytes
pub zeros_put_behind : (front : List ℕ) (n place : ℕ) → length front ≤ place → AreZerosFrom place (front ++ replicate n 0)
zeros_put_behind front n place within i h =
    get_or-append_right front (zeros_of n) (length front) i 0 refl (omega arith) ∙ replicated n (i - length front)

-- ---- what a reader has left

-- some zeros were read
abbrev pub ZerosSoFar : Known → Known → Type 0
ZerosSoFar old new = (done : List ℕ) × AreZerosFrom 0 done × Consumes old new done

pub zeros_more : (old mid new : Known) (part : List ℕ) → ZerosSoFar old mid → Consumes mid new part → AreZerosFrom 0 part
    → ZerosSoFar old new
zeros_more old mid new part p took zeros =
    (p.0 ++ part, zeros_of_both p.0 part p.1 zeros, Consumes_then old mid new p.0 part p.2 took)

pub other_bytes : (old mid new : Known) (part : List ℕ) → ZerosSoFar old mid → Consumes mid new part → (AreZerosFrom 0 part → ⊥)
    → HadLeft (λ bytes. IsTrue false ↔ AreZerosFrom 0 bytes) old
other_bytes None mid new part p took other = tt
other_bytes (Some xs) None new part p took other = absurd p.2
other_bytes (Some xs) (Some ys) None part p took other = absurd took
other_bytes (Some xs) (Some ys) (Some zs) part p took other = (
  (λ yes. absurd cc),
  (λ zeros. absurd (other (zeros_of_front part zs (subst (AreZerosFrom 0) took
      (zeros_behind_part 0 p.0 ys (omega arith) (subst (AreZerosFrom 0) p.2 zeros)))))),
)

-- other bytes are left behind a part
pub other_rest : (old : Known) (only : Bool) (part : List ℕ) → only ≡ false → HadLeft (λ bytes. IsTrue only ↔ AreZerosFrom 0 bytes) old
    → HadLeft (λ rest. AreZerosFrom (length part - 1) (part ++ rest) → ⊥) old
other_rest None only part wrong p = tt
other_rest (Some xs) only part wrong p =
    λ zeros. true≢false (sym (p.1 (zeros_behind_part (length part - 1) part xs (omega arith) zeros)) ∙ wrong)
