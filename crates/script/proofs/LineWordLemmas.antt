-- The words of a line, from its front.
use Rattle.std.proofs.Common.{◌≡◌, ◌==◌, ℕ, Bool, true, false, List, [], ◌∷◌, length, refl, arith}
use Rattle.std.specs.Prelude.{Some, None, IsTrue, ◌↔◌, not, filter, find, nat_lt}
use Rattle.std.specs.List.{slice_split, onto_first}
use Rattle.std.proofs.lemmas.Bool.{eq-eqb, eqb-true, lt-ltb}
use Rattle.words.specs.Word.{Word}
use Rattle.script.specs.Line.{IsSkipped, is_space, words_of}

-- the part has a byte
abbrev has_byte : Word → Bool
has_byte part = nat_lt 0 (length part)

-- the first word begins with the byte
Begins : ℕ → List Word → Type 0
Begins b words = (w : Word) × (ws : List Word) × (words ≡ (b ∷ w) ∷ ws)

Begins-onto_first : (b : ℕ) (parts : List Word) → Begins b (filter has_byte (onto_first b parts))
unfolding Begins
Begins-onto_first b [] = ([], [], refl)
Begins-onto_first b (part ∷ parts) =
    let some : nat_lt 0 (length (b ∷ part)) ≡ true = lt-ltb 0 (length (b ∷ part)) (omega arith) in
    (part, filter has_byte parts, rw some refl)

-- a line of spaces has no word
words-none : (line : List ℕ) → find (λ b. not (is_space b)) line ≡ None → words_of line ≡ []
words-none [] none = refl
words-none (b ∷ bs) none = go (b == 32) refl (words-none bs) none where
  go : (t : Bool) → (b == 32) ≡ t → (find (λ c. not (is_space c)) bs ≡ None → words_of bs ≡ [])
      → find (λ c. not (is_space c)) (b ∷ bs) ≡ None → words_of (b ∷ bs) ≡ []
  go true is rest found = rw is (rest (rw is at found))
  go false is rest found = let clash = rw is at found in cc

-- else the first byte that is no space begins the first word
words-some : (line : List ℕ) (first : ℕ) → find (λ b. not (is_space b)) line ≡ Some first → Begins first (words_of line)
words-some [] first some = cc
words-some (b ∷ bs) first some = go (b == 32) refl (words-some bs first) some where
  go : (t : Bool) → (b == 32) ≡ t → (find (λ c. not (is_space c)) bs ≡ Some first → Begins first (words_of bs))
      → find (λ c. not (is_space c)) (b ∷ bs) ≡ Some first → Begins first (words_of (b ∷ bs))
  go true is rest found = rw is (rest (rw is at found))
  go false is rest found =
      let clash : Some b ≡ Some first = rw is at found in
      let same : b ≡ first = cc in rw is (rw same (Begins-onto_first first (slice_split is_space bs)))

skipped_by : (words : List Word) (first : ℕ) → Begins first words → IsTrue (first == 35) ↔ IsSkipped words
unfolding Begins
skipped_by words first (w, ws, is) = rw is (eqb-true first 35, eq-eqb first 35)

-- a line without a word is skipped
pub skipped-none : (line : List ℕ) → find (λ b. not (is_space b)) line ≡ None → IsTrue true ↔ IsSkipped (words_of line)
skipped-none line none = rw (words-none line none) ((λ _. tt), (λ _. refl))

-- a line with a word is skipped where that begins with `#`
pub skipped-some : (line : List ℕ) (first : ℕ) → find (λ b. not (is_space b)) line ≡ Some first
    → IsTrue (first == 35) ↔ IsSkipped (words_of line)
skipped-some line first some = skipped_by (words_of line) first (words-some line first some)
