-- Lists of numbers, word by word, and words at an index.
use Rattle.std.proofs.Common.{◌≡◌, ℕ, zero, suc, ◌+◌, ◌-◌, ◌<◌, ◌≤◌, List, [], ◌∷◌, ◌++◌, length, take, drop, get_or, map}
use Rattle.std.proofs.Common.{refl, ap, sym, ◌∙◌, arith, subst, Bor}
use Rattle.std.proofs.lemmas.List.{take_more, take_rest, map-append, length-map}
use Rattle.std.specs.Prelude.{Result, Ok, Err, IfErr, IsErrAnd}
use Rattle.words.specs.Number.{IsNumber}
use Rattle.script.specs.Arguments.{AreNumbers}
use Rattle.words.specs.Word.{Word}

-- one more word and its number
AreNumbers-snoc : (ns : List ℕ) (ws : List Word) (n : ℕ) (w : Word) → AreNumbers ns ws → IsNumber w n
    → AreNumbers (ns ++ n ∷ []) (ws ++ w ∷ [])
AreNumbers-snoc [] [] n w are is = (is, tt)
AreNumbers-snoc [] (v ∷ ws) n w are is = absurd are
AreNumbers-snoc (m ∷ ns) [] n w are is = absurd are
AreNumbers-snoc (m ∷ ns) (v ∷ ws) n w are is = (are.0, AreNumbers-snoc ns ws n w are.1 is)

-- each of the words has its number
AreNumbers-at : (ns : List ℕ) (ws : List Word) (i : ℕ) → AreNumbers ns ws → i < length ws
    → (n : ℕ) × IsNumber (get_or ws i []) n
AreNumbers-at ns [] i are below = absurd (omega arith)
AreNumbers-at [] (w ∷ ws) i are below = absurd are
AreNumbers-at (n ∷ ns) (w ∷ ws) zero are below = (n, are.0)
AreNumbers-at (n ∷ ns) (w ∷ ws) (suc i) are below = AreNumbers-at ns ws i are.1 (omega arith)

-- the word at an index, through the references
pub word-at : (ws : List (Bor Word)) (i : ℕ) (d : Bor Word) → d.now ≡ []
    → get_or (map (λ w. w.now) ws) i [] ≡ (get_or ws i d).now
word-at [] i d empty = sym empty
word-at (w ∷ ws) zero d empty = refl
word-at (w ∷ ws) (suc i) d empty = word-at ws i d empty

-- one word that is no number
pub AreNumbers-none : (ws : List (Bor Word)) (i : ℕ) (d : Bor Word) → d.now ≡ [] → i < length ws
    → ((n : ℕ) → ¬ (IsNumber (get_or ws i d).now n)) → (ns : List ℕ) → ¬ (AreNumbers ns (map (λ w. w.now) ws))
AreNumbers-none ws i d empty below none ns are =
    let found = AreNumbers-at ns (map (λ w. w.now) ws) i are (simp length-map below) in
    none found.0 (let P : Word → Type 0 = λ w. IsNumber w found.0 in subst P (word-at ws i d empty) found.1)

-- one more word that is a number
pub AreNumbers-more : (ws : List (Bor Word)) (i : ℕ) (d : Bor Word) (ns : List ℕ) (n : ℕ) → d.now ≡ [] → i < length ws
    → AreNumbers ns (map (λ w. w.now) (take i ws)) → IsNumber (get_or ws i d).now n
    → AreNumbers (ns ++ n ∷ []) (map (λ w. w.now) (take (i + 1) ws))
AreNumbers-more ws i d ns n empty below are is =
    let P : List Word → Type 0 = λ xs. AreNumbers (ns ++ n ∷ []) xs in
    subst P (sym (ap (map (λ w. w.now)) (take_more ws i d below) ∙ map-append (λ w. w.now) (take i ws) (get_or ws i d ∷ [])))
    (AreNumbers-snoc ns (map (λ w. w.now) (take i ws)) n (get_or ws i d).now are is)

-- what holds of the error that is passed on
pub err_of : {T E : Type 0} (r : Result T E) (e : E) (P : E → Type 0) → IsErrAnd r (λ y. y ≡ e) → P e → IfErr r P
err_of (Ok x) e P is holds = absurd is
err_of (Err y) e P is holds = subst P (sym is) holds

-- the word at index 1, and at index 2
pub second_word : (ws : List (Bor Word)) (d : Bor Word) → d.now ≡ [] → (name w : Word) (rest : List Word)
    → map (λ w. w.now) ws ≡ name ∷ w ∷ rest → w ≡ (get_or ws 1 d).now
second_word ws d empty name w rest e = sym (ap (λ l. get_or l 1 []) e) ∙ word-at ws 1 d empty

pub third_word : (ws : List (Bor Word)) (d : Bor Word) → d.now ≡ [] → (name v w : Word) (rest : List Word)
    → map (λ w. w.now) ws ≡ name ∷ v ∷ w ∷ rest → w ≡ (get_or ws 2 d).now
third_word ws d empty name v w rest e = sym (ap (λ l. get_or l 2 []) e) ∙ word-at ws 2 d empty

-- what does not hold of the word at index 1 does not hold of the second of these words
pub no_second : (ws : List (Bor Word)) (d : Bor Word) → d.now ≡ [] → (P : Word → Type 0) → ¬ (P (get_or ws 1 d).now)
    → (name w : Word) (rest : List Word) → map (λ w. w.now) ws ≡ name ∷ w ∷ rest → ¬ (P w)
no_second ws d empty P none name w rest e holds = none (subst P (second_word ws d empty name w rest e) holds)

-- what does not hold of the words from index 2 does not hold of these words after two
pub no_rest_2 : (ws : List (Bor Word)) (P : List Word → Type 0) → ¬ (P (map (λ w. w.now) (take (length ws - 2) (drop 2 ws))))
    → (name w : Word) (rest : List Word) → map (λ w. w.now) ws ≡ name ∷ w ∷ rest → ¬ (P rest)
no_rest_2 [] P none name w rest e holds = cc
no_rest_2 (v ∷ []) P none name w rest e holds = cc
no_rest_2 (v ∷ x ∷ ws) P none name w rest e holds =
    none (subst P (sym (ap (λ (l : List Word). drop 2 l) e) ∙ ap (map (λ w. w.now)) (sym (take_rest (v ∷ x ∷ ws) 2))) holds)

-- all the words, by how many there are
pub two_words : (ws : List (Bor Word)) (d : Bor Word) → length ws ≡ 2
    → map (λ w. w.now) ws ≡ (get_or ws 0 d).now ∷ (get_or ws 1 d).now ∷ []
two_words [] d two = absurd (omega arith)
two_words (v ∷ []) d two = absurd (omega arith)
two_words (v ∷ w ∷ []) d two = refl
two_words (v ∷ w ∷ x ∷ ws) d two = absurd (omega arith)

pub three_words : (ws : List (Bor Word)) (d : Bor Word) → length ws ≡ 3
    → map (λ w. w.now) ws ≡ (get_or ws 0 d).now ∷ (get_or ws 1 d).now ∷ (get_or ws 2 d).now ∷ []
three_words [] d three = absurd (omega arith)
three_words (v ∷ ws) d three = ap (λ (l : List Word). v.now ∷ l) (two_words ws d (omega arith))

pub two_and_rest : (ws : List (Bor Word)) (d : Bor Word) → 2 ≤ length ws → map (λ w. w.now) ws
    ≡ (get_or ws 0 d).now ∷ (get_or ws 1 d).now ∷ map (λ w. w.now) (take (length ws - 2) (drop 2 ws))
two_and_rest [] d some = absurd (omega arith)
two_and_rest (v ∷ []) d some = absurd (omega arith)
two_and_rest (v ∷ w ∷ ws) d some =
    ap (λ (l : List (Bor Word)). v.now ∷ w.now ∷ map (λ x. x.now) l) (sym (take_rest (v ∷ w ∷ ws) 2))
