-- The words behind the name of the program.
use Rattle.std.proofs.Common.{◌≡◌, ℕ, List, [], ◌∷◌, map, drop, Bool, Option, refl, sym, ap, ◌∙◌, subst, inl}
use Rattle.std.specs.Prelude.{IfSome}
use Rattle.words.specs.Word.{Word}
use Rattle.casd.specs.Ending.{EndsAsCalled, EndsBy, EndsForLog, EndsForLogAsCalled}
use Rattle.casd.proofs.CutLemmas.{Known}

-- what is seen of all but the first is all but the first of what is seen
dropped : {A : Type 0} (see : A → Word) (xs : List A) → map see (drop 1 xs) ≡ drop 1 (map see xs)
dropped see [] = refl
dropped see (x ∷ xs) = refl

-- the program ended as the words behind the first one say, where each of them is seen as it is given
pub as_called : {A : Type 0} (see : A → Word) (words : Option (List Word)) (xs all ys : List A)
    (given found kept : List ℕ → Known) (input held : Known) (keeps : List ℕ → Known) (holds : Known) (status : ℕ) →
    IfSome words (λ known. map see xs ≡ known) → all ≡ xs → ys ≡ drop 1 all →
    EndsBy given found kept input (map see ys) held keeps holds status →
    EndsAsCalled words given found kept input held keeps holds status
as_called {A} see words xs all ys given found kept input held keeps holds status known same is ends = inl (
  map see xs,
  known,
  subst (λ (ws : List Word). EndsBy given found kept input ws held keeps holds status)
      (ap (λ (t : List A). map see t) (is ∙ ap (λ (t : List A). drop 1 t) same) ∙ dropped see xs) ends,
)

-- the same of a call of the log that failed
pub called_for_log : {A : Type 0} (see : A → Word) (words : Option (List Word)) (xs all ys : List A) (failed : List ℕ → Bool)
    (status : ℕ) → IfSome words (λ known. map see xs ≡ known) → all ≡ xs → ys ≡ drop 1 all →
    EndsForLog failed (map see ys) status → EndsForLogAsCalled words failed status
called_for_log {A} see words xs all ys failed status known same is ends = λ three.
    let (file, word, folder, asked, has) = ends three in (
      map see xs,
      known,
      file,
      word,
      folder,
      sym (ap (λ (t : List A). map see t) (is ∙ ap (λ (t : List A). drop 1 t) same) ∙ dropped see xs) ∙ asked,
      has,
    )
