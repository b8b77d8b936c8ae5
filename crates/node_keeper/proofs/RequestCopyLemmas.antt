-- A request that goes to several nodes.
use Rattle.std.proofs.Common.{◌≡◌, inr, ℕ, zero, suc, ◌<◌, Bool, true, false, cond, ◌==◌, List, [], ◌∷◌, ◌++◌, length, get_or}
use Rattle.std.proofs.Common.{Result, Ok, Err, arith, refl, sym, subst, ap, ◌∙◌}
use Rattle.std.specs.List.{AllByRecursion}
use Rattle.letter.specs.declared.letter.Letter.{Letter}
use Rattle.letter.specs.declared.letter.NamedLetter.{NamedLetter}
use Rattle.open_calls.proofs.ListLemmas.{all_append}
use Rattle.deeds.specs.Named.{NamedLetter as Named, with_names}
use Rattle.node_effects.specs.Errors.{WritesOrFails}
use Rattle.node_effects.specs.Work.{IsGrown, both_grown}
use Rattle.node_effects.specs.declared.error.NodeError.{NodeError}
use Rattle.node_effects.specs.declared.work.Work.{Work}
use Rattle.node_effects.proofs.GrowthLemmas.{grown_as, grown_then}
use Rattle.node_keeper.specs.Sendings.{IsDirected, Sending, asks_next, letters_of, sending, sent_growth, to_others}
use Rattle.node_keeper.proofs.FittingLemmas.{unwritten_more}
use Rattle.node_keeper.proofs.SendingLemmas.{sent_append}

pub others_append : (number : ℕ) (it : NamedLetter) (xs ys : List ℕ) →
    to_others number it (xs ++ ys) ≡ to_others number it xs ++ to_others number it ys
others_append number it [] ys = refl
others_append number it (x ∷ xs) ys = go (x == number) (others_append number it xs ys)
  where
    go : (b : Bool) → to_others number it (xs ++ ys) ≡ to_others number it xs ++ to_others number it ys →
        cond b (to_others number it (xs ++ ys)) (sending x it ∷ to_others number it (xs ++ ys)) ≡
        cond b (to_others number it xs) (sending x it ∷ to_others number it xs) ++ to_others number it ys
    go true e = e
    go false e = ap (λ zs. sending x it ∷ zs) e

-- the request goes to more nodes
pub others_grown : (number : ℕ) (digest : List ℕ) (it : NamedLetter) (xs ys : List ℕ) (before now after : Work) →
    IsGrown before now (sent_growth number digest (to_others number it xs)) →
    IsGrown now after (sent_growth number digest (to_others number it ys)) →
    IsGrown before after (sent_growth number digest (to_others number it (xs ++ ys)))
others_grown number digest it xs ys before now after first second =
    let some = to_others number it xs in
    let more = to_others number it ys in
    grown_as before after (both_grown (sent_growth number digest some) (sent_growth number digest more))
    (sent_growth number digest (to_others number it (xs ++ ys)))
    (grown_then before now after (sent_growth number digest some) (sent_growth number digest more) first second)
    (sent_append number digest some more ∙ ap (λ sends. sent_growth number digest sends) (sym (others_append number it xs ys)))

pub others_all : (P : Sending → Type 0) (number : ℕ) (it : NamedLetter) (xs ys : List ℕ) →
    AllByRecursion P (to_others number it xs) → AllByRecursion P (to_others number it ys) →
    AllByRecursion P (to_others number it (xs ++ ys))
others_all P number it xs ys first second =
    subst (λ (sends : List Sending). AllByRecursion P sends) (sym (others_append number it xs ys))
    (all_append P (to_others number it xs) (to_others number it ys) first second)

-- what is so of all these letters is so of those to the first nodes, and of those to the other ones
pub all_parts : {A : Type 0} (P : A → Type 0) (xs ys : List A) → AllByRecursion P (xs ++ ys) → AllByRecursion P xs × AllByRecursion P ys
all_parts P [] ys all = (tt, all)
all_parts P (x ∷ xs) ys all = let rest = all_parts P xs ys all.1 in ((all.0, rest.0), rest.1)

pub others_parts : (P : Sending → Type 0) (number : ℕ) (it : NamedLetter) (xs ys : List ℕ) →
    AllByRecursion P (to_others number it (xs ++ ys)) →
    AllByRecursion P (to_others number it xs) × AllByRecursion P (to_others number it ys)
others_parts P number it xs ys all =
    all_parts P (to_others number it xs) (to_others number it ys)
    (subst (λ (sends : List Sending). AllByRecursion P sends) (others_append number it xs ys) all)

-- so of the one to the node at a place
pub others_at : (P : Sending → Type 0) (number : ℕ) (it : NamedLetter) (nodes : List ℕ) (i : ℕ) (d : ℕ) → i < length nodes →
    AllByRecursion P (to_others number it nodes) → AllByRecursion P (to_others number it (get_or nodes i d ∷ []))
others_at P number it [] i d within all = absurd (omega arith)
others_at P number it (x ∷ xs) zero d within all = (others_parts P number it (x ∷ []) xs all).0
others_at P number it (x ∷ xs) (suc i) d within all =
    others_at P number it xs i d (omega arith) (others_parts P number it (x ∷ []) xs all).1

-- what is written last fits exactly if all does
pub writes_last : {T : Type 0} (last whole : Type 0) (result : Result T NodeError) → (last → whole) → (whole → last) →
    WritesOrFails last result → WritesOrFails whole result
writes_last last whole (Ok x) more part is = more is
writes_last last whole (Err e) more part is = unwritten_more last whole part e is

-- a request for the next position may go to any node
pub others_addressed : (number asker : ℕ) (got : List Named) (it : NamedLetter) → asks_next it.letter.message.body ≡ true →
    (nodes : List ℕ) → AllByRecursion (IsDirected number asker got) (to_others number it nodes)
others_addressed number asker got it asks [] = tt
others_addressed number asker got it asks (x ∷ xs) = go (x == number) (others_addressed number asker got it asks xs)
  where
    go : (b : Bool) → AllByRecursion (IsDirected number asker got) (to_others number it xs) →
        AllByRecursion (IsDirected number asker got) (cond b (to_others number it xs) (sending x it ∷ to_others number it xs))
    go true rest = rest
    go false rest = (inr (inr asks), rest)

-- the copies of the request, one for each node to which it goes
pub copied : (number : ℕ) → Letter → (nodes : List ℕ) → List Letter
copied number letter [] = []
copied number letter (x ∷ xs) = cond (x == number) (copied number letter xs) (letter ∷ copied number letter xs)

pub copied_letters : (number : ℕ) (name : List ℕ) (letter : Letter) (nodes : List ℕ) →
    letters_of (to_others number (record { name = name; letter = letter }) nodes) ≡ with_names name (copied number letter nodes)
unfolding copied
copied_letters number name letter [] = refl
copied_letters number name letter (x ∷ xs) = go (x == number) (copied_letters number name letter xs)
  where
    go : (b : Bool) →
        letters_of (to_others number (record { name = name; letter = letter }) xs) ≡ with_names name (copied number letter xs) →
        letters_of (cond b (to_others number (record { name = name; letter = letter }) xs)
        (sending x (record { name = name; letter = letter }) ∷ to_others number (record { name = name; letter = letter }) xs)) ≡
        with_names name (cond b (copied number letter xs) (letter ∷ copied number letter xs))
    go true e = e
    go false e = ap (λ zs. record { name = name; letter = letter } ∷ zs) e

pub copied_all : (P : Letter → Type 0) (number : ℕ) (letter : Letter) → P letter → (nodes : List ℕ) →
    AllByRecursion P (copied number letter nodes)
unfolding copied
copied_all P number letter is [] = tt
copied_all P number letter is (x ∷ xs) = go (x == number) (copied_all P number letter is xs)
  where
    go : (b : Bool) → AllByRecursion P (copied number letter xs) →
        AllByRecursion P (cond b (copied number letter xs) (letter ∷ copied number letter xs))
    go true rest = rest
    go false rest = (is, rest)
