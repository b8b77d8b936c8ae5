-- The places of the messages that pass a test, from a place on.
use Rattle.std.proofs.Common.{◌≡◌, ℕ, zero, suc, ◌+◌, ◌<◌, ◌≤◌, Bool, true, false, cond, ◌-◌, List, [], ◌∷◌, length, drop, Option, Some}
use Rattle.std.proofs.Common.{None, ◌%◌, slice_get, MatchOption, refl, sym, ap, subst, ◌∙◌, arith, add-one}
use Rattle.std.proofs.lemmas.Nat.{mod_below}
use Rattle.std.proofs.lemmas.Option.{slice_get-get_or}
use Rattle.std.specs.Option.{option_or}
use Rattle.mail.specs.declared.message.Message.{Message}
use Rattle.register.proofs.ListLemmas.{found, same_some}
use Rattle.driver.specs.Choices.{Picks, places_passing}

drop_at : {X : Type 0} (xs : List X) (i : ℕ) (x : X) → slice_get xs i ≡ Some x → drop i xs ≡ x ∷ drop (suc i) xs
drop_at [] i x e = absurd (cc)
drop_at (y ∷ ys) zero x e = ap (λ z. z ∷ ys) (let same : y ≡ x = cc in same)
drop_at (y ∷ ys) (suc i) x e = drop_at ys i x e

drop_end : {X : Type 0} (xs : List X) (i : ℕ) → length xs ≤ i → drop i xs ≡ []
drop_end (x ∷ xs) zero past = absurd (omega (arith, past))
drop_end (x ∷ xs) (suc i) past = drop_end xs i (omega (arith, past))
drop_end [] zero past = refl
drop_end [] (suc i) past = refl

drop_few : {X : Type 0} (xs : List X) (i : ℕ) → length (drop i xs) ≤ length xs
drop_few (x ∷ xs) (suc i) = let rest = drop_few xs i in omega (arith, rest)
drop_few [] (suc i) = omega arith
drop_few _ zero = omega arith

places_few : (test : Message → Bool) (place : ℕ) (messages : List Message) → length (places_passing test place messages) ≤ length messages
places_few test place [] = omega arith
places_few test place (message ∷ messages) = go (test message) (places_few test (suc place) messages)
  where
    go : (b : Bool) → length (places_passing test (suc place) messages) ≤ length messages
        → length (cond b (place ∷ places_passing test (suc place) messages) (places_passing test (suc place) messages))
        ≤ suc (length messages)
    go true few = omega (arith, few)
    go false few = omega (arith, few)

module _ (test : Message → Bool) (mail : List Message) (place : ℕ) where
  abbrev pub from : List ℕ
  from = places_passing test place (drop place mail)

  abbrev pub later : List ℕ
  later = places_passing test (suc place) (drop (suc place) mail)

  -- the message at the place, and those behind it
  pub from_is : (b : Bool) → place < length mail → ((message : Message) → slice_get mail place ≡ Some message → b ≡ test message)
      → from ≡ cond b (place ∷ later) later
  from_is b within told =
      let m = found mail place within in
      ap (places_passing test place) (drop_at mail place m.0 m.1) ∙ ap (λ b. cond b (place ∷ later) later) (sym (told m.0 m.1))

  pub from_end : length mail ≤ place → from ≡ []
  from_end past = ap (places_passing test place) (drop_end mail place past)

-- what is known of the message at a place of the mail that is seen
pub told_of : (test : Message → Bool) (mail seen : List Message) (place : ℕ) (m : Message) (b : Bool) → seen ≡ mail
    → slice_get seen place ≡ Some m → b ≡ test m → (message : Message) → slice_get mail place ≡ Some message → b ≡ test message
told_of test mail seen place m b same at is message there =
    is ∙ ap test (same_some m message (sym at ∙ ap (λ (xs : List Message). slice_get xs place) same ∙ there))

-- all of them are no more than the messages
pub choices_few : (test : Message → Bool) (mail : List Message) (from : ℕ)
    → length (places_passing test from (drop from mail)) ≤ length mail
choices_few test mail from =
    omega (arith, places_few test from (drop from mail), drop_few mail from)

module _ (test : Message → Bool) (mail : List Message) (place : ℕ) (b : Bool) (within : place < length mail)
    (told : (message : Message) → slice_get mail place ≡ Some message → b ≡ test message) where
  one_more : b ≡ true → length (from test mail place) ≡ suc (length (later test mail place))
  one_more passes = ap length (from_is test mail place b within told)
      ∙ ap (λ b. length (cond b (place ∷ later test mail place) (later test mail place))) passes

  -- one more is counted where the message passes
  pub counted : (count total : ℕ) → b ≡ true → count + length (from test mail place) ≡ total
      → count + 1 + length (places_passing test (place + 1) (drop (place + 1) mail)) ≡ total
  counted count total passes so_far =
      let n = ap (λ n. length (places_passing test n (drop n mail))) (add-one place) in
      omega (arith, so_far, one_more passes, n)

  pub uncounted : (count total : ℕ) → b ≡ false → count + length (from test mail place) ≡ total
      → count + length (places_passing test (place + 1) (drop (place + 1) mail)) ≡ total
  uncounted count total passes so_far =
      let e : length (from test mail place) ≡ length (later test mail place) =
      ap length (from_is test mail place b within told)
      ∙ ap (λ b. length (cond b (place ∷ later test mail place) (later test mail place))) passes in
      let n = ap (λ n. length (places_passing test n (drop n mail))) (add-one place) in
      omega (arith, so_far, e, n)

  pub few : (count total : ℕ) → b ≡ true → count + length (from test mail place) ≡ total → total ≤ length mail → count < length mail
  few count total passes so_far all = omega (arith, so_far, one_more passes, all)

  -- the one that is looked for
  pub here : (left : ℕ) (answer : Option ℕ) → b ≡ true → left ≡ 0 → slice_get (from test mail place) left ≡ answer → Some place ≡ answer
  here left answer passes none so_far = cc (from_is test mail place b within told)

  pub passed : (left : ℕ) (answer : Option ℕ) → b ≡ true → (left ≡ 0 → ⊥) → slice_get (from test mail place) left ≡ answer
      → slice_get (places_passing test (place + 1) (drop (place + 1) mail)) (left - 1) ≡ answer
  passed zero answer passes some so_far = absurd (some refl)
  passed (suc left) answer passes some so_far =
      ap (λ n. slice_get (places_passing test n (drop n mail)) (suc left - 1)) (add-one place)
      ∙ ap (λ n. slice_get (later test mail place) n) (let less : suc left - 1 ≡ left = omega arith in less)
      ∙ sym (ap (λ b. slice_get (cond b (place ∷ later test mail place) (later test mail place)) (suc left)) passes)
      ∙ sym (ap (λ xs. slice_get xs (suc left)) (from_is test mail place b within told)) ∙ so_far

  pub skipped : (left : ℕ) (answer : Option ℕ) → b ≡ false → slice_get (from test mail place) left ≡ answer
      → slice_get (places_passing test (place + 1) (drop (place + 1) mail)) left ≡ answer
  skipped left answer passes so_far = cc (add-one place, from_is test mail place b within told)

  -- the first of all, where the first so far may be none
  pub first_here : (first answer : Option ℕ) → b ≡ true → option_or first (slice_get (from test mail place) 0) ≡ answer
      → option_or (option_or first (Some place)) (slice_get (places_passing test (place + 1) (drop (place + 1) mail)) 0) ≡ answer
  first_here (Some earlier) answer passes so_far = so_far
  first_here None answer passes so_far = here 0 answer passes refl so_far

  pub first_later : (first answer : Option ℕ) → b ≡ false → option_or first (slice_get (from test mail place) 0) ≡ answer
      → option_or first (slice_get (places_passing test (place + 1) (drop (place + 1) mail)) 0) ≡ answer
  first_later first answer passes so_far = ap (option_or first) (skipped 0 (slice_get (from test mail place) 0) passes refl) ∙ so_far

-- there is none behind the last message
pub past_last : (test : Message → Bool) (mail : List Message) (place left : ℕ) (answer : Option ℕ) → length mail ≤ place
    → slice_get (from test mail place) left ≡ answer → None ≡ answer
past_last test mail place left answer past so_far = sym (ap (λ xs. slice_get xs left) (from_end test mail place past)) ∙ so_far

pub first_of_none : (test : Message → Bool) (mail : List Message) (place : ℕ) (first answer : Option ℕ) → length mail ≤ place
    → option_or first (slice_get (from test mail place) 0) ≡ answer → first ≡ answer
first_of_none test mail place first answer past so_far =
    or_none first ∙ ap (option_or first) (past_last test mail place 0 (slice_get (from test mail place) 0) past refl) ∙ so_far
  where
    or_none : (o : Option ℕ) → o ≡ option_or o None
    or_none (Some x) = refl
    or_none None = refl

-- there is nothing to choose from
pub no_choice : (xs : List ℕ) (count : ℕ) → count ≡ length xs → count ≡ 0 → xs ≡ []
no_choice [] count same none = refl
no_choice (x ∷ xs) count same none = absurd (omega arith)

-- a place at the number that the chooser returned, modulo how many there are
pub picked : {C : Type 0} (chooses : C → ℕ → ℕ → C → Type 0) (xs : List ℕ) (before after : C) (count answer : ℕ) (r : Option ℕ)
    → count ≡ length xs → 0 < count → chooses before count answer after → r ≡ slice_get xs (answer % count)
    → MatchOption r ((xs ≡ []) × (after ≡ before)) (λ place. Picks chooses xs before after place)
picked chooses xs before after count answer (Some place) same some chosen is = (
  answer,
  subst (λ n. chooses before n answer after) same chosen,
  subst (λ n. slice_get xs (answer % n) ≡ Some place) same (sym is),
)
picked chooses xs before after count answer None same some chosen is =
    absurd (let e = is ∙ slice_get-get_or xs (answer % count) 0
    (subst (λ n. answer % count < n) same (mod_below answer count some)) in cc)
