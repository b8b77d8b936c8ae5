-- What was read, taken apart.
use Rattle.std.proofs.Common.{◌≡◌, ◌⊎◌, ℕ, Bool, true, false, cond, List, Result, Ok, Err, refl, inl, inr}
use Rattle.std.specs.Str.{bytes_eq}
use Rattle.std.proofs.lemmas.Slice.Eq.{bytes_eq-Decides}
use Rattle.words.specs.Parts.{and_then}

-- the value of a part that is no fault
pub bind_ok : {E A B : Type 0} (r : Result A E) (f : A → Result B E) (y : B) → and_then r f ≡ Ok y
    → (x : A) × (r ≡ Ok x) × (f x ≡ Ok y)
bind_ok (Ok x) f y e = (x, refl, e)
bind_ok (Err d) f y e = absurd cc

-- a test that gave no fault
pub guarded : {E A : Type 0} (b : Bool) (x : Result A E) (d : E) (y : A) → cond b x (Err d) ≡ Ok y → (b ≡ true) × (x ≡ Ok y)
guarded true x d y e = (refl, e)
guarded false x d y e = absurd cc

pub guarded_above : {E A : Type 0} (b : Bool) (d : E) (x : Result A E) (y : A) → cond b (Err d) x ≡ Ok y → (b ≡ false) × (x ≡ Ok y)
guarded_above true d x y e = absurd cc
guarded_above false d x y e = (refl, e)

abbrev made : {E A : Type 0} → A → Result A E
made x = Ok x

pub ok_is : {E A : Type 0} (x y : A) → made {E = E} x ≡ made {E = E} y → x ≡ y
ok_is x y e = cc

-- which way a test went
pub chosen : {E A : Type 0} (b : Bool) (x y : Result A E) (z : A) → cond b x y ≡ Ok z → ((b ≡ true) × (x ≡ Ok z)) ⊎ (y ≡ Ok z)
chosen true x y z e = inl (refl, e)
chosen false x y z e = inr e

-- the word is this text, and what was read is what it stands for; or the next words are tried
pub is_word : {E A : Type 0} (word text : List ℕ) (x y : Result A E) (z : A) → cond (bytes_eq word text) x y ≡ Ok z
    → ((word ≡ text) × (x ≡ Ok z)) ⊎ (y ≡ Ok z)
is_word word text x y z e =
    elim (chosen (bytes_eq word text) x y z e) [
      | inl h ↦ inl ((bytes_eq-Decides word text).0 h.0, h.1)
      | inr h ↦ inr h
    ]

-- a refusal is no success
pub no_success : false ≡ true → ⊥
no_success e = absurd cc
