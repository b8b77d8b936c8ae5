-- The parts of what is read, taken apart.
use Rattle.std.proofs.Common.{◌≡◌, ◌⊎◌, ℕ, ◌^◌, ◌<◌, ◌≤◌, ◌==◌, Bool, true, false, cond, List, ◌++◌, length, take, drop}
use Rattle.std.proofs.Common.{Option, Some, None, Result, Ok, Err, refl, ap, sym, ◌∙◌, subst, inl, inr, arith}
use Rattle.std.specs.Fmt.{decimal}
use Rattle.std.specs.Str.{bytes_eq}
use Rattle.std.proofs.lemmas.Bool.Decides.{nat_tests}
use Rattle.std.proofs.lemmas.List.{take-append-drop}
use Rattle.std.proofs.lemmas.Slice.Eq.{bytes_eq-Decides}
use Rattle.layout.specs.Layout.{Layout, IsLawful}
use Rattle.cluster_file.specs.declared.file.TheConstants.{DIGEST_LENGTH}
use Rattle.node_strings.specs.Layouts.{layout_string, layout_of_string}
use Rattle.node_strings.specs.Numbers.{number_up_to}
use Rattle.node_strings.proofs.LayoutLemmas.{layout_ok as string_ok, layout_again as string_again}
use Rattle.node_strings.proofs.NumberLemmas.{number_ok as up_to_ok, number_again as up_to_again}
use Rattle.node_strings.specs.Parts.{then_read, if_read, number_or_none, rest_behind, layout_or_none, digest_or_none}

abbrev made : {A : Type 0} → A → Option A
made x = Some x

pub some_is : {A : Type 0} (x y : A) → made x ≡ made y → x ≡ y
some_is x y e = cc

-- the value of a part that is read
pub bind_some : {A B : Type 0} (o : Option A) (f : A → Option B) (y : B) → then_read o f ≡ Some y
    → (x : A) × (o ≡ Some x) × (f x ≡ Some y)
bind_some (Some x) f y e = (x, refl, e)
bind_some None f y e = absurd cc

-- which way a test went
pub chosen : {A : Type 0} (b : Bool) (x y : Option A) (z : A) → cond b x y ≡ Some z
    → ((b ≡ true) × (x ≡ Some z)) ⊎ ((b ≡ false) × (y ≡ Some z))
chosen true x y z e = inl (refl, e)
chosen false x y z e = inr (refl, e)

-- the word is this text, and what was read is what it stands for; or the next words are tried
pub is_word : {A : Type 0} (word text : List ℕ) (x y : Option A) (z : A) → cond (bytes_eq word text) x y ≡ Some z
    → ((word ≡ text) × (x ≡ Some z)) ⊎ (y ≡ Some z)
is_word word text x y z e =
    elim (chosen (bytes_eq word text) x y z e) [
      | inl h ↦ inl ((bytes_eq-Decides word text).0 h.0, h.1)
      | inr h ↦ inr h.1
    ]

-- ---- a number

read_ok : {X E : Type 0} (r : Result X E) (x : X) → if_read r ≡ Some x → r ≡ Ok x
read_ok (Ok y) x e = ap (λ z. Ok z) (some_is y x e)
read_ok (Err fault) x e = absurd cc

pub number_ok : (most : ℕ) (string : List ℕ) (n : ℕ) → 9 ≤ most → most < 2 ^ 64 → number_or_none most string ≡ Some n
    → (string ≡ decimal n) × (n ≤ most)
number_ok most string n nine lt e = up_to_ok tt tt most string n nine lt (read_ok (number_up_to {E = Unit {0}} tt most tt string) n e)

pub number_again : (most n : ℕ) → n ≤ most → most < 2 ^ 64 → number_or_none most (decimal n) ≡ Some n
number_again most n le lt = ap if_read (up_to_again tt tt most n le lt)

-- ---- a layout

pub layout_ok : (string : List ℕ) (layout : Layout) → layout_or_none string ≡ Some layout
    → IsLawful layout × (string ≡ layout_string layout)
layout_ok string layout e = string_ok tt string layout (read_ok (layout_of_string {E = Unit {0}} tt string) layout e)

pub layout_again : (layout : Layout) → IsLawful layout → layout_or_none (layout_string layout) ≡ Some layout
layout_again layout lawful = ap if_read (string_again tt layout lawful)

-- ---- a digest

pub digest_ok : (string digest : List ℕ) → digest_or_none string ≡ Some digest → (string ≡ digest) × (length digest ≡ DIGEST_LENGTH)
digest_ok string digest e =
    elim (chosen (length string == DIGEST_LENGTH) (Some string) None digest e) [
      | inl h ↦ let same = some_is string digest h.1 in (same, subst (λ s. length s ≡ DIGEST_LENGTH) same (grind (arith, nat_tests, h.0)))
      | inr h ↦ absurd cc
    ]

is_long : (n : ℕ) → n ≡ DIGEST_LENGTH → (n == DIGEST_LENGTH) ≡ true
is_long n e = grind (arith, nat_tests, e)

pub digest_again : (digest : List ℕ) → length digest ≡ DIGEST_LENGTH → digest_or_none digest ≡ Some digest
digest_again digest e = ap (λ b. cond b (Some digest) None) (is_long (length digest) e)

-- ---- what stands behind some bytes

pub behind_ok : (front string rest : List ℕ) → rest_behind front string ≡ Some rest → string ≡ front ++ rest
behind_ok front string rest e =
    elim (chosen (bytes_eq (take (length front) string) front) (Some (drop (length front) string)) None rest e) [
      | inl h ↦
          let same = (bytes_eq-Decides (take (length front) string) front).0 h.0 in
          sym (take-append-drop (length front) string)
          ∙ ap (λ s. s ++ drop (length front) string) same
          ∙ ap (λ s. front ++ s) (some_is (drop (length front) string) rest h.1)
      | inr h ↦ absurd cc
    ]
