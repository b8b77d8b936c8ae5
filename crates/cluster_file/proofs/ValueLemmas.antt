-- What is known of a value that was read.
use Rattle.std.proofs.Common.{◌≡◌, ◌≤◌, ℕ, ◌||◌, Bool, true, false, ltb}
use Rattle.std.proofs.Common.{List, [], ◌∷◌, Result, Ok, Err, refl, ap, subst, arith}
use Rattle.std.specs.Str.Parse.{digits_value}
use Rattle.std.proofs.lemmas.Bool.{ltb-false}
use Rattle.cluster_file.specs.declared.error.Fault.{Fault}
use Rattle.cluster_file.specs.declared.error.Fault.TheVariants.{NotANumber}
use Rattle.cluster_file.specs.declared.number.Range.{Range}
use Rattle.cluster_file.specs.Lines.{Line}
use Rattle.words.specs.Word.{Word}
use Rattle.cluster_file.specs.Numbers.{is_decimal, within, number_from}
use Rattle.words.specs.Parts.{and_then}
use Rattle.words.proofs.PartLemmas.{bind_ok, guarded, guarded_above, ok_is}
use Rattle.cluster_file.specs.Reading.{placed_at, first_value, without_second, value_of_line}

pub neither_is : (a b : Bool) → (a || b) ≡ false → (a ≡ false) × (b ≡ false)
neither_is false false e = (refl, refl)
neither_is false true e = absurd cc
neither_is true b e = absurd cc

-- a value that is placed, and one that stands alone
pub placed_ok : {A : Type 0} (line word : ℕ) (r : Result A Fault) (x : A) → placed_at line word r ≡ Ok x → r ≡ Ok x
placed_ok line word (Ok y) x e = let same : y ≡ x = cc in ap (λ z. Ok z) same
placed_ok line word (Err d) x e = absurd cc

alone : {A : Type 0} (line : ℕ) (values : List Word) (x y : A) → without_second line values x ≡ Ok y → x ≡ y
alone line [] x y e = cc
alone line (v ∷ []) x y e = cc
alone line (v ∷ w ∷ ws) x y e = absurd cc

-- some word writes the value of a line
pub value_ok : {A : Type 0} (from : Word → Result A Fault) (line : Line) (x : A) → value_of_line from line ≡ Ok x
    → (word : Word) × (from word ≡ Ok x)
unfolding value_of_line
value_ok from line x e =
    let a = bind_ok (first_value line.number line.values) (λ word. and_then (placed_at line.number 2 (from word))
    (λ y. without_second line.number line.values y)) x e in
    let b = bind_ok (placed_at line.number 2 (from a.0)) (λ y. without_second line.number line.values y) x a.2 in
    let same : b.0 ≡ x = alone line.number line.values b.0 x b.2 in
    (a.0, subst (λ y. from a.0 ≡ Ok y) same (placed_ok line.number 2 (from a.0) b.0 b.1))

-- a number is in its range
in_range : (range : Range) (word : Word) (n : ℕ) → number_from range word ≡ Ok n → (range.least ≤ n) × (n ≤ range.most)
unfolding number_from
in_range range word n e =
    let m = digits_value 10 word in
    let a = guarded (is_decimal word) (within range m) NotANumber n e in
    let b = guarded_above (ltb m range.least || ltb range.most m) range.outside (Ok m) n a.1 in
    let same : m ≡ n = ok_is m n b.1 in
    let outside = neither_is (ltb m range.least) (ltb range.most m) b.0 in
    let low = ltb-false _ _ outside.0 in
    let high = ltb-false _ _ outside.1 in
    (omega arith, omega arith)

pub number_in_range : (range : Range) (line : Line) (n : ℕ) → value_of_line (number_from range) line ≡ Ok n
    → (range.least ≤ n) × (n ≤ range.most)
number_in_range range line n e = let found = value_ok (number_from range) line n e in in_range range found.0 n found.1
