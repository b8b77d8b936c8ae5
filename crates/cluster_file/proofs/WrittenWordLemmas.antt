-- Words that write what a file has are read as that.
use Rattle.std.proofs.Common.{◌≡◌, ◌||◌, ◌<◌, ◌≤◌, ◌^◌, ◌+◌, ℕ, Bool, true, false, ltb}
use Rattle.std.proofs.Common.{List, [], ◌∷◌, length, Option, Some, None, Result, Ok, refl, ap, subst, ◌∙◌, codes, arith}
use Rattle.std.specs.List.{AllByRecursion}
use Rattle.std.specs.Str.{bytes_eq}
use Rattle.std.proofs.lemmas.Bool.Decides.{nat_tests}
use Rattle.std.proofs.lemmas.Slice.Eq.{bytes_eq-Decides}
use Rattle.layout.specs.Quorum.{has}
use Rattle.tag.specs.declared.limits.TheConstants.{MOST_SERVERS}
use Rattle.cluster_file.specs.declared.number.Range.{Range}
use Rattle.words.specs.Word.{Word}
use Rattle.words.specs.Parts.{and_then}
use Rattle.cluster_file.specs.Numbers.{is_decimal, number_from, delta_from, mover_from, node_from, is_among, of_a_byte, of_32_bits}
use Rattle.cluster_file.specs.Written.{WritesNumber, WriteEach, WritesDelta, IsDelta}
use Rattle.cluster_file.proofs.MoverLemmas.{AreNodes}

pub join : {E A B : Type 0} (r : Result A E) (f : A → Result B E) (x : A) (y : B) → r ≡ Ok x → f x ≡ Ok y → and_then r f ≡ Ok y
join r f x y e next = ap (λ q. and_then q f) e ∙ next

pub not_less : (a b : ℕ) → b ≤ a → ltb a b ≡ false
not_less a b le = grind (arith, nat_tests)

pub less : (a b : ℕ) → a < b → ltb a b ≡ true
less a b lt = grind (arith, nat_tests)

pub number_there : (range : Range) (word : Word) (n : ℕ) → WritesNumber word n → range.least ≤ n → n ≤ range.most
    → number_from range word ≡ Ok n
unfolding number_from
number_there range word n written low high =
    rw (written.0, written.1, not_less n range.least low, not_less range.most n high) refl

has_small : (nodes : List ℕ) (m : ℕ) → AllByRecursion (λ node. node < 2 ^ 8) nodes → has nodes m ≡ true → m < 2 ^ 8
has_small [] m small there = absurd cc
has_small (node ∷ nodes) m small there = grind (arith, nat_tests, small.0, has_small nodes m small.1)

pub are_nodes : (words : List Word) (nodes : List ℕ) → WriteEach words nodes → AllByRecursion (λ node. node < 2 ^ 8) nodes
    → AreNodes words nodes
are_nodes [] [] written small = tt
are_nodes [] (n ∷ ns) written small = absurd written
are_nodes (word ∷ words) [] written small = absurd written
are_nodes (word ∷ words) (n ∷ ns) written small =
    let below = small.0 in
    (number_there of_a_byte word n written.0 (omega arith) (omega arith), are_nodes words ns written.1 small.1)

-- one of two lists of bytes has the mover
pub mover_small : (nodes later : List ℕ) (m : ℕ) (t : Bool) → AllByRecursion (λ node. node < 2 ^ 8) nodes
    → AllByRecursion (λ node. node < 2 ^ 8) later → has nodes m ≡ t → (t || has later m) ≡ true → m < 2 ^ 8
mover_small nodes later m true small small_later there named = has_small nodes m small there
mover_small nodes later m false small small_later there named = has_small later m small_later named

pub mover_there : (nodes : List ℕ) (later : List Word) (word : Word) (m : ℕ) → WritesNumber word m → m < 2 ^ 8
    → is_among nodes later m ≡ true → mover_from nodes later word ≡ Ok m
unfolding mover_from
mover_there nodes later word m written below among =
    join (number_from of_a_byte word) _ m m (number_there of_a_byte word m written (omega arith) (omega arith)) (rw among refl)

pub node_there : (others listed : List ℕ) (word : Word) (n : ℕ) → WritesNumber word n → n < 2 ^ 8 → has others n ≡ false
    → has listed n ≡ false → length others + length listed < MOST_SERVERS → node_from others listed word ≡ Ok n
unfolding node_from
node_there others listed word n written small none none_listed room =
    join (number_from of_a_byte word) _ n n (number_there of_a_byte word n written (omega arith) (omega arith))
    (rw (none, none_listed, less (length others + length listed) MOST_SERVERS room) refl)

not_none : (t : Bool) (word : Word) → bytes_eq word (codes "none") ≡ t → is_decimal word ≡ true → t ≡ false
not_none false word test decimal = refl
not_none true word test decimal =
    let same = (bytes_eq-Decides word (codes "none")).0 test in
    let clash : is_decimal (codes "none") ≡ true = subst (λ (w : Word). is_decimal w ≡ true) same decimal in absurd cc

pub delta_there : (word : Word) (delta : Option ℕ) → WritesDelta word delta → IsDelta delta → delta_from word ≡ Ok delta
unfolding delta_from
delta_there word None written small = rw ((bytes_eq-Decides word (codes "none")).1 written) refl
delta_there word (Some n) written small =
    let test = not_none (bytes_eq word (codes "none")) word refl written.0 in
    rw test (join (number_from of_32_bits word) _ n (Some n) (number_there of_32_bits word n written (omega arith) (omega arith)) refl)
