-- Sums over members and positions.
use Rattle.std.proofs.lemmas.Option.{slice_get_within, get_or_from_slice_get}
use Rattle.std.proofs.lemmas.List.Sums.{sum_by_more}
use Rattle.std.proofs.Common.{◌≡◌, ◌∙◌, ◌+◌, ◌≤◌, ℕ, zero, suc, List, [], ◌∷◌, length, Option, Some, None, ap, ap₂, arith, refl, sym}
use Rattle.std.proofs.Common.{get_or, take, nat_eq, codes, ◌<◌, ◌^◌}
use Rattle.std.specs.Prelude.{slice_get, sum_by, IsTrue, ◌↔◌}
use Rattle.std.proofs.lemmas.Bool.Decides.{nat_tests}
use Rattle.std.specs.List.{AllByRecursion}
use Rattle.std.specs.Io.Iter.{u64_saturate}
use Rattle.tag.specs.declared.limits.TheConstants.{MOST_MEMBERS, MOST_POSITIONS}
use Rattle.layout.specs.Layout.{Layout, IsLawful}
use Rattle.bank.specs.Bank.{Bank}
use Rattle.record.specs.Accounts.{member_sum, position_bytes, stored, stored_bytes}
use Rattle.record.specs.Records.{Object, no_layout}
use Rattle.record.specs.Accounts as of
use Rattle.register.specs.State.{State}
use Rattle.cluster.specs.Cluster.{Cluster, named}
use Rattle.soak_parts.specs.Audit.{AreAccounted, AreAdded, bank_bytes_at, bytes_if, of_both, of_object}

-- one more at the end
pub sum_last : (f : ℕ → ℕ) (from count : ℕ) → member_sum f from (suc count) ≡ member_sum f from count + f (from + count)
sum_last f from zero = let e : from + 0 ≡ from = omega arith in let same = ap f e in omega (arith, same)
sum_last f from (suc count) =
    let e : suc from + count ≡ from + suc count = omega arith in
    let same = ap f e in
    let rest = sum_last f (suc from) count in
    omega (arith, same, rest)

sum_moved : (f : ℕ → ℕ) (from count : ℕ) → member_sum f (suc from) count ≡ member_sum (λ i. f (suc i)) from count
sum_moved f from zero = refl
sum_moved f from (suc count) = let rest = sum_moved f (suc from) count in omega (arith, rest)

none_sum : (f : ℕ → ℕ) → ((i : ℕ) → f i ≡ 0) → (from count : ℕ) → member_sum f from count ≡ 0
none_sum f none from zero = refl
none_sum f none from (suc count) = let rest = none_sum f none (suc from) count in let here = none from in omega (arith, rest, here)

no_bank : (server : ℕ) (member : Option ℕ) → bytes_if server member None ≡ 0
no_bank server None = refl
no_bank server (Some m) = refl

-- what the banks of a position store, member by member
pub members_sum : (server : ℕ) (members : List ℕ) (banks : List Bank) (count : ℕ) → length members ≤ count
    → member_sum (λ i. bytes_if server (slice_get members i) (slice_get banks i)) 0 count ≡ position_bytes server members banks
members_sum server [] banks count few = none_sum _ (λ i. refl) 0 count
members_sum server (m ∷ ms) [] count few = none_sum _ (λ i. no_bank server (slice_get (m ∷ ms) i)) 0 count
members_sum server (m ∷ ms) (b ∷ bs) zero few = absurd (omega arith)
members_sum server (m ∷ ms) (b ∷ bs) (suc count) few =
    let f : ℕ → ℕ = λ i. bytes_if server (slice_get (m ∷ ms) i) (slice_get (b ∷ bs) i) in
    let moved = sum_moved f 0 count in
    let rest = members_sum server ms bs count (omega arith) in
    omega (arith, moved, rest)

no_members : (server : ℕ) (members : List ℕ) → position_bytes server members [] ≡ 0
no_members server [] = refl
no_members server (m ∷ ms) = refl

-- what the banks of an object store, position by position
pub positions_sum : (server : ℕ) (layouts : List Layout) (banks : List (List Bank)) (count : ℕ) → length layouts ≤ count
    → member_sum (λ p. position_bytes server (get_or layouts p no_layout).members (get_or banks p [])) 0 count ≡ stored_bytes server layouts
    banks
positions_sum server [] banks count few = none_sum _ (λ i. refl) 0 count
positions_sum server (l ∷ ls) [] count few = none_sum _ (λ i. no_members server (get_or (l ∷ ls) i no_layout).members) 0 count
positions_sum server (l ∷ ls) (b ∷ bs) zero few = absurd (omega arith)
positions_sum server (l ∷ ls) (b ∷ bs) (suc count) few =
    let f : ℕ → ℕ = λ p. position_bytes server (get_or (l ∷ ls) p no_layout).members (get_or (b ∷ bs) p []) in
    let moved = sum_moved f 0 count in
    let rest = positions_sum server ls bs count (omega arith) in
    omega (arith, moved, rest)

-- one more at the end of a sum from 0
pub sum_more : (f : ℕ → ℕ) (count : ℕ) → member_sum f 0 (count + 1) ≡ member_sum f 0 count + f count
sum_more f count =
    let e : count + 1 ≡ suc count = omega arith in
    let same = ap (member_sum f 0) e in
    let last = sum_last f 0 count in
    let from_none = ap f (let z : 0 + count ≡ count = omega arith in z) in
    omega (arith, same, last, from_none)

-- sums of capped numbers are capped sums
pub capped_sum : (a b : ℕ) → u64_saturate (u64_saturate a + u64_saturate b) ≡ u64_saturate (a + b)
capped_sum a b = grind arith

-- a capped total grows by a capped number
pub capped_more : (total s x y sum more : ℕ) → total ≡ u64_saturate s → x ≡ u64_saturate y → sum ≡ u64_saturate (total + x)
    → more ≡ s + y → sum ≡ u64_saturate more
capped_more total s x y sum more is part added grown =
    added ∙ (ap₂ (λ a b. u64_saturate (a + b)) is part ∙ (capped_sum s y ∙ ap u64_saturate (sym grown)))

-- sums of equal numbers
pub sum_same : (f g : ℕ → ℕ) → ((i : ℕ) → f i ≡ g i) → (from count : ℕ) → member_sum f from count ≡ member_sum g from count
sum_same f g same from zero = refl
sum_same f g same from (suc count) = ap₂ (λ a b. a + b) (same from) (sum_same f g same (suc from) count)

-- each layout has few members
few_members : (layouts : List Layout) → AllByRecursion IsLawful layouts → (p : ℕ)
    → length (get_or layouts p no_layout).members ≤ MOST_MEMBERS
few_members [] lawful p = omega arith
few_members (l ∷ ls) lawful zero = lawful.0.few
few_members (l ∷ ls) lawful (suc p) = few_members ls lawful.1 p

-- what a server stores of an object, position by position and member by member
pub stored_sum : (object : Object) (server : ℕ) → AllByRecursion IsLawful object.layouts → length object.layouts ≤ MOST_POSITIONS
    → member_sum (λ p. member_sum (bank_bytes_at object server p) 0 MOST_MEMBERS) 0 MOST_POSITIONS ≡ stored object server
stored_sum object server lawful few =
    sum_same _ _
    (λ p. members_sum server (get_or object.layouts p no_layout).members (get_or object.banks p []) MOST_MEMBERS
    (few_members object.layouts lawful p)) 0 MOST_POSITIONS
    ∙ positions_sum server object.layouts object.banks MOST_POSITIONS few

-- a number below the cap is itself
pub capped_small : (x y : ℕ) → x ≡ y → y < 2 ^ 64 → x ≡ u64_saturate y
capped_small x y same small = grind (arith, same, small)

-- one element more of a sum
pub sum_at : {X : Type 0} (f : X → ℕ) (xs : List X) (i : ℕ) (x : X) → slice_get xs i ≡ Some x
    → sum_by f (take (i + 1) xs) ≡ sum_by f (take i xs) + f x
sum_at f xs i x at =
    let below : i < length xs = slice_get_within xs i x at in
    let is : get_or xs i x ≡ x = get_or_from_slice_get xs i x x at in
    let more = sum_by_more f xs i x below in
    let same = ap f is in
    omega (arith, more, same)

-- a capped sum equals a number within the limit of bytes exactly where the sum does
pub capped_equal : (x y s a : ℕ) → x ≡ u64_saturate s → y ≡ a → a ≤ 2 ^ 62 → IsTrue (nat_eq x y) ↔ (a ≡ s)
capped_equal x y s a is at few = ((λ e. grind (arith, nat_tests, is, at, few, e)), λ e. grind (arith, nat_tests, is, at, few, e))

-- what is read of both objects, where they are there
both_is : (cluster : Cluster) (one other : State) → named cluster.objects (codes "a") ≡ Some one
    → named cluster.objects (codes "b") ≡ Some other
    → (read : Object → ℕ) → of_both cluster read ≡ read one.object + read other.object
both_is cluster one other first second read = ap₂ (λ a b. of_object a read + of_object b read) first second

-- the accounts are those of the two objects
pub accounted_of : (cluster : Cluster) (one other : State) → named cluster.objects (codes "a") ≡ Some one
    → named cluster.objects (codes "b") ≡ Some other
    → AreAdded cluster one.object other.object ↔ AreAccounted cluster
accounted_of cluster one other first second = (
  (λ added. record {
    servers = λ s less. added.0 s less ∙ sym (both_is cluster one other first second (λ o. of.stored o s));
    together = added.1 ∙ sum_same _ _ (λ s. sym (both_is cluster one other first second (λ o. of.stored o s))) 0 (length cluster.servers);
    mailed = added.2 ∙ sym (both_is cluster one other first second of.mailed);
  }),
  λ is. (
    (λ s less. is.servers s less ∙ both_is cluster one other first second (λ o. of.stored o s)),
    is.together ∙ sum_same _ _ (λ s. both_is cluster one other first second (λ o. of.stored o s)) 0 (length cluster.servers),
    is.mailed ∙ both_is cluster one other first second of.mailed,
  ),
)
